-- Texts made in a lent slice, one after the other. Assumes nothing.
use mathlib.Core.Path.{◌≡◌, refl, ap, sym, subst, ◌∙◌}
use mathlib.Core.List.{List, [], ◌++◌, append_assoc}
use Prim.Native.Nat.{ℕ, ◌+◌, ◌-◌, ◌≤◌, ◌<◌}
use native.Mathlib.Omega.{arith}
use lib.ListN.{length, take, drop, length-append}
use Rattle.slices.specs.declared.Part.{Part}
use Rattle.slices.specs.declared.Part.TheVariants.{First, Second, Opening, Loop, Out, Work, Cursor, Seconds}
use Rattle.slices.specs.declared.Refusal.{Refusal}
use Rattle.slices.specs.Refusals.{number_of}
use Rattle.slices.proofs.Filling.{Begun, begun_first, begun_more, lent_length, written_none}
use Rattle.numbers.specs.Digits.{field}
use Rattle.numbers.specs.Storing.{Stored}
use Rattle.numbers.proofs.Digits.{length-field, digits-few}
use Rattle.numbers.proofs.Stores.{stored-written}
use Rattle.console.specs.Printed.{part_field, refusal_title, refusal_text_of, Shows}

pub shows-begun : {d old out : List ℕ} {n : ℕ} → Shows d old out n → Begun d old out
shows-begun {d} s = begun_first s.cells (omega (arith, s.says, s.fits))

-- nothing is said, and nothing changed
pub shows-none : (old : List ℕ) → Shows [] old old 0
shows-none old = record { says = refl; fits = omega arith; cells = written_none old }

pub shows-as : {d e old out : List ℕ} {n : ℕ} → d ≡ e → Shows d old out n → Shows e old out n
shows-as {old = old} {out = out} {n = n} p s = subst (λ (x : List ℕ). Shows x old out n) p s

-- one text more, made in the part that is lent from the end of the last on
pub shows_more : {d old out : List ℕ} (chunk last : List ℕ) {a k : ℕ} → Shows d old out a → Shows chunk (take (length out - a) (drop a out)) last k
    → Shows (d ++ chunk) old (take a out ++ (last ++ drop (length out - a) (drop a out))) (a + k)
shows_more {d} {old} {out} chunk last {a} {k} s t = record {
  says = omega (arith, s.says, t.says, length-append d chunk);
  fits = room;
  cells = (begun_more chunk last (shows-begun s) (sym s.says) (omega (arith, t.says, room)) t.cells).cells;
}
  where
    room : a + k ≤ length old
    room = omega (arith, t.fits, s.fits, lent_length {a = a} (shows-begun s) s.fits)

-- a text that is stored from the start and has room is shown
pub stored-shows : {x old new : List ℕ} {r room : ℕ} → Stored old 0 x new r → r ≤ room → room ≤ length old → Shows x old new r
stored-shows {x} {old} s h k = record {
  says = omega (arith, s.next);
  fits = omega arith;
  cells = stored-written s (omega (arith, s.next));
}

-- a number's digits and the byte after them
pub field-few : (n e : ℕ) → n < 18446744073709551616 → length (field n e) ≤ 21
field-few n e h = omega (arith, length-field n e, digits-few n h)

pub number-shown : (n end : ℕ) {old out : List ℕ} {r : ℕ} → n < 18446744073709551616 → 21 ≤ length old → Stored old 0 (field n end) out r → Shows (field n end) old out r × (r ≤ 21)
number-shown n end {r = r} h l s = let few : r ≤ 21 = omega (arith, s.next, field-few n end h) in (stored-shows {room = 21} s few l, few)

-- a part's name
part_length : (q : Part) → length (part_field q) ≤ 8
part_length First = omega arith
part_length Second = omega arith
part_length Opening = omega arith
part_length Loop = omega arith
part_length Out = omega arith
part_length Work = omega arith
part_length Cursor = omega arith
part_length Seconds = omega arith

pub part-shown : {part : Part} (q : Part) {old out : List ℕ} {n : ℕ} → part ≡ q → Shows (part_field q) old out n
    → Shows (part_field part) old out n × (n ≤ 8)
part-shown q e s = (shows-as (ap part_field (sym e)) s, omega (arith, s.says, part_length q))

-- the fields of a refusal, in their order
pub four : (a b c d : List ℕ) → ((a ++ b) ++ c) ++ d ≡ a ++ b ++ c ++ d
four a b c d = simp append_assoc

pub refusal-joined : (r : Refusal) {w : ℕ} → w ≡ number_of r.reason → ((refusal_title ++ field w 32) ++ part_field r.part) ++ field r.place 10 ≡ refusal_text_of r
refusal-joined r {w} e =
    ap (λ (n : ℕ). ((refusal_title ++ field n 32) ++ part_field r.part) ++ field r.place 10) e
    ∙ four refusal_title (field (number_of r.reason) 32) (part_field r.part) (field r.place 10)
