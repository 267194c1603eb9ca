-- What a call filled lies within its slices. What was read of a text, and its seconds as bytes; seconds as cells. Assumes nothing.
use Rattle.std.specs.Prelude.{Result, Ok, Err, IfOk}
use mathlib.Core.Path.{◌≡◌, ap, sym, ◌∙◌}
use mathlib.Core.Bool.{Bool}
use mathlib.Core.List.{List}
use Prim.Native.Nat.{ℕ, ◌*◌, ◌/◌, ◌≤◌}
use lib.ListN.{length, get_or, take}
use Rattle.slices.specs.declared.Refusal.{Refusal}
use Rattle.slices.specs.Refusals.{Fault, sound, fault}
use Rattle.slices.specs.Filling.{written, filled, Fills}
use Rattle.slices.specs.Halves.{halves_of, half_bytes_of}
use Rattle.slices.proofs.Refusals.{refuses, gives, was-given}
use Rattle.slices.proofs.Filling.{written-front, filled-front}
use Rattle.slices.proofs.Halved.{length-half_bytes_of, length-halves_of}
use Rattle.blocks.specs.Text.{timed, text_of}
use Rattle.notation.specs.declared.Levelled.{Levelled}
use Rattle.notation.specs.Reading as notation
use Rattle.notation.specs.Reading.{Sheet, sheet_in, said, read_fault, SheetRead}
use Rattle.notation.specs.Writing.{write_fault}
use Rattle.notation.proofs.Taken.{read-refused, read-given, cells_count, cells-front}
use Rattle.conversion.specs.declared.Packed.{Packed}
use Rattle.conversion.specs.Forms.{seconds_bytes, told_of, pack_fault, Packs, level_of_value, Unpacks}

pub fills-within : {f : Fault} {new old out : List ℕ} {r : Result ℕ Refusal} → Fills f new old out r → IfOk r (λ n. n ≤ length out)
fills-within {r = Ok n} h = let g = was-given _ _ h.says in (filled-front _ _ g.0 g.1 h.cells).0
fills-within {r = Err q} h = tt

pub packs-within : {x : Result Sheet Refusal} {sheet seconds sheet' seconds' : List ℕ} {r : Result Packed Refusal} {p : Packed}
    → Packs x sheet seconds sheet' seconds' r → r ≡ Ok p → (p.sheet ≤ length sheet') × (p.seconds ≤ length seconds')
packs-within {x} {sheet} {seconds} h e =
    let g = was-given (pack_fault x (length sheet)) (told_of (said x)) (sym e ∙ h.says) in (
      (filled-front (said x).bytes sheet g.0 (ap (λ (t : Packed). t.sheet) g.1) h.cells).0,
      (filled-front (seconds_bytes (said x)) seconds g.0 (ap (λ (t : Packed). t.seconds) g.1) h.times).0,
    )

-- a text of which nothing was read, with 32 cells for the seconds: the slices are as they were
pub packs-refused : {x : Result Sheet Refusal} {sheet cells sheet' cells' : List ℕ} {r : Result Levelled Refusal} {q : Refusal} (seconds : List ℕ)
    → SheetRead x sheet cells sheet' cells' r → length cells ≡ 32 → r ≡ Err q → Packs x sheet seconds sheet' seconds (Err q)
packs-refused {x} {sheet} {cells} {q = q} seconds h many e = record {
  says = refuses (told_of (said x)) was;
  cells = h.sheet ∙ ap (λ (k : ℕ). filled (read_fault x (length sheet) k) (said x).bytes sheet) many;
  times = ap (λ (f : Fault). filled f (seconds_bytes (said x)) seconds) (sym was);
}
  where
    was : pack_fault x (length sheet) ≡ fault q
    was = ap (read_fault x (length sheet)) (sym many) ∙ read-refused h e

-- a text that was read, with 32 cells for the seconds
module _ (t : List ℕ) {sheet cells sheet' cells' : List ℕ} {r : Result Levelled Refusal} {p : Levelled} (h : SheetRead (sheet_in t) sheet cells sheet' cells' r) (many : length cells ≡ 32) (e : r ≡ Ok p) where
  nothing : (read_fault (sheet_in t) (length sheet) (length cells) ≡ sound) × (p ≡ notation.told_of (said (sheet_in t)))
  nothing = read-given h e

  -- by the first byte of the packed sheet, the cells that have seconds
  module _ {first m : ℕ} (f : first ≡ get_or sheet' 0 0) (k : m ≡ timed p.level first) where
    pub packs-filled : {seconds seconds' : List ℕ} → seconds' ≡ written (half_bytes_of (take m cells')) seconds → Packs (sheet_in t) sheet seconds sheet' seconds' (Ok (record { level = p.level; sheet = p.filled; seconds = m * 2 }))
    packs-filled {seconds} d = record {
      says =
          (λ i. Ok (record { level = (nothing.1 i).level; sheet = (nothing.1 i).filled; seconds = bytes_count i }))
          ∙ gives (told_of (said (sheet_in t))) was;
      cells = h.sheet ∙ ap (λ (c : ℕ). filled (read_fault (sheet_in t) (length sheet) c) (said (sheet_in t)).bytes sheet) many;
      times =
          d
          ∙ (ap (λ (w : List ℕ). written (half_bytes_of w) seconds) (cells-front t h e f k).1
          ∙ ap (λ (g : Fault). filled g (seconds_bytes (said (sheet_in t))) seconds) (sym was));
    }
      where
        was : pack_fault (sheet_in t) (length sheet) ≡ sound
        was = ap (read_fault (sheet_in t) (length sheet)) (sym many) ∙ nothing.0

        bytes_count : m * 2 ≡ length (seconds_bytes (said (sheet_in t)))
        bytes_count = ap (λ (c : ℕ). c * 2) (cells_count t h e f k) ∙ sym (length-half_bytes_of (said (sheet_in t)).seconds)

-- the text that was written, of seconds that were bytes
pub cells-of : (bytes old : List ℕ) {cells : List ℕ} (k : ℕ) → k ≡ length bytes / 2 → cells ≡ written (halves_of bytes) old → take k cells ≡ halves_of bytes
cells-of bytes old k e d = ap (take k) d ∙ written-front (halves_of bytes) old (length-halves_of bytes ∙ sym e)

pub unpacks : (named : Bool) (b seconds old : List ℕ) {level : ℕ} {w out : List ℕ} {r : Result ℕ Refusal} → level ≡ level_of_value named → w ≡ halves_of seconds
    → Fills (write_fault level w b (length old)) (text_of level w b) old out r → Unpacks named b seconds old out r
unpacks named b seconds old e d h = rw (e, d) at h
