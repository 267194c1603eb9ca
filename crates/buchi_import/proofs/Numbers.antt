-- The numbers of a text: what is read is a text of numbers that fit, and such a text is read. Assumes nothing.
use Rattle.std.specs.Prelude.{Result, Ok, Err}
use Rattle.slices.specs.declared.Refusal.{Refusal}
use mathlib.Core.Path.{◌≡◌, refl, ap, sym, subst, ◌∙◌}
use mathlib.Core.Bool.{false}
use mathlib.Core.List.{List, [], ◌∷◌, ◌++◌}
use Prim.Native.Nat.{ℕ, zero, suc, ◌+◌, ◌%◌, ◌≤◌, ◌<◌}
use native.Mathlib.Omega.{arith}
use lib.ListN.{length, length-append}
use Rattle.slices.specs.declared.Part.TheVariants.{First}
use Rattle.slices.proofs.Refusals.{never-given}
use Rattle.numbers.proofs.Standing.{At, at-append, at_left, at_right, at_self, at-whole}
use Rattle.format.specs.Format.{Found, stands, reading, printed, Fits, literal}
use Rattle.format.specs.Lines.{repeats, repeated}
use Rattle.format.proofs.Inverse.{stands-other, stands-past, Read, reading-was, reading-is}
use Rattle.format.proofs.Fixed.{fixed-literal}
use Rattle.format.proofs.Chained.{chained-begins, chained-is, chained-was}
use Rattle.buchi_import.specs.Text.{start_line}
use Rattle.buchi_import.specs.Reading.{Numbers, of_start, transition, transitions, after_last, accepting_state, accepting_states, move_count, letters_in, ended, moved, started, numbers_below}
use Rattle.buchi_import.proofs.Transitions.{shape, moves-begin}
use Rattle.buchi_import.proofs.Accepting.{rising-was, accepting-begin}
use Rattle.buchi_import.proofs.Onward.{ended-all, moved_on, moved-was, moved-whole}

-- A text was read: it is that of numbers that fit, as many transitions for each state, and some accepting states.
pub record Was (limit : ℕ) (t : List ℕ) (w : Numbers) : Type 0 where
  pub count : ℕ
  pub final_count : ℕ
  pub moves : Fits (transitions limit count) w.moves
  pub finals : Fits (accepting_states limit final_count) w.finals
  pub counted : move_count w.moves ≡ count
  pub some : 0 < count
  pub whole : count % letters_in w.moves ≡ 0
  pub final : 0 < final_count
  pub text : t ≡ start_line ++ printed (transitions limit count) w.moves ++ printed (accepting_states limit final_count) w.finals

-- three numbers for each transition
pub counts : (limit m : ℕ) (vs : List ℕ) → Fits (transitions limit m) vs → move_count vs ≡ m
counts limit m vs h = omega (arith, (shape limit m vs h).long)

-- what is read is the text of the numbers found
module _ (limit : ℕ) (t : List ℕ) where
  moves-was : (at : ℕ) (g : Found) → at ≤ length t → repeated First t 115 (transitions limit) at ≡ Ok g → Read t (transitions limit (repeats First t 115 (transitions limit) at)) at g
  unfolding transitions
  moves-was at g h e = chained-was (λ i vs. transition limit i (of_start i vs)) 115 (moves-begin limit) t at First g h e

  accepting-was : (at : ℕ) (g : Found) → at ≤ length t → repeated First t 91 (accepting_states limit) at ≡ Ok g → Read t (accepting_states limit (repeats First t 91 (accepting_states limit) at)) at g
  unfolding accepting_states
  accepting-was at g h e = chained-was (λ i vs. accepting_state limit (after_last i vs)) 91 (accepting-begin limit) t at First g h e

  -- from the lines of each part, where they stand
  joined : (f g h : Found) (m k : ℕ) → Read t (literal start_line) 0 f → Read t (transitions limit m) f.next g → (move_count g.values ≡ 0 → ⊥) × (move_count g.values % letters_in g.values ≡ 0) → Read t (accepting_states limit k) g.next h → h.next ≡ length t
      → (length h.values ≡ 0 → ⊥) → Was limit t (record { moves = g.values; finals = h.values })
  joined f g h m k a b even c e some = record {
    count = m;
    final_count = k;
    moves = b.fits;
    finals = c.fits;
    counted = counted;
    some = positive m (λ z. even.0 (counted ∙ z));
    whole = ap (λ (i : ℕ). i % letters_in g.values) (sym counted) ∙ even.1;
    final = positive k (λ z. some ((rising-was limit k h.values c.fits).long ∙ z));
    text = at-whole t (start_line ++ x ++ y) (at-append t 0 start_line (x ++ y) start (at-append t 4 x y first second)) (omega (arith, length-append start_line (x ++ y), length-append x y, c.next, b.next, at_x, e));
  }
    where
      x : List ℕ
      x = printed (transitions limit m) g.values

      y : List ℕ
      y = printed (accepting_states limit k) h.values

      counted : move_count g.values ≡ m
      counted = counts limit m g.values b.fits

      positive : (n : ℕ) → (n ≡ 0 → ⊥) → 0 < n
      positive zero z = absurd (z refl)
      positive (suc n) z = omega arith

      text-start : printed (literal start_line) f.values ≡ start_line
      text-start = ap (printed (literal start_line)) ((fixed-literal start_line).none f.values a.fits) ∙ (fixed-literal start_line).text

      at_x : f.next ≡ 4
      at_x = omega (arith, a.next, ap length text-start)

      at_y : g.next ≡ 4 + length x
      at_y = omega (arith, b.next, at_x)

      start : At t 0 start_line
      start = subst (At t 0) text-start a.here

      first : At t 4 x
      first = subst (λ (i : ℕ). At t i x) at_x b.here

      second : At t (4 + length x) y
      second = subst (λ (i : ℕ). At t i y) at_y c.here

  pub numbers-was : (w : Numbers) → numbers_below limit t ≡ Ok w → Was limit t w
  unfolding numbers_below
  numbers-was w d = begun (reading First t (literal start_line) 0) refl d
    where
      moving : (f : Found) → Read t (literal start_line) 0 f → (z : Result Found Refusal) → repeated First t 115 (transitions limit) f.next ≡ z → moved limit t z ≡ Ok w → Was limit t w
      moving f a (Err r) e k = absurd (never-given k)
      moving f a (Ok g) e k =
          let b = moves-was f.next g (omega (arith, a.next, a.here.within)) e in
          let z = moved-was limit t g.values g.next w k in
          let c = accepting-was g.next z.found (omega (arith, b.next, b.here.within)) z.says in
          subst (Was limit t) (sym z.answer) (joined f g z.found _ _ a b (moved-whole limit t g.values g.next w k) c z.end z.some)

      begun : (z : Result Found Refusal) → reading First t (literal start_line) 0 ≡ z → started limit t z ≡ Ok w → Was limit t w
      begun (Err r) e k = absurd (never-given k)
      begun (Ok f) e k = moving f (reading-was First t (literal start_line) 0 f (omega arith) e) (repeated First t 115 (transitions limit) f.next) refl k

-- the text of numbers that fit is read, to those numbers
module _ (limit m k : ℕ) (moves finals : List ℕ) (fits : Fits (transitions limit m) moves) (fit : Fits (accepting_states limit k) finals) (some : 0 < m) (even : m % of_start m moves ≡ 0) (final : 0 < k) where
  abbrev x : List ℕ
  x = printed (transitions limit m) moves

  abbrev y : List ℕ
  y = printed (accepting_states limit k) finals

  abbrev t : List ℕ
  t = start_line ++ x ++ y

  rest : At t 4 (x ++ y)
  rest = at_right t 0 start_line (x ++ y) (at_self t)

  second : At t (4 + length x) y
  second = at_right t 4 x y rest

  start_is : reading First t (literal start_line) 0 ≡ Ok (record { values = []; next = 4 })
  start_is =
      reading-is First t (literal start_line) 0 [] (fixed-literal start_line).fits (subst (At t 0) (sym (fixed-literal start_line).text) (at_left t 0 start_line (x ++ y) (at_self t)))
      ∙ ap (λ (l : List ℕ). Ok (record { values = []; next = 0 + length l })) (fixed-literal start_line).text

  begins : (n : ℕ) → Fits (accepting_states limit n) finals → 0 < n → (z : List ℕ) × (printed (accepting_states limit n) finals ≡ 91 ∷ z)
  unfolding accepting_states
  begins zero h l = absurd (omega arith)
  begins (suc n) h l = chained-begins (λ i vs. accepting_state limit (after_last i vs)) 91 (accepting-begin limit) n finals h

  -- an accepting state's line begins with another byte than a transition
  stops-moves : stands t 115 (4 + length x) ≡ false
  stops-moves = let b = begins k fit final in stands-other t b.0 115 91 (4 + length x) (subst (At t (4 + length x)) b.1 second) (λ e. omega arith)

  moves-is : repeated First t 115 (transitions limit) 4 ≡ Ok (record { values = moves; next = 4 + length x })
  unfolding transitions
  moves-is = chained-is (λ i vs. transition limit i (of_start i vs)) 115 (moves-begin limit) t 4 First m moves fits (at_left t 4 x y rest) stops-moves

  end : 4 + length x + length y ≡ length t
  end = omega (arith, length-append start_line (x ++ y), length-append x y)

  accepting-is : repeated First t 91 (accepting_states limit) (4 + length x) ≡ Ok (record { values = finals; next = 4 + length x + length y })
  unfolding accepting_states
  accepting-is = chained-is (λ i vs. accepting_state limit (after_last i vs)) 91 (accepting-begin limit) t (4 + length x) First k finals fit second (stands-past t 91 (4 + length x + length y) (omega (arith, end)))

  whole-moves : (move_count moves ≡ 0 → ⊥) × (move_count moves % letters_in moves ≡ 0)
  whole-moves =
      let e = counts limit m moves fits in
      (λ z. omega arith, ap (λ (n : ℕ). n % of_start n moves) e ∙ even)

  pub numbers-is : numbers_below limit (start_line ++ printed (transitions limit m) moves ++ printed (accepting_states limit k) finals) ≡ Ok (record { moves = moves; finals = finals })
  unfolding numbers_below
  numbers-is =
      ap (started limit t) start_is
      ∙ (ap (moved limit t) moves-is
      ∙ (moved_on limit t moves (4 + length x) whole-moves.0 whole-moves.1
      ∙ (ap (ended t moves) accepting-is ∙ ended-all t moves finals (4 + length x + length y) end (λ z. omega (arith, (rising-was limit k finals fit).long)))))
