-- One transition: what fits is the one that is due, one whose letter and state are due fits, and its text is its line. Assumes nothing.
use Rattle.slices.specs.declared.Reason.{Reason}
use Rattle.slices.specs.declared.Reason.TheVariants.{LetterCount, StateCount, NextState}
use mathlib.Core.Path.{◌≡◌, refl, ap, sym, ◌∙◌}
use mathlib.Core.Bool.{Bool, true, false, cond, ◌&&◌}
use mathlib.Core.List.{List, [], ◌∷◌, ◌++◌, append_assoc}
use Prim.Native.Nat.{ℕ, ◌/◌, ◌%◌, ◌≤◌, ◌<◌}
use native.Mathlib.Omega.{arith}
use native.Mathlib.Decide.{ℕ_discrete}
use native.Mathlib.Nat.{mod_self, div_self}
use lib.Dec.{eqb}
use lib.ListN.{get_or}
use borrow.Author.Tests.{eq-eqb, ne_eqb, eqb-false}
use Rattle.slices.specs.Scans.{outside}
use Rattle.numbers.specs.Digits.{field}
use Rattle.format.specs.declared.Column.{Column}
use Rattle.format.specs.Format.{Format, printed, Takes, Fits}
use Rattle.format.specs.Rows.{due, below}
use Rattle.format.proofs.Led.{Led, led-was, led-fits, led-text, closed-was, closed-fits, closed-text}
use Rattle.buchi_import.specs.Text.{transition_line}
use Rattle.buchi_import.specs.Reading.{turn, due_letter_of, due_state_of, target, from_state, transition}

-- a number in its turn
turn-was : (limit : ℕ) (reason : Reason) (i end v : ℕ) → Takes (turn limit reason i v) end v → (v ≡ i) × (v ≡ limit → ⊥)
turn-was limit reason i end v h = by (eqb i limit) refl (eqb v limit) refl h
  where
    by : (a : Bool) → eqb i limit ≡ a → (b : Bool) → eqb v limit ≡ b → Takes (cond (a && b) (record { low = 0; limit = 0; reason = reason }) (due i)) end v → (v ≡ i) × (v ≡ limit → ⊥)
    by true d true e t = absurd (omega (arith, t.high))
    by true d false e t = (omega (arith, t.low, t.high), eqb-false v limit e)
    by false d b e t = let same : v ≡ i = omega (arith, t.low, t.high) in (same, λ z. eqb-false i limit d (sym same ∙ z))

turn_is : (limit : ℕ) (reason : Reason) (i end v : ℕ) → v ≡ i → v < limit → limit ≤ 1000 → outside 48 58 end ≡ true → Takes (turn limit reason i v) end v
turn_is limit reason i end v e l small ends =
    let n : i ≡ limit → ⊥ = λ d. omega arith in
    rw (ne_eqb i limit n) (record { low = omega arith; high = omega arith; small = omega arith; ends = ends })

-- The transition after m, of which c are of state 0: one more of these, or the one that comes in its turn, c to each state.
pub data Due (m c a q : ℕ) : Type 0 where
  more : c ≡ m → a ≡ m → q ≡ 0 → Due m c a q
  next : 0 < c → a ≡ m % c → q ≡ m / c → Due m c a q

pub due-was : (m c a q : ℕ) → c ≤ m → (0 < m → 0 < c) → a ≡ due_letter_of m c a → q ≡ due_state_of m c a → Due m c a q
due-was m c a q h some la lq = by (ℕ_discrete c m) (ℕ_discrete a m) (ℕ_discrete a 0)
  where
    by : Dec (c ≡ m) → Dec (a ≡ m) → Dec (a ≡ 0) → Due m c a q
    by (yes e) (yes d) z = more e d (lq ∙ rw (eq-eqb c m e, eq-eqb a m d))
    by (yes e) (no d) (yes z) =
        let p : 0 < m = omega arith in
        next (some p) (z ∙ sym (ap (λ (k : ℕ). m % k) e ∙ mod_self m)) (lq ∙ (rw (eq-eqb c m e, ne_eqb a m d) (sym (div_self p)) ∙ ap (λ (k : ℕ). m / k) (sym e)))
    by (yes e) (no d) (no z) = absurd (d (la ∙ rw (eq-eqb c m e, ne_eqb a 0 z)))
    by (no e) d z = next (some (omega arith)) (la ∙ rw (ne_eqb c m e)) (lq ∙ rw (ne_eqb c m e))

due-is : (m c a q : ℕ) → Due m c a q → (a ≡ due_letter_of m c a) × (q ≡ due_state_of m c a)
due-is m c a q (more e d z) = (rw (eq-eqb c m e) (by (ℕ_discrete a 0)), rw (eq-eqb c m e, eq-eqb a m d) z)
  where
    by : Dec (a ≡ 0) → a ≡ cond (eqb a 0) 0 m
    by (yes o) = rw (eq-eqb a 0 o) o
    by (no o) = rw (ne_eqb a 0 o) d
due-is m c a q (next p la lq) = by (ℕ_discrete c m)
  where
    by : Dec (c ≡ m) → (a ≡ due_letter_of m c a) × (q ≡ due_state_of m c a)
    by (yes e) =
        let o : a ≡ 0 = la ∙ (ap (λ (k : ℕ). m % k) e ∙ mod_self m) in
        let k : a ≡ m → ⊥ = λ d. omega arith in
        (rw (eq-eqb c m e, eq-eqb a 0 o) o, rw (eq-eqb c m e, ne_eqb a m k) (lq ∙ (ap (λ (k : ℕ). m / k) e ∙ div_self (omega arith))))
    by (no e) = (rw (ne_eqb c m e) la, rw (ne_eqb c m e) lq)

-- The three numbers of a transition, and its text.
pub record Went (limit m c : ℕ) (ws : List ℕ) : Type 0 where
  pub letter : ℕ
  pub state : ℕ
  pub to : ℕ
  pub whole : ws ≡ letter ∷ state ∷ to ∷ []
  pub letter_due : letter ≡ due_letter_of m c letter
  pub state_due : state ≡ due_state_of m c letter
  pub letter_left : letter ≡ 32 → ⊥
  pub state_left : state ≡ 16 → ⊥
  pub inside : to < limit
  pub small : to < 1000
  pub text : printed (transition limit m c) ws ≡ transition_line letter state to

module _ (limit m c : ℕ) where
  -- its columns, and what follows them
  abbrev letter_column : ℕ → Column
  letter_column v = turn 32 LetterCount (due_letter_of m c v) v

  abbrev state_column : ℕ → ℕ → Column
  state_column a = turn 16 StateCount (due_state_of m c a)

  abbrev target_column : ℕ → Column
  target_column v = below limit NextState

  abbrev after_letter : List ℕ → Format
  after_letter vs = from_state limit m c (get_or vs 0 0)

  abbrev after_state : List ℕ → Format
  after_state vs = target limit

  line : (a q r : ℕ) → Takes (letter_column a) 44 a → Takes (state_column a q) 93 q → Takes (target_column r) 93 r
      → printed (transition limit m c) (a ∷ q ∷ r ∷ []) ≡ transition_line a q r
  unfolding transition
  line a q r ta tq tr =
      led-text (115 ∷ []) letter_column 44 after_letter a (q ∷ r ∷ []) ta
      ∙ (ap (λ (l : List ℕ). (115 ∷ field a 44) ++ l) (led-text (91 ∷ []) (state_column a) 93 after_state q (r ∷ []) tq
      ∙ ap (λ (l : List ℕ). (91 ∷ field q 93) ++ l) (closed-text (45 ∷ 62 ∷ 91 ∷ []) (10 ∷ []) target_column 93 r tr))
      ∙ simp append_assoc)

  pub went : (ws : List ℕ) → Fits (transition limit m c) ws → Went limit m c ws
  unfolding transition
  went ws fits = record {
    letter = a.number;
    state = q.number;
    to = r.0;
    whole = whole;
    letter_due = letter.0;
    state_due = state.0;
    letter_left = letter.1;
    state_left = state.1;
    inside = r.2.high;
    small = r.2.small;
    text = ap (printed (transition limit m c)) whole ∙ line a.number q.number r.0 a.takes q.takes r.2;
  }
    where
      a : Led letter_column 44 after_letter ws
      a = led-was (115 ∷ []) letter_column 44 after_letter ws fits

      q : Led (state_column a.number) 93 after_state a.rest
      q = led-was (91 ∷ []) (state_column a.number) 93 after_state a.rest a.follows

      r : (v : ℕ) × (q.rest ≡ v ∷ []) × Takes (target_column v) 93 v
      r = closed-was (45 ∷ 62 ∷ 91 ∷ []) (10 ∷ []) target_column 93 q.rest q.follows

      whole : ws ≡ a.number ∷ q.number ∷ r.0 ∷ []
      whole = cc (a.whole, q.whole, r.1)

      letter : (a.number ≡ due_letter_of m c a.number) × (a.number ≡ 32 → ⊥)
      letter = turn-was 32 LetterCount (due_letter_of m c a.number) 44 a.number a.takes

      state : (q.number ≡ due_state_of m c a.number) × (q.number ≡ 16 → ⊥)
      state = turn-was 16 StateCount (due_state_of m c a.number) 93 q.number q.takes

  pub goes : (a q r : ℕ) → Due m c a q → a < 32 → q < 16 → r < limit → limit ≤ 1000 → Fits (transition limit m c) (a ∷ q ∷ r ∷ [])
  unfolding transition
  goes a q r d l k b small =
      let due = due-is m c a q d in
      led-fits (115 ∷ []) letter_column 44 after_letter a (q ∷ r ∷ []) (turn_is 32 LetterCount (due_letter_of m c a) 44 a due.0 l (omega arith) refl)
      (led-fits (91 ∷ []) (state_column a) 93 after_state q (r ∷ []) (turn_is 16 StateCount (due_state_of m c a) 93 q due.1 k (omega arith) refl)
      (closed-fits (45 ∷ 62 ∷ 91 ∷ []) (10 ∷ []) target_column 93 r (record { low = omega arith; high = b; small = omega arith; ends = refl })))
