-- The automaton that was read: its sizes, and its lines, state by state. Assumes nothing.
use mathlib.Core.Path.{◌≡◌, ap, sym, subst, ◌∙◌}
use mathlib.Core.List.{List}
use Prim.Native.Nat.{ℕ, ◌+◌, ◌*◌, ◌/◌, ◌%◌, ◌≤◌, ◌<◌}
use native.Mathlib.Omega.{arith}
use native.Mathlib.Nat.{zero-mul, le_of_mul-le-mul_right, lt_of_mul-lt-mul_right, mod-eq_of_lt, div-eq_of_lt, div-add-mod', mul-add-div_right, mul-add-mod_self_right}
use lib.ListN.{get_or}
use Rattle.slices.specs.Tables.{rows}
use Rattle.fdfa.specs.Buchi.{CompleteDba}
use Rattle.slices.proofs.Tables.{rows_same, rows-rows, row-end}
use Rattle.format.specs.Format.{printed, Fits}
use Rattle.buchi_import.specs.Text.{transition_line}
use Rattle.buchi_import.specs.Reading.{Numbers, transitions, move_count, letters_in, states_in, automaton_of}
use Rattle.buchi_import.proofs.Transitions.{Shape, shape, moves-text}
use Rattle.buchi_import.proofs.Numbers.{Was}

-- the transition of the state q and the letter a, in its turn
module _ (s q a : ℕ) (h : a < s) where
  pub letter-of : (q * s + a) % s ≡ a
  letter-of = mul-add-mod_self_right q s a ∙ mod-eq_of_lt h

  pub state-of : (q * s + a) / s ≡ q
  state-of = mul-add-div_right {m = s} (omega arith) q a ∙ omega (arith, div-eq_of_lt h)

module _ {limit : ℕ} {t : List ℕ} {w : Numbers} (a : Was limit t w) where
  abbrev m : ℕ
  m = move_count w.moves

  abbrev s : ℕ
  s = letters_in w.moves

  abbrev n : ℕ
  n = states_in w.moves

  fits : Fits (transitions limit m) w.moves
  fits = subst (λ (k : ℕ). Fits (transitions limit k) w.moves) (sym a.counted) a.moves

  pub formed : Shape limit m w.moves
  formed = shape limit m w.moves fits

  pub few_letters : s ≤ 32
  few_letters = formed.few_letters

  pub some_letters : 1 ≤ s
  some_letters = formed.some (omega (arith, a.some, a.counted))

  pub product : n * s ≡ m
  product = omega (arith, div-add-mod' m s, ap (λ (k : ℕ). k % s) a.counted, a.whole)

  pub few_states : n ≤ 16
  few_states = le_of_mul-le-mul_right {m = n} {n = 16} {k = s} (omega (arith, product, formed.few_moves)) some_letters

  pub some_states : 0 < n
  some_states = lt_of_mul-lt-mul_right s {m = 0} {n = n} (omega (arith, zero-mul s, product, a.some, a.counted))

  -- the transition of a state and a letter is one of them
  pub within : (q b : ℕ) → q < n → b < s → q * s + b < m
  within q b h l = omega (arith, row-end q n s h, product)

  -- read below its own state count it is complete
  pub was-complete : states_in w.moves ≡ limit → CompleteDba (automaton_of w)
  was-complete e = record { start = some_states; leads = λ q b h l. subst (λ (k : ℕ). get_or w.moves (3 * (q * s + b) + 2) 0 < k) (sym e) (formed.target (q * s + b) (within q b h l)) }

  pub moves_lines : printed (transitions limit m) w.moves ≡ rows n (λ q. rows s (λ b. transition_line b q (get_or w.moves (3 * (q * s + b) + 2) 0)))
  moves_lines =
      moves-text limit m w.moves fits
      ∙ (rows_same m _ line (λ i h. λ j. transition_line (formed.letter i h j) (formed.state i h j) (get_or w.moves (3 * i + 2) 0))
      ∙ ((λ j. rows (sym product j) line)
      ∙ (sym (rows-rows n s line)
      ∙ rows_same n _ _ (λ q h. rows_same s _ _ (λ b l. λ j. transition_line (letter-of s q b l j) (state-of s q b l j) (get_or w.moves (3 * (q * s + b) + 2) 0))))))
    where
      line : ℕ → List ℕ
      line i = transition_line (i % s) (i / s) (get_or w.moves (3 * i + 2) 0)
