-- The text of an automaton is read, to that automaton; and what is read is an automaton whose text was read. Assumes nothing.
use Rattle.std.specs.Prelude.{Result, Ok, Err}
use Rattle.slices.specs.declared.Refusal.{Refusal}
use mathlib.Core.Path.{◌≡◌, refl, ap, sym, ◌∙◌}
use mathlib.Core.Bool.{Bool, true, cond, ◌||◌, true≢false}
use mathlib.Core.List.{List, [], ◌∷◌, ◌++◌}
use Prim.Native.Nat.{ℕ, ◌+◌, ◌*◌, ◌/◌, ◌%◌, ◌≤◌, ◌<◌}
use native.Mathlib.Omega.{arith}
use native.Mathlib.Nat.{one-mul, mul-le-mul_right, mod-lt, div-lt_iff_lt-mul, mul-mod_left, mul-div_cancel}
use lib.ListN.{length, get_or}
use borrow.Author.Tests.{eq-eqb}
use Rattle.slices.proofs.Refusals.{never-given, given-was}
use Rattle.slices.specs.Tables.{rows, sum}
use Rattle.slices.proofs.Tables.{rows_same, row-end, sum-even, get_d_rows}
use Rattle.fdfa.specs.Buchi.{Dba, SameDba}
use Rattle.format.specs.Format.{printed, Fits}
use Rattle.buchi_import.specs.Text.{start_line, transition_line, accepting_line, buchi_text, Drawable}
use Rattle.buchi_import.specs.Reading.{Numbers, of_start, transitions, accepting_states, letters_in, states_in, numbers_below, again, numbers_of, is_in, automaton_of}
use Rattle.buchi_import.proofs.Transitions.{moves-fit, start-count}
use Rattle.buchi_import.proofs.Accepting.{Rising, rising-was, accepting-text, chosen, chosen-fit, chosen-in}
use Rattle.buchi_import.proofs.Numbers.{Was, counts, numbers-was, numbers-is}
use Rattle.buchi_import.proofs.Stages.{wider}
use Rattle.buchi_import.proofs.Automata.{letter-of, state-of, few_letters, some_letters, few_states, was-complete, moves_lines}

-- automata that agree have the same text
same_text : (D E : Dba) → SameDba D E → buchi_text D ≡ buchi_text E
unfolding buchi_text
same_text D E h = λ i. start_line ++ (first ∙ (λ j. rows (h.states j) (λ q. rows (h.letters j) (λ a. transition_line a q (E.step q a))))) i ++ (last ∙ (λ j. rows (h.states j) (λ p. cond (E.accepting p) (accepting_line p) []))) i
  where
    first : rows D.states (λ q. rows D.letters (λ a. transition_line a q (D.step q a))) ≡ rows D.states (λ q. rows D.letters (λ a. transition_line a q (E.step q a)))
    first = rows_same D.states _ _ (λ q k. rows_same D.letters _ _ (λ a l. ap (transition_line a q) (h.steps q a k l)))

    last : rows D.states (λ p. cond (D.accepting p) (accepting_line p) []) ≡ rows D.states (λ p. cond (E.accepting p) (accepting_line p) [])
    last = rows_same D.states _ _ (λ p k. ap (λ (b : Bool). cond b (accepting_line p) []) (h.accepting p k))

-- the second reading finds what the first found
pub again-was : (t : List ℕ) (w : Numbers) → numbers_of t ≡ Ok w → (numbers_below 1000 t ≡ Ok w) × (numbers_below (states_in w.moves) t ≡ Ok w)
unfolding numbers_of
again-was t w e = by (numbers_below 1000 t) refl e
  where
    by : (x : Result Numbers Refusal) → numbers_below 1000 t ≡ x → again t x ≡ Ok w → (x ≡ Ok w) × (numbers_below (states_in w.moves) t ≡ Ok w)
    by (Err r) d k = absurd (never-given k)
    by (Ok v) d k =
        let f = sym d ∙ wider (states_in v.moves) t w k in
        (f, ap (λ (u : Numbers). numbers_below (states_in u.moves) t) (sym (given-was f)) ∙ k)

-- numbers that were read below their own state count are a complete automaton's, and the text is its text
module _ (t : List ℕ) (w : Numbers) (e : numbers_of t ≡ Ok w) where
  was : Was (states_in w.moves) t w
  was = numbers-was (states_in w.moves) t w (again-was t w e).1

  pub read-drawable : Drawable (automaton_of w)
  unfolding is_in
  read-drawable = record {
    complete = was-complete was refl;
    some_letters = some_letters was;
    few_letters = few_letters was;
    few_states = few_states was;
    accepting = get_or w.finals 0 0;
    is_state = rises.below 0 was.final;
    accepts = first-in w.finals (omega (arith, was.final, rises.long));
  }
    where
      rises : Rising (states_in w.moves) was.final_count w.finals
      rises = rising-was (states_in w.moves) was.final_count w.finals was.finals

      first-in : (xs : List ℕ) → 0 < length xs → is_in (get_or xs 0 0) xs ≡ true
      first-in [] l = absurd (omega arith)
      first-in (x ∷ xs) l = ap (λ (b : Bool). b || is_in x xs) (eq-eqb x x refl)

  pub read-text : buchi_text (automaton_of w) ≡ t
  unfolding buchi_text
  read-text = sym (was.text ∙ (λ i. start_line ++ (ap (λ (k : ℕ). printed (transitions (states_in w.moves) k) w.moves) (sym was.counted) ∙ moves_lines was) i
      ++ accepting-text (states_in w.moves) was.final_count (states_in w.moves) w.finals was.finals (omega arith) i))

-- the text of an automaton is read, to numbers that say it
module _ (D : Dba) (d : Drawable D) where
  abbrev s : ℕ
  s = D.letters

  abbrev n : ℕ
  n = D.states

  abbrev to : ℕ → ℕ
  to i = D.step (i / s) (i % s)

  abbrev line : ℕ → List ℕ
  line i = i % s ∷ i / s ∷ to i ∷ []

  abbrev moves : List ℕ
  moves = rows (n * s) line

  abbrev finals : List ℕ
  finals = chosen n D.accepting

  abbrev t : List ℕ
  t = start_line ++ printed (transitions n (n * s)) moves ++ printed (accepting_states n (length finals)) finals

  abbrev w : Numbers
  w = record { moves = moves; finals = finals }

  leads-below : (i : ℕ) → i < n * s → to i < n
  leads-below i h = d.complete.leads (i / s) (i % s) ((div-lt_iff_lt-mul {k = s} d.some_letters).1 h) (mod-lt i d.some_letters)

  moves-fits : Fits (transitions n (n * s)) moves
  moves-fits = moves-fit n s (n * s) to d.some_letters d.few_letters (mul-le-mul_right s d.few_states) (omega (arith, d.few_states)) leads-below

  accepting-fits : Fits (accepting_states n (length finals)) finals
  accepting-fits = chosen-fit n n D.accepting (omega arith) (omega (arith, d.few_states))

  enough : s ≤ n * s
  enough = omega (arith, mul-le-mul_right s d.complete.start, one-mul s)

  of-start : of_start (n * s) moves ≡ s
  of-start = start-count s (n * s) to d.some_letters enough

  some-accepting : 0 < length finals
  unfolding is_in
  some-accepting = in_some finals (chosen-in n D.accepting d.accepting d.is_state ∙ d.accepts)
    where
      in_some : (xs : List ℕ) → is_in d.accepting xs ≡ true → 0 < length xs
      in_some [] e = absurd (true≢false (sym e))
      in_some (x ∷ xs) e = omega arith

  letters-same : s ≡ letters_in moves
  letters-same = sym (ap (λ (k : ℕ). of_start k moves) (counts n (n * s) moves moves-fits) ∙ of-start)

  states-same : n ≡ states_in moves
  states-same = sym ((λ i. counts n (n * s) moves moves-fits i / sym letters-same i) ∙ mul-div_cancel n d.some_letters)

  step_same : (q a : ℕ) → q < n → a < s → D.step q a ≡ get_or moves (3 * (q * s + a) + 2) 0
  step_same q a h l = sym (ap (λ (k : ℕ). get_or moves (k + 2) 0) three ∙ (get_d_rows (n * s) line i 2 (omega (arith, row-end q n s h)) (omega arith) ∙ (λ j. D.step (state-of s q a l j) (letter-of s q a l j))))
    where
      i : ℕ
      i = q * s + a

      three : 3 * i ≡ sum i (λ r. 3)
      three = omega (arith, sum-even i 3)

  same : SameDba D (automaton_of w)
  same = record {
    letters = letters-same;
    states = states-same;
    steps = λ q a h l. step_same q a h l ∙ ap (λ (k : ℕ). get_or moves (3 * (q * k + a) + 2) 0) letters-same;
    accepting = λ p h. sym (chosen-in n D.accepting p h);
  }

  found : numbers_of t ≡ Ok w
  unfolding numbers_of
  found = ap (again t) (wider n t w first) ∙ (ap (λ (k : ℕ). numbers_below k t) (sym states-same) ∙ first)
    where
      first : numbers_below n t ≡ Ok w
      first = numbers-is n (n * s) (length finals) moves finals moves-fits accepting-fits (omega (arith, enough, d.some_letters)) (ap (λ (k : ℕ). n * s % k) of-start ∙ mul-mod_left n s) some-accepting

  pub text-read : (w : Numbers) × (numbers_of (buchi_text D) ≡ Ok w) × SameDba D (automaton_of w)
  text-read = (w, ap numbers_of (same_text D (automaton_of w) same ∙ read-text t w found) ∙ found, same)
