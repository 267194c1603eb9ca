-- Reading the text of an automaton, for any bytes. A text is read from left to right, so that what is refused first is
-- refused at the smallest place: once with no limit on targets and accepting states, which finds how many states there
-- are, and then with that limit. Assumes nothing.
use Rattle.slices.specs.declared.Reason.{Reason}
use Rattle.slices.specs.declared.Reason.TheVariants.{LetterCount, StateCount, NextState, OffLayout, OutOfTurn}
use Rattle.slices.specs.declared.Reason.TheVariants.{NoneAccepting, TooLittleRoom}
use Rattle.slices.specs.declared.Refusal.{Refusal}
use Rattle.std.specs.Prelude.{Bool, false, cond, not, ◌||◌, ◌&&◌, List, [], ◌∷◌, ℕ, ◌+◌, ◌*◌, ◌-◌, ◌/◌, ◌%◌, eqb, ltb}
use Rattle.std.specs.Prelude.{length, get_or, Result, Ok, Err}
use Prim.Native.Char.{code}
use Rattle.slices.specs.declared.Part.TheVariants.{First, Out}
use Rattle.slices.specs.Refusals.{Fault, ◌then◌, when, fault_in}
use Rattle.slices.specs.Texts.{bytes}
use Rattle.fdfa.specs.Buchi.{Dba, from_buchi}
use Rattle.fdfa.specs.Inclusion.{count_below}
use Rattle.packed.specs.Layout.{pack}
use Rattle.format.specs.declared.Column.{Column}
use Rattle.format.specs.Format.{Format, Found, refused_at, reading, seq, chained, literal}
use Rattle.format.specs.Rows.{due, below}
use Rattle.format.specs.Lines.{labelled, repeated, closing}
use Rattle.buchi_import.specs.Text.{start_line}

-- The number i in its turn, which runs below a limit: another is out of turn, and the limit itself, where it is due,
-- has a reason of its own.
abbrev pub turn : ℕ → Reason → ℕ → ℕ → Column
turn limit reason i v = cond (eqb i limit && eqb v limit) (record { low = 0; limit = 0; reason = reason }) (due i)

-- What is due after m transitions, c of them of state 0, where the letter a stands. Where all are of state 0: its next
-- one, m, or the first one of state 1. Else the one that comes in its turn, c to each state.
abbrev pub due_letter_of : ℕ → ℕ → ℕ → ℕ
due_letter_of m c a = cond (eqb c m) (cond (eqb a 0) 0 m) (m % c)

abbrev pub due_state_of : ℕ → ℕ → ℕ → ℕ
due_state_of m c a = cond (eqb c m) (cond (eqb a m) 0 1) (m / c)

-- One transition, such as "s1,[0]->[2]": its letter, its state, and its target, which is below a limit.
abbrev pub target : ℕ → Format
target limit = seq (labelled (bytes "->[") (λ r. below limit NextState) (code "]")) (λ vs. literal (bytes "\n"))

abbrev pub from_state : ℕ → ℕ → ℕ → ℕ → Format
from_state limit m c a =
    seq (labelled (bytes "[") (turn 16 StateCount (due_state_of m c a)) (code "]")) (λ vs. target limit)

unfoldable pub transition : ℕ → ℕ → ℕ → Format
transition limit m c =
    seq (labelled (bytes "s") (λ a. turn 32 LetterCount (due_letter_of m c a) a) (code ","))
    (λ vs. from_state limit m c (get_or vs 0 0))

-- Of m transitions with the numbers vs, three each, those of state 0.
abbrev pub of_start : ℕ → List ℕ → ℕ
of_start m vs = count_below m (λ i. eqb (get_or vs (3 * i + 1) 0) 0)

unfoldable pub transitions : ℕ → ℕ → Format
transitions limit m = chained m (λ i vs. transition limit i (of_start i vs))

-- An accepting state, such as "[2]": above the one before, else it is out of turn, and below a limit, else it is no
-- next state.
abbrev pub rising : ℕ → ℕ → ℕ → Column
rising low limit v = record { low = low; limit = limit; reason = cond (ltb v low) OutOfTurn NextState }

unfoldable pub accepting_state : ℕ → ℕ → Format
accepting_state limit low = seq (labelled (bytes "[") (rising low limit) (code "]")) (λ vs. literal (bytes "\n"))

-- The smallest state that may come after i accepting ones.
abbrev pub after_last : ℕ → List ℕ → ℕ
after_last i vs = cond (eqb i 0) 0 (get_or vs (i - 1) 0 + 1)

unfoldable pub accepting_states : ℕ → ℕ → Format
accepting_states limit k = chained k (λ i vs. accepting_state limit (after_last i vs))

-- The numbers of a text: three for each transition, one for each accepting state.
pub record Numbers : Type 0 where
  pub moves : List ℕ
  pub finals : List ℕ

abbrev pub move_count : List ℕ → ℕ
move_count moves = length moves / 3

abbrev pub letters_in : List ℕ → ℕ
letters_in moves = of_start (move_count moves) moves

abbrev pub states_in : List ℕ → ℕ
states_in moves = move_count moves / letters_in moves

-- The accepting states are the last lines; a text that has none is refused for it.
abbrev pub ended : List ℕ → List ℕ → Result Found Refusal → Result Numbers Refusal
ended t moves x = closing First t NoneAccepting (λ finals. record { moves = moves; finals = finals }) x

-- The transitions are as many for each state, and there are some.
abbrev pub whole : List ℕ → Bool
whole moves = not (eqb (move_count moves) 0) && eqb (move_count moves % letters_in moves) 0

-- After the transitions, the accepting states; what stands where a state still lacks letters is off the layout.
abbrev pub moved : ℕ → List ℕ → Result Found Refusal → Result Numbers Refusal
moved limit t (Err r) = Err r
moved limit t (Ok w) =
    cond (whole w.values) (ended t w.values (repeated First t (code "[") (accepting_states limit) w.next))
    (refused_at OffLayout First w.next)

-- After the line of the start, the transitions.
abbrev pub started : ℕ → List ℕ → Result Found Refusal → Result Numbers Refusal
started limit t (Err r) = Err r
started limit t (Ok w) = moved limit t (repeated First t (code "s") (transitions limit) w.next)

-- The whole text, with a limit on the states that transitions lead to and on accepting ones.
unfoldable pub numbers_below : ℕ → List ℕ → Result Numbers Refusal
numbers_below limit t = started limit t (reading First t (literal start_line) 0)

-- A number has at most three digits, so that at first no state is refused; then those that are not below n are, the
-- first of them.
abbrev pub again : List ℕ → Result Numbers Refusal → Result Numbers Refusal
again t (Ok w) = numbers_below (states_in w.moves) t
again t (Err r) = Err r

unfoldable pub numbers_of : List ℕ → Result Numbers Refusal
numbers_of t = again t (numbers_below 1000 t)

-- A state is among the accepting ones.
unfoldable pub is_in : ℕ → List ℕ → Bool
is_in p [] = false
is_in p (x ∷ xs) = eqb x p || is_in p xs

-- The automaton that the numbers say.
abbrev pub automaton_of : Numbers → Dba
automaton_of w = record {
  letters = letters_in w.moves;
  states = states_in w.moves;
  step = λ q a. get_or w.moves (3 * (q * letters_in w.moves + a) + 2) 0;
  accepting = λ p. is_in p w.finals;
}

-- The packed sheet of its family.
abbrev pub bytes_in : Result Numbers Refusal → List ℕ
bytes_in (Ok w) = pack (from_buchi (automaton_of w))
bytes_in (Err r) = []

-- The text's fault, then too little room where the out slice is too short.
abbrev pub pack_fault : Result Numbers Refusal → ℕ → Fault
pack_fault x room = fault_in x then when (ltb room (length (bytes_in x))) TooLittleRoom Out (length (bytes_in x))

unfoldable pub bytes_of : List ℕ → List ℕ
bytes_of t = bytes_in (numbers_of t)

unfoldable pub read_fault : List ℕ → ℕ → Fault
read_fault t room = pack_fault (numbers_of t) room
