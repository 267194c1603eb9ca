-- The text of an automaton and its sheet, byte for byte, and refusals of texts, each at its place. Assumes nothing.
use Rattle.slices.specs.declared.Reason.TheVariants.{NextState, OffLayout, OutOfTurn, NoneAccepting}
use mathlib.Core.Path.{◌≡◌, refl}
use mathlib.Core.Bool.{true}
use mathlib.Core.List.{List, [], ◌∷◌, ◌++◌}
use Prim.Native.Nat.{ℕ, ◌+◌, ◌%◌}
use Prim.Native.String.{String}
use lib.Dec.{eqb}
use Rattle.slices.specs.declared.Part.TheVariants.{First}
use Rattle.slices.specs.Extremes.{least}
use Rattle.slices.specs.Refusals.{Fault, fault_of, fault_in}
use Rattle.slices.specs.Scans.{first_outside_of}
use Rattle.slices.specs.Tables.{tab, rows}
use Rattle.slices.specs.Texts.{bytes}
use Rattle.fdfa.specs.Inclusion.{count_below}
use Rattle.fdfa.specs.Buchi.{Dba, from_buchi}
use Rattle.packed.specs.Layout.{pack}
use Rattle.numbers.specs.Digits.{digits_within, digits_of}
use Rattle.numbers.specs.Numerals.{run_of, value_of, number_at_value}
use Rattle.format.specs.Format.{reading, seq, each, chained}
use Rattle.format.specs.Lines.{labelled, repeats, repeated}
use Rattle.buchi_import.specs.Text.{buchi_text}
use Rattle.buchi_import.specs.Reading.{transition, transitions, accepting_state, accepting_states, numbers_below, numbers_of, is_in, bytes_in}

-- One state, one letter, accepting.
abbrev always : Dba
always = record { letters = 1; states = 1; step = λ q a. 0; accepting = λ p. true }

pub text-of-always : buchi_text always ≡ bytes "[0]\ns0,[0]->[0]\n[0]\n"
unfolding buchi_text rows digits_of digits_within
text-of-always = refl

-- s 1, n 1, k(0) 2; the leading table; in its progress automaton the flag rises and stays, and the pair with the flag is marked
pub sheet-of-always : bytes_in (numbers_of (bytes "[0]\ns0,[0]->[0]\n[0]\n")) ≡ 1 ∷ 1 ∷ 2 ∷ 0 ∷ 1 ∷ 1 ∷ 0 ∷ 1 ∷ []
unfolding numbers_of numbers_below transitions transition accepting_states accepting_state is_in count_below reading seq each chained labelled repeated repeats least number_at_value run_of value_of first_outside_of tab rows
sheet-of-always = refl

-- Three states in a ring, one letter, state 1 accepting: in each progress automaton the pairs are counted from its own state.
abbrev ring : Dba
ring = record { letters = 1; states = 3; step = λ q a. (q + 1) % 3; accepting = λ p. eqb p 1 }

abbrev flags : List ℕ
flags = 0 ∷ 1 ∷ 0 ∷ 1 ∷ 0 ∷ 1 ∷ []

pub sheet-of-ring : pack (from_buchi ring) ≡ (1 ∷ 3 ∷ 6 ∷ 6 ∷ 6 ∷ 1 ∷ 2 ∷ 0 ∷ []) ++ (3 ∷ 3 ∷ 4 ∷ 5 ∷ 0 ∷ 1 ∷ []) ++ flags ++ (2 ∷ 3 ∷ 4 ∷ 5 ∷ 1 ∷ 1 ∷ []) ++ flags ++ (2 ∷ 3 ∷ 5 ∷ 5 ∷ 0 ∷ 1 ∷ []) ++ flags
unfolding tab rows
sheet-of-ring = refl

-- What a text is refused for.
abbrev says : String → Fault
says text = fault_in (numbers_of (bytes text))

-- no text; another start; "[00"; the start alone, and with a carriage return
pub starts :
    (says "" ≡ fault_of OffLayout First 0) × (says "[1" ≡ fault_of OffLayout First 1) × (says "[00" ≡ fault_of OffLayout First 2) × (says "[0]\n" ≡ fault_of OffLayout First 4)
    × (says "[0]\r\n" ≡ fault_of OffLayout First 3)
unfolding numbers_of numbers_below transitions transition accepting_states accepting_state count_below reading seq each chained labelled repeated repeats least number_at_value run_of value_of first_outside_of
starts = (refl, refl, refl, refl, refl)

-- the same line again: out of turn at the source; after two letters of state 0 letter 1 of state 1 lacks; letter 2 where 1 or 0 is due; letter 1 of
-- state 1 where letter 1 is due of state 0
pub turns :
    (says "[0]\ns0,[0]->[0]\ns0,[0]->[0]\n" ≡ fault_of OutOfTurn First 20)
    × (says "[0]\ns0,[0]->[0]\ns1,[0]->[0]\ns0,[1]->[0]\n[0]\n" ≡ fault_of OffLayout First 40)
    × (says "[0]\ns0,[0]->[0]\ns2" ≡ fault_of OutOfTurn First 17) × (says "[0]\ns0,[0]->[0]\ns1,[1" ≡ fault_of OutOfTurn First 20)
unfolding numbers_of numbers_below transitions transition accepting_states accepting_state count_below reading seq each chained labelled repeated repeats least number_at_value run_of value_of first_outside_of
turns = (refl, refl, refl, refl)

-- no accepting state, where a target is too large; the end within a line; that target once all else is good; an accepting state again; one
-- that is too large, and an equal one after it; a transition after an accepting state; a byte that begins no line, before any accepting state: it
-- is off the layout, which goes before none accepting
pub stages :
    (says "[0]\ns0,[0]->[99]\n" ≡ fault_of NoneAccepting First 17) × (says "[0]\ns0,[0]->[99]\n[" ≡ fault_of OffLayout First 18)
    × (says "[0]\ns0,[0]->[99]\n[0]\n" ≡ fault_of NextState First 13) × (says "[0]\ns0,[0]->[0]\n[0]\n[0]\n" ≡ fault_of OutOfTurn First 21)
    × (says "[0]\ns0,[0]->[0]\n[1]\n" ≡ fault_of NextState First 17) × (says "[0]\ns0,[0]->[0]\n[1]\n[1]\n" ≡ fault_of OutOfTurn First 21)
    × (says "[0]\ns0,[0]->[0]\n[0]\ns0,[0]->[0]\n" ≡ fault_of OffLayout First 20) × (says "[0]\ns0,[0]->[0]\nx" ≡ fault_of OffLayout First 16)
unfolding numbers_of numbers_below transitions transition accepting_states accepting_state count_below reading seq each chained labelled repeated repeats least number_at_value run_of value_of first_outside_of
stages = (refl, refl, refl, refl, refl, refl, refl, refl)
