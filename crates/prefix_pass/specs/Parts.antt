-- What the call for a pass over a part of a prefix says, for any bytes as sheet and part and any held value. Assumes
-- nothing.
use Rattle.slices.specs.declared.Refusal.{Refusal}
use Rattle.std.specs.Prelude.{cond, List, [], ◌∷◌, ℕ, ltb, Result, Ok, Err}
use Rattle.slices.specs.declared.Part.TheVariants.{First}
use Rattle.slices.specs.Capped.{capped}
use Rattle.slices.specs.Refusals.{unless, mapped}
use Rattle.fdfa.specs.Pass.{Pass, reached, unknown, pass_over}
use Rattle.packed.specs.Layout.{letter_count, state_count, decode}
use Rattle.packed.specs.Faults.{sheet_fault}
use Rattle.prefix_pass.specs.declared.Held.{Held}
use Rattle.prefix_pass.specs.declared.Held.TheVariants as held

-- A held value, for a family of n states: one in another state, which no pass over that family holds, has failed where
-- it stands.
abbrev pub held_in_value : ℕ → Pass → Pass
held_in_value n (reached q i) = cond (ltb q n) (reached q i) (unknown i)
held_in_value n (unknown i) = unknown i

-- What is held as the code can tell it: a position as far as a number goes.
abbrev pub told : Pass → Pass
told (reached q i) = reached q (capped i)
told (unknown i) = unknown (capped i)

-- The pass goes on over a part in the leading automaton of the family that the sheet says, or the refusal.
abbrev pub passed_of : List ℕ → Pass → List ℕ → Result Pass Refusal
passed_of b p w =
    unless (sheet_fault First b) (told (pass_over (letter_count b) (decode b).step (held_in_value (state_count b) p) w))

-- From what a pass over the parts before answered, over one more part; and over the parts that a prefix is cut into,
-- one after the other.
abbrev pub passed_next : List ℕ → Result Pass Refusal → List ℕ → Result Pass Refusal
passed_next b (Ok p) w = passed_of b p w
passed_next b (Err r) w = Err r

abbrev pub passed_parts : List ℕ → Result Pass Refusal → List (List ℕ) → Result Pass Refusal
passed_parts b x [] = x
passed_parts b x (w ∷ ws) = passed_parts b (passed_next b x w) ws

-- What the code holds, by cases, and what it answers.
abbrev pub pass_says : Held → Pass
pass_says (held.Reached state at) = reached state at
pass_says (held.Unknown at) = unknown at

abbrev pub passed_says : Result Held Refusal → Result Pass Refusal
passed_says x = mapped pass_says x
