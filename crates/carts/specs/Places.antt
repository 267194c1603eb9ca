-- The place of a show's refusal in a cart; `show-alone` and `show-place` say that this is it. Assumes nothing.
use Rattle.std.specs.Prelude.{ℕ, ◌+◌}
use Rattle.slices.specs.declared.Part.{Part}
use Rattle.slices.specs.declared.Part.TheVariants.{First, Second, Opening, Loop, Out, Work, Cursor, Seconds}
use Rattle.slices.specs.Refusals.{Fault, sound, fault, fault_of}

-- Where a part of a show begins, whose prefix begins at o and whose period at p.
abbrev pub begins : ℕ → ℕ → Part → ℕ
begins o p Opening = o
begins o p Loop = p
begins o p First = 0
begins o p Second = 0
begins o p Out = 0
begins o p Work = 0
begins o p Cursor = 0
begins o p Seconds = 0

-- A refusal whose place counts from the start of its part, counted from the cart's first byte.
abbrev pub counted : ℕ → ℕ → Fault → Fault
counted o p sound = sound
counted o p (fault r) = fault_of r.reason r.part (begins o p r.part + r.place)
