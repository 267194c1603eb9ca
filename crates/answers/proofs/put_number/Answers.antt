-- `answers::put_number` meets its contract: the bytes are those of the definition. Assumes nothing.
use mathlib.Core.Path.{◌≡◌, ap, ◌∙◌}
use mathlib.Core.List.{List, ◌++◌}
use Prim.Native.Nat.{ℕ}
use native.Mathlib.Nat.{div-one}
use lib.ListN.{drop}
use Rattle.std.specs.Int.{w64, to_le_bytes}
use Rattle.slices.specs.Filling.{written}
use Rattle.slices.specs.Tables.{tab}
use Rattle.answers.specs.Layout.{number_bytes}
use Rattle.answers.proofs.put_number.Goals as goal

bytes-are : (x : ℕ) → to_le_bytes w64 x ≡ number_bytes x
unfolding tab
bytes-are x = simp div-one

pub returns : goal.returns
unfolding written tab
returns c = ap (λ (l : List ℕ). l ++ drop 8 c.args.out.now) (c.copy_from_slice.ensures.after ∙ (c.to_le_bytes.ensures ∙ bytes-are c.args.x))
