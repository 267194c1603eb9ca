-- `packed::walking::step_from` meets its contract: the column is lent. Assumes nothing.
use mathlib.Core.Path.{◌≡◌, ap, ◌∙◌}
use mathlib.Core.List.{List}
use Prim.Native.Nat.{ℕ, ◌+◌, ◌-◌}
use native.Mathlib.Omega.{arith}
use lib.ListN.{length, get_or, take, drop, length-drop}
use lib.Seq.{get_or-drop}
use Rattle.slices.proofs.Filling.{rest-lent}
use Rattle.packed.proofs.walking.step_from.Goals as goal

part_length : (t : List ℕ) (n : ℕ) → length (take (length t - n) (drop n t)) ≡ length t - n
part_length t n = ap length (rest-lent t n) ∙ length-drop n t

part-cell : (t : List ℕ) (n q : ℕ) → get_or (take (length t - n) (drop n t)) q 0 ≡ get_or t (n + q) 0
part-cell t n q = ap (λ (l : List ℕ). get_or l q 0) (rest-lent t n) ∙ get_or-drop n t q 0

pub slice_bounds-read-count : goal.slice_bounds-read-count
slice_bounds-read-count c = omega (arith, c.requires)

pub slice_bounds-read-start : goal.slice_bounds-read-start
slice_bounds-read-start c = omega (arith, c.requires)

pub read-requires : goal.read-requires
read-requires c = omega (arith, c.requires, part_length c.args.table.now c.args.from)

pub returns : goal.returns
returns c = c.read.ensures ∙ part-cell c.args.table.now c.args.from c.args.state
