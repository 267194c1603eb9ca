-- `inclusion::search_cells` meets its contract: the cells, then the search. Assumes nothing.
use mathlib.Core.Path.{◌≡◌, ap, ◌∙◌}
use mathlib.Core.List.{List}
use Prim.Native.Nat.{ℕ, ◌+◌, ◌*◌, ◌≤◌}
use native.Mathlib.Omega.{arith}
use native.Mathlib.Nat.{mul-le-mul}
use lib.ListN.{replicate}
use lib.Seq.{length-take-le}
use Rattle.std.specs.Prelude.{Ok}
use Rattle.slices.proofs.Refusals.{handed}
use Rattle.pairing.specs.declared.PairSizes.{PairSizes}
use Rattle.pairing.specs.Pairs.{Alike, sizes_of}
use Rattle.pairing.proofs.Within.{few_pairs, few-widest}
use Rattle.inclusion.specs.Calls.{compare_cells}
use Rattle.inclusion.proofs.Settling.{cells-suffice}
use Rattle.inclusion.proofs.Answered.{reports-lies}
use Rattle.inclusion.proofs.Comparing.{reports-searched}
use Rattle.inclusion.proofs.search_cells.Goals as goal

-- the call's sizes
module _ {b d : List ℕ} {z : PairSizes} (A : Alike b d) (e : z ≡ sizes_of b d) where
  cells_is : z.pairs + z.pairs * z.widest ≡ compare_cells b d
  cells_is = ap (λ (y : PairSizes). y.pairs + y.pairs * y.widest) e

  few : z.pairs ≤ 1024
  few = omega (arith, ap (λ (y : PairSizes). y.pairs) e, few_pairs A)

  few-all : z.pairs * z.widest ≤ 1048576
  few-all =
      let w : z.widest ≤ 1024 = omega (arith, ap (λ (y : PairSizes). y.widest) e, few-widest A) in mul-le-mul few w

pub overflow_mul-cells : goal.overflow_mul-cells
overflow_mul-cells c = omega (arith, few-all c.requires.0 c.requires.1)

pub overflow_add-cells : goal.overflow_add-cells
overflow_add-cells c = omega (arith, few c.requires.0 c.requires.1, few-all c.requires.0 c.requires.1)

pub placed-requires : goal.placed-requires
placed-requires c = (c.requires.0, reports-lies c.in_ok-found.found c.in_ok-found.ensures.reports)

pub returns : goal.returns
returns c =
    let e = cells_is c.requires.0 c.requires.1 in
    reports-searched c.requires.0 c.in_ok-found.ensures.reports (cells-suffice e c.if-lent-cells.false) (ap Ok c.placed.ensures) (c.in_ok-found.ensures.clears ∙ ap (λ (x : ℕ). replicate x 0) (length-take-le _ _ c.if-lent-cells.false))
    e

-- refused for the room of the lasso
pub returns-in_err-found : goal.returns-in_err-found
returns-in_err-found c =
    let e = cells_is c.requires.0 c.requires.1 in
    reports-searched c.requires.0 c.in_err-found.ensures.reports (cells-suffice e c.if-lent-cells.false) (handed c.from_residual.ensures)
    (c.in_err-found.ensures.clears ∙ ap (λ (x : ℕ). replicate x 0) (length-take-le _ _ c.if-lent-cells.false)) e
