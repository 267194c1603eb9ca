-- `membership::verdict` meets its contract: the sheet, then the lasso. Assumes nothing.
use mathlib.Core.Path.{ap, sym, ◌∙◌}
use borrow.Author.Rules.{rules}
use Rattle.slices.specs.declared.Part.TheVariants.{First}
use Rattle.slices.specs.Refusals.{Fault, unless}
use Rattle.slices.proofs.Refusals.{passed, was-given}
use Rattle.fdfa.specs.Acceptance.{verdict}
use Rattle.packed.specs.Layout.{decode}
use Rattle.packed.specs.Faults.{sheet_fault, sizes_of}
use Rattle.packed.proofs.Soundness.{sound-valid}
use Rattle.membership.specs.Verdict.{lasso_fault}
use Rattle.membership.proofs.verdict.Goals as goal

pub judge-requires : goal.judge-requires
judge-requires c = let z = was-given _ _ c.in_ok-z.ensures in (sound-valid First _ z.0, z.1)

pub returns-in_err-z : goal.returns-in_err-z
unfolding lasso_fault
returns-in_err-z c = search rules

pub returns : goal.returns
unfolding lasso_fault
returns c =
    let z = was-given (sheet_fault First c.args.sheet.now) (sizes_of c.args.sheet.now) c.in_ok-z.ensures in
    c.judge.ensures ∙ ap (λ (f : Fault). unless f (verdict (decode c.args.sheet.now) c.args.prefix.now c.args.period.now)) (sym (passed _ z.0))
