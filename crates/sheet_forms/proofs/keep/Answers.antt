-- `sheet_forms::keep` meets its contract. Assumes nothing.
use Rattle.slices.proofs.Refusals.{handed}
use native.Mathlib.Omega.{arith}
use Rattle.sheet_forms.proofs.Answers.{kept-room, kept-refused, kept-filled}
use Rattle.sheet_forms.proofs.keep.Goals as goal

pub copy-requires : goal.copy-requires
copy-requires c =
    omega (arith, c.requires, kept-room c.args.bytes.now c.args.part c.check.ensures c.in_ok-check.was)

pub returns-in_err-check : goal.returns-in_err-check
returns-in_err-check c = rw (handed c.from_residual.ensures) (kept-refused c.args.bytes.now c.args.part c.check.ensures _ c.in_err-check.was)

pub returns : goal.returns
returns c =
    kept-filled c.args.bytes.now c.args.part c.check.ensures c.in_ok-check.was c.copy.ensures
