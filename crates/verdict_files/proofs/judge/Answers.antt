-- `verdict_files::judge` meets its contract. Assumes nothing.
use mathlib.Core.Path.{sym, ◌∙◌}
use Rattle.slices.specs.declared.Part.TheVariants.{First}
use Rattle.slices.proofs.Refusals.{handed, was-given, was-refused}
use Rattle.packed.specs.Faults.{sheet_fault, sizes_of}
use Rattle.verdict_files.proofs.Files.{sheet-refused}
use Rattle.verdict_files.proofs.judge.Goals as goal

pub read_and_judge-requires : goal.read_and_judge-requires
read_and_judge-requires c =
    (was-given (sheet_fault First c.args.sheet.now) (sizes_of c.args.sheet.now) (sym c.in_ok-check.was ∙ c.check.ensures)).0

pub returns-in_err-check : goal.returns-in_err-check
returns-in_err-check c =
    rw (handed c.from_residual.ensures)
    (sym (sheet-refused c.args.sheet.now c.args.show.now 4096 4096 (was-refused (sheet_fault First c.args.sheet.now) (sizes_of c.args.sheet.now) (sym c.in_err-check.was ∙ c.check.ensures))))
