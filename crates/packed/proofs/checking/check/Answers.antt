-- `packed::checking::check` meets its contract: the counts, then the tables. Assumes nothing.
use mathlib.Core.Path.{ap, sym, ◌∙◌}
use Rattle.slices.specs.Refusals.{Fault, unless}
use Rattle.slices.proofs.Refusals.{handed, passed, failed, refuses, was-given, was-refused}
use Rattle.packed.specs.Faults.{header_fault, tables_fault, sheet_fault, sizes_of}
use Rattle.packed.proofs.Soundness.{sound-header}
use Rattle.packed.proofs.checking.check.Goals as goal

pub check_tables-requires : goal.check_tables-requires
check_tables-requires c = let z = was-given _ _ c.in_ok-z.ensures in (sound-header _ _ z.0, z.1)

pub returns-in_err-z : goal.returns-in_err-z
unfolding sheet_fault
returns-in_err-z c = rw (handed c.from_residual.ensures)
    (let b = c.args.sheet.now in
    refuses (sizes_of b)
    (failed (tables_fault c.args.part b) (was-refused (header_fault c.args.part b) (sizes_of b) c.in_err-z.ensures)))

pub returns : goal.returns
unfolding sheet_fault
returns c =
    let b = c.args.sheet.now in
    let z = was-given _ _ c.in_ok-z.ensures in
    let f = tables_fault c.args.part b in
    c.check_tables.ensures ∙ (ap (unless f) z.1 ∙ ap (λ (g : Fault). unless g (sizes_of b)) (sym (passed f z.0)))
