-- `packed::checking::check_pair` meets its contract. Assumes nothing.
use Rattle.packed.specs.declared.BothSizes.{BothSizes}
use mathlib.Core.Path.{ap, sym, ◌∙◌}
use Rattle.slices.specs.declared.Part.TheVariants.{First}
use Rattle.slices.specs.Refusals.{Fault, unless}
use Rattle.slices.proofs.Refusals.{handed, passed, failed, refuses, was-given, was-refused}
use Rattle.packed.specs.declared.Sizes.{Sizes}
use Rattle.packed.specs.Layout.{letter_count}
use Rattle.packed.specs.Faults.{sheet_fault, sizes_of, second_fault}
use Rattle.packed.proofs.checking.check_pair.Goals as goal

pub returns-in_err-z : goal.returns-in_err-z
returns-in_err-z c = rw (handed c.from_residual.ensures)
    (let b = c.args.first.now in
    refuses (record { first = sizes_of b; second = sizes_of c.args.second.now })
    (failed (second_fault (letter_count b) c.args.second.now) (was-refused (sheet_fault First b) (sizes_of b) c.in_err-z.ensures)))

pub returns : goal.returns
returns c =
    let b = c.args.first.now in
    let w = c.args.second.now in
    let z = was-given (sheet_fault First b) (sizes_of b) c.in_ok-z.ensures in
    c.check_second.ensures
    ∙ (ap (λ (z : Sizes). unless {A = BothSizes} (second_fault z.letters w) (record { first = z; second = sizes_of w })) z.1
    ∙ ap (λ (f : Fault). unless {A = BothSizes} f (record { first = sizes_of b; second = sizes_of w })) (sym (passed (second_fault (letter_count b) w) z.0)))
