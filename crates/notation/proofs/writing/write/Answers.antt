-- `notation::writing::write` meets its contract. Assumes nothing.
use Rattle.slices.specs.declared.Reason.TheVariants.{UnknownLevel}
use mathlib.Core.Path.{◌≡◌, ap, sym, ◌∙◌}
use mathlib.Core.Bool.{false}
use Rattle.slices.specs.declared.Part.TheVariants.{First}
use Rattle.slices.specs.Refusals.{sound, fault}
use Rattle.slices.specs.Scans.{outside}
use Rattle.slices.proofs.Filling.{fill-refused}
use Rattle.slices.proofs.Refusals.{handed, when-fails, when-passes, passed, failed, was-given, was-refused}
use Rattle.slices.proofs.Scans.{inside}
use Rattle.packed.specs.declared.Sizes.{Sizes}
use Rattle.packed.specs.Faults.{sheet_fault, sizes_of}
use Rattle.packed.proofs.Soundness.{sound-valid}
use Rattle.blocks.specs.Text.{text_of}
use Rattle.notation.specs.Writing.{write_fault}
use Rattle.notation.proofs.Texting.{fills-after}
use Rattle.notation.proofs.writing.write.Goals as goal

pub returns-then-is_outside : goal.returns-then-is_outside
unfolding write_fault
returns-then-is_outside c =
    fill-refused (text_of c.args.level c.args.seconds.now (c.args.sheet.now)) c.args.out.now (failed _ (when-fails UnknownLevel First 0 (sym c.is_outside.ensures ∙ c.if-is_outside.true) ∙ ap fault (sym c.refuse.ensures)))

pub put_timed-requires : goal.put_timed-requires
put_timed-requires c =
    let within : outside 3 5 c.args.level ≡ false =
    sym c.is_outside.ensures ∙ c.if-is_outside.false in
    let sized : (sheet_fault First c.args.sheet.now ≡ sound) × (c.in_ok-sizes.sizes ≡ sizes_of c.args.sheet.now) =
    was-given _ _ (sym c.in_ok-sizes.was ∙ c.check.ensures) in
    let l = inside 3 5 c.args.level within in
    (sound-valid First c.args.sheet.now sized.0, ap (λ (z : Sizes). z.letters) sized.1, ap (λ (z : Sizes). z.states) sized.1, l.0, l.1)

pub returns-in_err-sizes : goal.returns-in_err-sizes
unfolding write_fault
returns-in_err-sizes c = rw (handed c.from_residual.ensures)
    (let within : outside 3 5 c.args.level ≡ false =
    sym c.is_outside.ensures ∙ c.if-is_outside.false in
    fill-refused (text_of c.args.level c.args.seconds.now (c.args.sheet.now)) c.args.out.now
    (passed _ (when-passes UnknownLevel First 0 within) ∙ failed _ (was-refused (sheet_fault First c.args.sheet.now) (sizes_of c.args.sheet.now) (sym c.in_err-sizes.was ∙ c.check.ensures))))

pub returns : goal.returns
unfolding write_fault
returns c =
    let within : outside 3 5 c.args.level ≡ false =
    sym c.is_outside.ensures ∙ c.if-is_outside.false in
    let sized : (sheet_fault First c.args.sheet.now ≡ sound) × (c.in_ok-sizes.sizes ≡ sizes_of c.args.sheet.now) =
    was-given _ _ (sym c.in_ok-sizes.was ∙ c.check.ensures) in
    fills-after (passed _ (when-passes UnknownLevel First 0 within) ∙ passed _ sized.0) c.put_timed.ensures
