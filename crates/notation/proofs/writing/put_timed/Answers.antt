-- `notation::writing::put_timed` meets its contract. Assumes nothing.
use Rattle.slices.specs.Refusals.{fault_in}
use mathlib.Core.Path.{◌≡◌, ap, sym, ◌∙◌}
use Prim.Native.Nat.{ℕ}
use Rattle.slices.specs.Seconds.{seconds_fault}
use Rattle.slices.proofs.Filling.{fill-refused}
use Rattle.slices.proofs.Refusals.{handed, passed, failed}
use Rattle.slices.proofs.Timings.{seconds-fit}
use Rattle.packed.specs.Layout.{letter_count}
use Rattle.blocks.specs.Text.{timed, text_of}
use Rattle.notation.proofs.Texting.{fills-after}
use Rattle.notation.proofs.writing.put_timed.Goals as goal

pub put_text-requires : goal.put_text-requires
put_text-requires c =
    let judged : fault_in c.check_seconds.result ≡ seconds_fault (timed c.args.level c.args.s) (c.args.seconds.now) =
    c.check_seconds.ensures ∙ ap (λ (m : ℕ). seconds_fault m c.args.seconds.now) c.timed.ensures in
    record { valid = (c.requires.0, c.requires.1, c.requires.2); le_level = (c.requires.3, c.requires.4, seconds-fit (timed c.args.level c.args.s) c.args.seconds.now (sym judged ∙ ap fault_in c.in_ok-check_seconds.was)) }

pub returns-in_err-check_seconds : goal.returns-in_err-check_seconds
returns-in_err-check_seconds c = rw (handed c.from_residual.ensures)
    (let judged : fault_in c.check_seconds.result ≡ seconds_fault (timed c.args.level c.args.s) (c.args.seconds.now) =
    c.check_seconds.ensures ∙ ap (λ (m : ℕ). seconds_fault m c.args.seconds.now) c.timed.ensures in
    let of-sheet : fault_in c.check_seconds.result ≡ seconds_fault (timed c.args.level (letter_count c.args.sheet.now)) (c.args.seconds.now) =
    judged ∙ ap (λ (s : ℕ). seconds_fault (timed c.args.level s) c.args.seconds.now) c.requires.1 in
    fill-refused (text_of c.args.level c.args.seconds.now c.args.sheet.now) c.args.out.now (failed _ (sym of-sheet ∙ ap fault_in c.in_err-check_seconds.was)))

pub returns : goal.returns
returns c =
    let judged : fault_in c.check_seconds.result ≡ seconds_fault (timed c.args.level c.args.s) (c.args.seconds.now) =
    c.check_seconds.ensures ∙ ap (λ (m : ℕ). seconds_fault m c.args.seconds.now) c.timed.ensures in
    let of-sheet : fault_in c.check_seconds.result ≡ seconds_fault (timed c.args.level (letter_count c.args.sheet.now)) (c.args.seconds.now) =
    judged ∙ ap (λ (s : ℕ). seconds_fault (timed c.args.level s) c.args.seconds.now) c.requires.1 in
    fills-after (passed _ (sym of-sheet ∙ ap fault_in c.in_ok-check_seconds.was)) c.put_text.ensures
