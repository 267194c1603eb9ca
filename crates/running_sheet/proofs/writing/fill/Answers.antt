-- `running_sheet::writing::fill` meets its contract. Assumes nothing.
use Rattle.slices.specs.declared.Reason.TheVariants.{TooLittleRoom}
use mathlib.Core.Path.{◌≡◌, ap, sym, ◌∙◌}
use Prim.Native.Nat.{ℕ, ◌+◌, ◌≤◌}
use native.Mathlib.Omega.{arith}
use lib.ListN.{length}
use borrow.Author.Tests.{lt-ltb, le-ltb}
use Rattle.slices.specs.declared.Part.TheVariants.{Out}
use Rattle.slices.specs.Refusals.{fault}
use Rattle.slices.proofs.Filling.{fill-refused, fill-given}
use Rattle.slices.proofs.Refusals.{when-fails, when-passes}
use Rattle.numbers.specs.Digits.{digits_of}
use Rattle.numbers.proofs.Stores.{stored-then, stored-as, stored-written}
use Rattle.running_sheet.specs.Text.{totals_text, running_sheet_of}
use Rattle.running_sheet.specs.Places.{first_block, lasting}
use Rattle.running_sheet.proofs.Lines.{text-lines}
use Rattle.running_sheet.proofs.Measures.{sheet-parts, sheet-long}
use Rattle.running_sheet.proofs.writing.fill.Goals as goal

pub returns-then-out-need : goal.returns-then-out-need
returns-then-out-need c =
    let measured : (c.measure.result + c.measure-2.result + c.width.result + c.width-2.result + 34) ≡ length (running_sheet_of c.args.prefix.now c.args.period.now c.args.seconds.now) = let d = ap (λ (n : ℕ). length (digits_of n)) c.sum_seconds-opening.ensures.0 in let e = ap (λ (n : ℕ). length (digits_of n)) c.sum_seconds-turn.ensures.0 in omega (arith, sheet-long c.args.prefix.now c.args.period.now c.args.seconds.now, c.measure.ensures.0, c.measure-2.ensures.0, c.width.ensures.0, c.width-2.ensures.0, d, e) in
    let room = length c.args.out.now in
    fill-refused _ _
    (when-fails TooLittleRoom Out (length (running_sheet_of c.args.prefix.now c.args.period.now c.args.seconds.now)) (lt-ltb room (length (running_sheet_of c.args.prefix.now c.args.period.now c.args.seconds.now)) (omega (arith, c.if-out-need.true, measured)))
    ∙ (ap (λ (n : ℕ). fault (record { reason = TooLittleRoom; part = Out; place = n })) (sym measured) ∙ ap fault (sym c.refuse.ensures)))

pub put_show-at-requires : goal.put_show-at-requires
put_show-at-requires c =
    let measured : (c.measure.result + c.measure-2.result + c.width.result + c.width-2.result + 34) ≡ length (running_sheet_of c.args.prefix.now c.args.period.now c.args.seconds.now) = let d = ap (λ (n : ℕ). length (digits_of n)) c.sum_seconds-opening.ensures.0 in let e = ap (λ (n : ℕ). length (digits_of n)) c.sum_seconds-turn.ensures.0 in omega (arith, sheet-long c.args.prefix.now c.args.period.now c.args.seconds.now, c.measure.ensures.0, c.measure-2.ensures.0, c.width.ensures.0, c.width-2.ensures.0, d, e) in
    (c.requires.0, c.requires.1, omega (arith, c.if-out-need.false, measured, sheet-parts c.args.prefix.now c.args.period.now c.args.seconds.now))

pub put_totals-requires : goal.put_totals-requires
put_totals-requires c =
    let measured : (c.measure.result + c.measure-2.result + c.width.result + c.width-2.result + 34) ≡ length (running_sheet_of c.args.prefix.now c.args.period.now c.args.seconds.now) = let d = ap (λ (n : ℕ). length (digits_of n)) c.sum_seconds-opening.ensures.0 in let e = ap (λ (n : ℕ). length (digits_of n)) c.sum_seconds-turn.ensures.0 in omega (arith, sheet-long c.args.prefix.now c.args.period.now c.args.seconds.now, c.measure.ensures.0, c.measure-2.ensures.0, c.width.ensures.0, c.width-2.ensures.0, d, e) in
    let totals : length (totals_text c.sum_seconds-opening.result c.sum_seconds-turn.result) ≡ length (totals_text (lasting c.args.prefix.now c.args.seconds.now) (lasting c.args.period.now c.args.seconds.now)) = let d = c.sum_seconds-opening.ensures.0 in let e = c.sum_seconds-turn.ensures.0 in λ i. length (totals_text (d i) (e i)) in
    omega (arith, c.if-out-need.false, measured, c.put_show-at.ensures.next, totals, sheet-parts c.args.prefix.now c.args.period.now c.args.seconds.now)

pub returns : goal.returns
returns c =
    let measured : (c.measure.result + c.measure-2.result + c.width.result + c.width-2.result + 34) ≡ length (running_sheet_of c.args.prefix.now c.args.period.now c.args.seconds.now) = let d = ap (λ (n : ℕ). length (digits_of n)) c.sum_seconds-opening.ensures.0 in let e = ap (λ (n : ℕ). length (digits_of n)) c.sum_seconds-turn.ensures.0 in omega (arith, sheet-long c.args.prefix.now c.args.period.now c.args.seconds.now, c.measure.ensures.0, c.measure-2.ensures.0, c.width.ensures.0, c.width-2.ensures.0, d, e) in
    let u = c.args.prefix.now in
    let v = c.args.period.now in
    let w = c.args.seconds.now in
    let d = c.sum_seconds-opening.ensures.0 in
    let e = c.sum_seconds-turn.ensures.0 in
    let h : length (running_sheet_of c.args.prefix.now c.args.period.now c.args.seconds.now) ≤ length c.args.out.now = omega (arith, c.if-out-need.false, measured) in
    let t = stored-then (first_block u v w) (totals_text (lasting u w) (lasting v w)) c.put_show-at.ensures (stored-as (λ i. totals_text (d i) (e i)) c.put_totals.ensures) in
    fill-given (running_sheet_of c.args.prefix.now c.args.period.now c.args.seconds.now) (when-passes TooLittleRoom Out (length (running_sheet_of c.args.prefix.now c.args.period.now c.args.seconds.now)) (le-ltb (length c.args.out.now) (length (running_sheet_of c.args.prefix.now c.args.period.now c.args.seconds.now)) h)) measured (stored-written (stored-as (sym (text-lines u v w)) t) h)
