-- `notation::writing::put_text` meets its contract. Assumes nothing.
use Rattle.std.specs.Prelude.{Err}
use mathlib.Core.Path.{◌≡◌, ap, sym, subst, ◌∙◌}
use mathlib.Core.List.{◌++◌}
use Prim.Native.Nat.{ℕ, ◌≤◌, ◌<◌}
use native.Mathlib.Omega.{arith}
use lib.ListN.{length}
use Rattle.slices.specs.Refusals.{Fault}
use Rattle.slices.specs.Filling.{written, filled}
use Rattle.slices.specs.Seconds.{TimesFit}
use Rattle.slices.proofs.Filling.{none-back, fill-given}
use Rattle.slices.proofs.Refusals.{refuses}
use Rattle.packed.specs.Layout.{decode}
use Rattle.numbers.proofs.Stores.{stored-as, stored-length, stored-written}
use Rattle.blocks.specs.Text.{timed, text_of}
use Rattle.blocks.specs.Lines.{lines_of}
use Rattle.notation.proofs.Texting.{text-is, too_short_lem, enough}
use Rattle.notation.proofs.writing.put_text.Goals as goal

pub put_sheet-need-requires : goal.put_sheet-need-requires
put_sheet-need-requires c = c.requires

pub returns-then-out-need : goal.returns-then-out-need
returns-then-out-need c =
    let lines : lines_of c.args.level c.args.seconds.now (decode c.args.sheet.now) ≡ (text_of c.args.level c.args.seconds.now c.args.sheet.now) =
    text-is c.args.level c.args.seconds.now c.args.sheet.now c.requires.valid.0 c.requires.le_level.0 c.requires.le_level.1
    (subst (λ (m : ℕ). TimesFit (timed c.args.level m) c.args.seconds.now) c.requires.valid.1 c.requires.le_level.2) in
    let measured : length (text_of c.args.level c.args.seconds.now c.args.sheet.now) ≡ c.put_sheet-need.result =
    omega (arith, c.put_sheet-need.ensures.next, ap length lines) in
    let unchanged : c.put_sheet-need.new.out ++ c.args.out.now ≡ c.args.out.now =
    none-back c.put_sheet-need.new.out c.args.out.now (stored-length c.put_sheet-need.ensures) in
    let less : length c.args.out.now < c.put_sheet-need.result = omega (arith, ap length unchanged, c.if-out-need.true) in
    let f = too_short_lem (text_of c.args.level c.args.seconds.now c.args.sheet.now) c.args.out.now measured less in
    record {
      says = ap Err c.refuse.ensures ∙ refuses (length (text_of c.args.level c.args.seconds.now c.args.sheet.now)) f;
      cells = unchanged ∙ ap (λ (x : Fault). filled x (text_of c.args.level c.args.seconds.now c.args.sheet.now) c.args.out.now) (sym f);
    }

pub put_sheet-requires : goal.put_sheet-requires
put_sheet-requires c = c.requires

pub returns : goal.returns
returns c =
    let lines : lines_of c.args.level c.args.seconds.now (decode c.args.sheet.now) ≡ (text_of c.args.level c.args.seconds.now c.args.sheet.now) =
    text-is c.args.level c.args.seconds.now c.args.sheet.now c.requires.valid.0 c.requires.le_level.0 c.requires.le_level.1
    (subst (λ (m : ℕ). TimesFit (timed c.args.level m) c.args.seconds.now) c.requires.valid.1 c.requires.le_level.2) in
    let measured : length (text_of c.args.level c.args.seconds.now c.args.sheet.now) ≡ c.put_sheet-need.result =
    omega (arith, c.put_sheet-need.ensures.next, ap length lines) in
    let unchanged : c.put_sheet-need.new.out ++ c.args.out.now ≡ c.args.out.now =
    none-back c.put_sheet-need.new.out c.args.out.now (stored-length c.put_sheet-need.ensures) in
    let more : c.put_sheet-need.result ≤ length c.args.out.now = omega (arith, ap length unchanged, c.if-out-need.false) in
    let put = stored-as lines c.put_sheet.ensures in
    fill-given (text_of c.args.level c.args.seconds.now c.args.sheet.now) (enough (text_of c.args.level c.args.seconds.now c.args.sheet.now) c.args.out.now measured more) (sym measured)
    (stored-written put (omega (arith, measured, more, ap length unchanged)) ∙ ap (written (text_of c.args.level c.args.seconds.now c.args.sheet.now)) unchanged)
