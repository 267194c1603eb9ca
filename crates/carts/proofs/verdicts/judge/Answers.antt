-- `carts::verdicts::judge` meets its contract: the sheet, then the cart. Assumes nothing.
use mathlib.Core.Path.{ap, sym, ◌∙◌}
use Prim.Native.Nat.{ℕ}
use lib.ListN.{length}
use Rattle.slices.specs.declared.Part.TheVariants.{First, Out}
use Rattle.slices.specs.Refusals.{Fault, ◌then◌, short, unless}
use Rattle.slices.proofs.Refusals.{passed, was-given}
use Rattle.packed.specs.declared.Sizes.{Sizes}
use Rattle.packed.specs.Layout.{decode}
use Rattle.packed.specs.Faults.{sheet_fault, sizes_of}
use Rattle.carts.specs.Reading.{shows_of}
use Rattle.carts.specs.Faults.{cart_fault}
use Rattle.carts.specs.Loads.{load_by}
use Rattle.carts.proofs.verdicts.judge.Goals as goal

pub judge_cart-requires : goal.judge_cart-requires
judge_cart-requires c = ((was-given (sheet_fault First c.args.sheet.now) (sizes_of c.args.sheet.now) c.in_ok-z.ensures).0, ap (λ (z : Sizes). z.letters) (was-given (sheet_fault First c.args.sheet.now) (sizes_of c.args.sheet.now) c.in_ok-z.ensures).1)

pub returns : goal.returns
returns c =
    let b = c.args.sheet.now in
    let x = load_by (decode b) (shows_of c.args.cart.now) (length c.args.cart.now) in
    c.judge_cart.ensures
    ∙ (ap (λ (s : ℕ). unless (cart_fault s c.args.cart.now then short Out c.args.room (length c.args.cart.now)) x) (ap (λ (z : Sizes). z.letters) (was-given (sheet_fault First c.args.sheet.now) (sizes_of c.args.sheet.now) c.in_ok-z.ensures).1)
    ∙ ap (λ (f : Fault). unless f x) (sym (passed _ (was-given (sheet_fault First c.args.sheet.now) (sizes_of c.args.sheet.now) c.in_ok-z.ensures).0)))
