-- `carts::verdicts::judge_cart` meets its contract: the cart, the room, the verdicts. Assumes nothing.
use Rattle.slices.specs.declared.Reason.TheVariants.{TooLittleRoom}
use Rattle.std.specs.Prelude.{Ok}
use mathlib.Core.Path.{◌≡◌, ap, sym, ◌∙◌}
use mathlib.Core.List.{List}
use Prim.Native.Nat.{ℕ}
use borrow.Author.Tests.{lt-ltb, le-ltb}
use Rattle.slices.specs.declared.Part.TheVariants.{First, Out}
use Rattle.slices.specs.Refusals.{sound, fault}
use Rattle.slices.proofs.Refusals.{passed, refuses, gives, when-fails, when-passes, then-left, then-right}
use Rattle.packed.specs.Layout.{letter_count}
use Rattle.packed.specs.Faults.{sheet_fault}
use Rattle.carts.specs.Reading.{count_of}
use Rattle.carts.specs.Faults.{layout_fault, shows_fault, cart_fault}
use Rattle.carts.specs.Steps.{GoodShows}
use Rattle.carts.proofs.Layouts.{layout-exact}
use Rattle.carts.proofs.verdicts.judge_cart.Goals as goal

good : (sheet b : List ℕ) (s : ℕ) → (sheet_fault First sheet ≡ sound) × (s ≡ letter_count sheet) → cart_fault s b ≡ sound → GoodShows sheet b 1 (count_of b)
unfolding cart_fault
good sheet b s h fine = record {
  sheet_good = h.0;
  exact = layout-exact b (then-left (layout_fault b) (shows_fault s b 1 (count_of b)) fine);
  shows_good = ap (λ (n : ℕ). shows_fault n b 1 (count_of b)) (sym h.1) ∙ then-right (layout_fault b) (shows_fault s b 1 (count_of b)) fine;
}

pub returns-then-room-cart : goal.returns-then-room-cart
returns-then-room-cart c =
    refuses _ (passed _ (sym c.in_ok-check_cart.ensures) ∙ (when-fails TooLittleRoom Out _ (lt-ltb _ _ c.if-room-cart.true) ∙ ap fault (sym c.refuse.ensures)))

pub judge_shows-requires : goal.judge_shows-requires
judge_shows-requires c = good c.args.sheet.now c.args.cart.now c.args.letters c.requires (sym c.in_ok-check_cart.ensures)

pub returns : goal.returns
returns c =
    ap Ok c.judge_shows.ensures ∙ gives _ (passed _ (sym c.in_ok-check_cart.ensures) ∙ when-passes TooLittleRoom Out _ (le-ltb _ _ c.if-room-cart.false))
