-- `carts::verdicts::judge_shows` meets its contract. Assumes nothing.
use mathlib.Core.Path.{◌≡◌, ap, sym, subst, ◌∙◌}
use mathlib.Core.List.{List}
use Prim.Native.Nat.{ℕ}
use native.Mathlib.Omega.{arith}
use Rattle.packed.specs.Layout.{decode}
use Rattle.carts.specs.Reading.{count_of, shows_from, shows_of}
use Rattle.carts.specs.Loads.{first_rejected_of}
use Rattle.carts.specs.Steps.{GoodShows}
use Rattle.carts.proofs.Onward.{end-rises, count-shows}
use Rattle.carts.proofs.Answers.{is-loaded, is-rejected}
use Rattle.carts.proofs.verdicts.judge_shows.Goals as goal

first : (sheet b : List ℕ) {i n : ℕ} → n ≡ count_of b → i ≡ first_rejected_of (decode sheet) (shows_from b 1 n) → i ≡ first_rejected_of (decode sheet) (shows_of b)
first sheet b e d = d ∙ ap (λ (n : ℕ). first_rejected_of (decode sheet) (shows_from b 1 n)) e

pub bounds-cart-0 : goal.bounds-cart-0
bounds-cart-0 c = omega (arith, end-rises c.args.cart.now 1 (count_of c.args.cart.now), c.requires.exact)

pub first_rejected-i-requires : goal.first_rejected-i-requires
first_rejected-i-requires c =
    subst (GoodShows c.args.sheet.now c.args.cart.now 1) (sym c.from-count.ensures) c.requires

pub returns-then-i-count : goal.returns-then-i-count
returns-then-i-count c =
    is-loaded (decode c.args.sheet.now) (shows_of c.args.cart.now) _ (first c.args.sheet.now c.args.cart.now c.from-count.ensures c.first_rejected-i.ensures) (c.if-i-count.true ∙ (c.from-count.ensures ∙ sym (count-shows c.args.cart.now 1 (count_of c.args.cart.now))))

pub returns : goal.returns
returns c =
    is-rejected (decode c.args.sheet.now) (shows_of c.args.cart.now) _ (first c.args.sheet.now c.args.cart.now c.from-count.ensures c.first_rejected-i.ensures) (λ e. c.if-i-count.false (e ∙ (count-shows c.args.cart.now 1 (count_of c.args.cart.now) ∙ sym c.from-count.ensures)))
