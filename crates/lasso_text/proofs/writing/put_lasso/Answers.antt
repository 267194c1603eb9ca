-- `lasso_text::writing::put_lasso` meets its contract. Assumes nothing.
use mathlib.Core.Path.{◌≡◌}
use mathlib.Core.List.{List, ◌++◌, append_assoc}
use Prim.Native.Nat.{ℕ}
use native.Mathlib.Omega.{arith}
use Rattle.numbers.specs.Storing.{Stored}
use Rattle.numbers.proofs.Stores.{stored-then, stored-as}
use Rattle.lasso_text.specs.Text.{title, prefix_name, period_name, letter_lines, lasso_text_of}
use Rattle.lasso_text.proofs.Measures.{text-long}
use Rattle.lasso_text.proofs.writing.put_lasso.Goals as goal

-- the line of names, the lines of the prefix, those of the period
text-stored : {old a b new : List ℕ} {at p q r : ℕ} (u v : List ℕ) → Stored old at title a p → Stored a p (letter_lines prefix_name u) b q → Stored b q (letter_lines period_name v) new r
    → Stored old at (lasso_text_of u v) new r
unfolding lasso_text_of
text-stored u v x y z = stored-as three (stored-then _ _ (stored-then _ _ x y) z)
  where
    three : (title ++ letter_lines prefix_name u) ++ letter_lines period_name v ≡ title ++ letter_lines prefix_name u ++ letter_lines period_name v
    three = append_assoc title (letter_lines prefix_name u) (letter_lines period_name v)

pub put_literal-named-requires : goal.put_literal-named-requires
put_literal-named-requires c = omega (arith, c.requires, text-long c.args.prefix.now c.args.period.now)

pub put_letters-opened-requires : goal.put_letters-opened-requires
put_letters-opened-requires c =
    omega (arith, c.requires, c.put_literal-named.ensures.next, text-long c.args.prefix.now c.args.period.now)

pub put_letters-requires : goal.put_letters-requires
put_letters-requires c =
    omega (arith, c.requires, c.put_literal-named.ensures.next, c.put_letters-opened.ensures.next, text-long c.args.prefix.now c.args.period.now)

pub returns : goal.returns
returns c =
    text-stored c.args.prefix.now c.args.period.now c.put_literal-named.ensures c.put_letters-opened.ensures c.put_letters.ensures
