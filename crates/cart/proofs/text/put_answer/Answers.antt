-- `cart::text::put_answer` meets its contract: nothing is printed where the cart is loaded. Assumes nothing.
use borrow.Author.Rules.{rules}
use Rattle.console.proofs.Printed.{shows-none}
use Rattle.cart.proofs.text.put_answer.Goals as goal

pub returns-in-Ok-Loaded : goal.returns-in-Ok-Loaded
returns-in-Ok-Loaded c = search (rules, shows-none)
