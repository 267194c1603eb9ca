-- `c_cart::fdfa_cart` meets its contract. Assumes nothing.
use Rattle.c_cart.proofs.Loaded.{cart-short, cart-long}
use Rattle.c_cart.proofs.fdfa_cart.Goals as goal

pub returns-then-answer-lt-ANSWER : goal.returns-then-answer-lt-ANSWER
returns-then-answer-lt-ANSWER c = cart-short _ _ _ _ c.if-answer-lt-ANSWER.true

pub returns : goal.returns
returns c =
    cart-long _ _ _ _ c.if-answer-lt-ANSWER.false c.load-loading.ensures c.load_numbers-told.ensures c.tell.ensures
