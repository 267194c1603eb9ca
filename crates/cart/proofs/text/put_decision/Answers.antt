-- `cart::text::put_decision` meets its contract. Assumes nothing.
use mathlib.Core.Path.{ap}
use Rattle.console.proofs.Printed.{shows-as}
use Rattle.cart.specs.Text.{load_text}
use Rattle.cart.proofs.text.put_decision.Goals as goal

pub returns : goal.returns
returns c =
    record {
      fits = c.put_answer-text.ensures.fits;
      answers = c.decide-answer.ensures;
      prints = λ ts g. shows-as (ap load_text (c.decide-answer.ensures ts g)) c.put_answer-text.ensures;
    }
