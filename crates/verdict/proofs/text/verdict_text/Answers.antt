-- `verdict::text::verdict_text` meets its contract. Assumes nothing.
use Rattle.verdict.proofs.Blocks.{given-shown, refused-shown}
use Rattle.verdict.proofs.text.verdict_text.Goals as goal

pub returns-in-Ok : goal.returns-in-Ok
returns-in-Ok c = given-shown c.in-Ok.is c.requires c.put_verdict.ensures

pub returns-in-Err : goal.returns-in-Err
returns-in-Err c = refused-shown c.in-Err.is c.refusal_text.ensures
