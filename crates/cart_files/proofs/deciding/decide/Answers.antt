-- `cart_files::deciding::decide` meets its contract. Assumes nothing.
use Rattle.slices.proofs.Refusals.{handed}
use Rattle.cart_files.proofs.Decisions.{decided-long, decided-short}
use Rattle.cart_files.proofs.deciding.decide.Goals as goal

pub returns-in_err-check_length : goal.returns-in_err-check_length
returns-in_err-check_length c = λ ts g. rw (handed c.from_residual.ensures) (decided-long ts g c.args.sheet.now c.in_err-check_length.ensures)

pub returns : goal.returns
returns c = λ ts g. decided-short ts g c.args.sheet.now c.in_ok-check_length.ensures c.decide_short.ensures
