-- `conversion::unpacking::unpack` meets its contract. Assumes nothing.
use mathlib.Core.Path.{refl}
use Rattle.conversion.proofs.Answers.{cells-of, unpacks}
use Rattle.conversion.proofs.unpacking.unpack.Goals as goal

pub returns : goal.returns
returns c =
    unpacks
    c.args.named
    c.args.sheet.now
    c.args.seconds.now
    _
    c.level_of.ensures
    (cells-of c.args.seconds.now _ _ refl c.halves.ensures)
    c.write.ensures
