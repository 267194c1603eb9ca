-- `compare_files::compare_packed` meets its contract. Assumes nothing.
use mathlib.Core.Path.{refl}
use Rattle.compare_files.proofs.Decisions.{packed-decides}
use Rattle.compare_files.proofs.compare_packed.Goals as goal

pub returns : goal.returns
returns c =
    packed-decides c.args.first.now c.args.second.now _ _ c.requires.0 c.requires.1 refl c.compare.result c.compare.ensures
