-- `show_files::count_openings` meets its contract. Assumes nothing.
use mathlib.Core.Path.{◌≡◌}
use borrow.Author.Rules.{rules}
use Rattle.show_files.specs.Shown.{prefix_in}
use Rattle.show_files.proofs.Openings.{counted}
use Rattle.show_files.proofs.count_openings.Goals as goal

pub returns : goal.returns
returns c =
    let is : c.map_or.result ≡ prefix_in c.read.result = search rules in
    counted c.args.show.now c.read.result is c.read.ensures.says
