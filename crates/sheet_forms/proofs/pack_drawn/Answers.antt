-- `sheet_forms::pack_drawn` meets its contract. Assumes nothing.
use mathlib.Core.Path.{◌≡◌}
use borrow.Author.Rules.{rules}
use Rattle.sheet_forms.specs.Forms.{in_part}
use Rattle.sheet_forms.proofs.Answers.{drawn-packed}
use Rattle.sheet_forms.proofs.pack_drawn.Goals as goal

pub returns : goal.returns
returns c =
    let is : c.map_err.result ≡ in_part c.args.part c.import.result = search rules in
    rw is (drawn-packed c.args.bytes.now c.args.part c.requires c.import.ensures)
