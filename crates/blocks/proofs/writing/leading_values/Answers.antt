-- `blocks::writing::leading_values` meets its contract. Assumes nothing.
use mathlib.Core.Path.{refl, ◌∙◌}
use mathlib.Core.List.{[], ◌∷◌}
use native.Mathlib.Omega.{arith}
use lib.Seq.{length-sets}
use Rattle.slices.proofs.Tables.{row-end}
use Rattle.packed.proofs.Bounds.{front-within}
use Rattle.blocks.proofs.RowValues.{leading-row}
use Rattle.blocks.proofs.writing.leading_values.Goals as goal

pub put_nexts-requires : goal.put_nexts-requires
put_nexts-requires c = (
  omega (arith, front-within c.args.sheet.now c.requires.0.header c.requires.0.exact c.requires.2 c.requires.1, row-end c.args.q c.args.n c.args.s c.requires.3),
  omega arith,
  omega (arith, c.requires.0.header.few_letters, c.requires.1),
  omega (arith, c.requires.4, length-sets c.args.row.now 0 (c.args.q ∷ c.from.result ∷ [])),
)

pub returns : goal.returns
returns c =
    c.put_nexts.ensures
    ∙ leading-row c.args.sheet.now c.args.row.now c.requires.1 c.requires.2 refl c.from.ensures c.requires.4
