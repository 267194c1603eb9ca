-- `blocks::reading::read_blocks` meets its contract. Assumes nothing.
use Rattle.slices.proofs.Refusals.{handed}
use native.Mathlib.Omega.{arith}
use Rattle.slices.specs.declared.Part.TheVariants.{First}
use Rattle.format.proofs.Following.{Got, got}
use Rattle.blocks.specs.Text.{counts_format}
use Rattle.blocks.proofs.BlocksRead.{counts-fit, counts-lost, blocks-read}
use Rattle.blocks.proofs.reading.read_blocks.Goals as goal

pub read_middle-requires : goal.read_middle-requires
read_middle-requires c =
    let counted : Got First c.args.text.now counts_format 0 c.args.front.now c.read_counts.new.front c.in_ok-e.e =
    got First c.args.text.now counts_format 0 c.read_counts.ensures (omega arith) c.in_ok-e.was in
    (counted.inside, counts-fit counted, omega (arith, counted.begun.same, c.requires.0), c.requires.1)

pub returns-in_err-e : goal.returns-in_err-e
returns-in_err-e c = rw (handed c.from_residual.ensures) (counts-lost c.args.text.now c.args.seconds.now c.read_counts.ensures c.in_err-e.was)

pub returns : goal.returns
returns c =
    let counted : Got First c.args.text.now counts_format 0 c.args.front.now c.read_counts.new.front c.in_ok-e.e =
    got First c.args.text.now counts_format 0 c.read_counts.ensures (omega arith) c.in_ok-e.was in
    blocks-read counted c.read_middle.ensures
