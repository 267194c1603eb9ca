-- The loops of `blocks::reading::read_parts`.
use Rattle.slices.specs.declared.Part.TheVariants.{First}
use Rattle.format.proofs.Repeating.{Partly}
use Rattle.blocks.specs.Text.{size_in}
use Rattle.blocks.proofs.PartsRead.{parted}
use Rattle.blocks.proofs.reading.read_parts.Given as goal

abbrev pub invariant-loop-q : goal.invariant-loop-q
invariant-loop-q l = Partly First l.text (parted l.s (size_in l.front)) l.n l.at l.initial.parts l.parts l.p l.w l.q
