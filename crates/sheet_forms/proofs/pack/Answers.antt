-- `sheet_forms::pack` meets its contract. Assumes nothing.
use Rattle.sheet_forms.specs.declared.Form.TheVariants.{Text, Drawn, Packed}
use Rattle.sheet_forms.proofs.Answers.{packs-as}
use Rattle.sheet_forms.proofs.pack.Goals as goal

pub returns-in-Text : goal.returns-in-Text
returns-in-Text c = packs-as Text c.args.part c.args.bytes.now c.in-Text.is c.pack_text.ensures

pub returns-in-Drawn : goal.returns-in-Drawn
returns-in-Drawn c = packs-as Drawn c.args.part c.args.bytes.now c.in-Drawn.is c.pack_drawn.ensures

pub returns-in-Packed : goal.returns-in-Packed
returns-in-Packed c = packs-as Packed c.args.part c.args.bytes.now c.in-Packed.is c.keep.ensures
