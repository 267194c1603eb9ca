-- `sheet_forms::pack_text` meets its contract. Assumes nothing.
use mathlib.Core.Path.{◌≡◌, refl, sym, ◌∙◌}
use borrow.Author.Rules.{rules}
use Rattle.slices.proofs.Refusals.{handed}
use Rattle.sheet_forms.specs.Forms.{in_part}
use Rattle.sheet_forms.proofs.Answers.{text-lost}
use Rattle.sheet_forms.proofs.pack_text.Goals as goal

pub returns-in_err-sheet : goal.returns-in_err-sheet
returns-in_err-sheet c =
    let is : c.map_err.result ≡ in_part c.args.part c.read.result = search rules in
    rw (handed c.from_residual.ensures) (text-lost c.args.bytes.now c.args.part c.requires refl c.read.ensures (sym is ∙ c.in_err-sheet.was))
