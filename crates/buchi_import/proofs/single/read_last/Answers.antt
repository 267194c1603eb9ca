-- `buchi_import::single::read_last` meets its contract. Assumes nothing.
use Rattle.slices.proofs.Refusals.{handed}
use mathlib.Core.Path.{ap, sym, ◌∙◌}
use mathlib.Core.List.{List, [], ◌∷◌}
use Prim.Native.Nat.{ℕ, ◌≤◌}
use lib.ListN.{length}
use Rattle.slices.specs.declared.Part.TheVariants.{First}
use Rattle.format.specs.declared.Column.{Column}
use Rattle.format.specs.Format.{Format, after, reading, literal}
use Rattle.format.specs.Lines.{labelled}
use Rattle.format.proofs.Fixed.{fixed-literal}
use Rattle.format.proofs.Steps.{placed-refused}
use Rattle.format.proofs.Following.{step-read, cell-within, cell-lost, cell-got}
use Rattle.buchi_import.proofs.single.read_last.Goals as goal

abbrev feed : List ℕ → Format
feed vs = literal (10 ∷ [])

abbrev cell : List ℕ → Column → Format
cell word column = labelled word (λ v. column) 93

pub returns-in_err-state : goal.returns-in_err-state
returns-in_err-state c = rw (handed c.from_residual.ensures)
    (sym (cell-lost First c.args.text.now (cell c.args.word.now c.args.column) c.args.at c.read_labelled.ensures feed c.in_err-state.was))

-- the state was read, up to the bracket: the line feed is left
pub returns-in_err-next : goal.returns-in_err-next
returns-in_err-next c = rw (handed c.from_residual-in_err-next.ensures)
    (let rest = cell-got First c.args.text.now (cell c.args.word.now c.args.column) c.args.at c.read_labelled.ensures feed c.in_ok-state.was in
    sym (rest ∙ ap (after (c.in_ok-state.state.value ∷ [])) (placed-refused (reading First c.args.text.now (literal (10 ∷ [])) c.in_ok-state.state.next) (sym c.read_literal.ensures ∙ c.in_err-next.was))))

pub returns : goal.returns
returns c =
    let rest = cell-got First c.args.text.now (cell c.args.word.now c.args.column) c.args.at c.read_labelled.ensures feed c.in_ok-state.was in
    let within : c.in_ok-state.state.next ≤ length c.args.text.now = cell-within First c.args.text.now (cell c.args.word.now c.args.column) c.args.at c.read_labelled.ensures c.requires c.in_ok-state.was in
    sym (rest ∙ ap (after (c.in_ok-state.state.value ∷ [])) (step-read First c.args.text.now (fixed-literal (10 ∷ [])) feed c.in_ok-state.state.next c.read_literal.ensures within c.in_ok-next.was))
