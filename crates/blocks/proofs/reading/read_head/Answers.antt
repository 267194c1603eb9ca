-- `blocks::reading::read_head` meets its contract. Assumes nothing.
use Rattle.slices.proofs.Refusals.{handed}
use mathlib.Core.Path.{ap, sym, ◌∙◌}
use mathlib.Core.List.{List, [], ◌∷◌}
use Prim.Native.Nat.{ℕ}
use Rattle.slices.specs.declared.Part.TheVariants.{First}
use Rattle.format.specs.Format.{Format, seq, literal}
use Rattle.format.specs.Steps.{placed}
use Rattle.format.proofs.Fixed.{fixed-literal}
use Rattle.format.proofs.Following.{seq-refused, seq-as, step-refused, step-within, step_given}
use Rattle.blocks.specs.Text.{names}
use Rattle.blocks.proofs.reading.read_head.Goals as goal

abbrev feed : List ℕ → Format
feed vs = literal (10 ∷ [])

pub read_names-requires : goal.read_names-requires
read_names-requires c =
    let letters : List ℕ → Format =
    λ vs. literal (names c.args.s) in
    (step-within First c.args.text.now (fixed-literal c.args.title.now) letters c.args.at c.read_literal.ensures c.requires.0 c.in_ok-e.was, c.requires.1)

pub returns-in_err-e : goal.returns-in_err-e
returns-in_err-e c = rw (handed c.from_residual.ensures)
    (let letters : List ℕ → Format =
    λ vs. literal (names c.args.s) in
    ap placed (sym (seq-refused First c.args.text.now (seq (literal c.args.title.now) letters) c.args.at feed (step-refused First c.args.text.now (fixed-literal c.args.title.now) letters c.args.at c.read_literal.ensures c.in_err-e.was))))

pub returns : goal.returns
returns c =
    let letters : List ℕ → Format =
    λ vs. literal (names c.args.s) in
    c.read_names.ensures
    ∙ ap placed (sym (seq-as First c.args.text.now (seq (literal c.args.title.now) letters) c.args.at feed (letters []) c.in_ok-e.e (step_given First c.args.text.now (fixed-literal c.args.title.now) letters c.args.at c.read_literal.ensures c.requires.0 c.in_ok-e.was)))
