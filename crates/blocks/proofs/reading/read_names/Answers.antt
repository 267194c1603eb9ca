-- `blocks::reading::read_names` meets its contract. Assumes nothing.
use Rattle.slices.proofs.Refusals.{handed}
use mathlib.Core.Path.{◌≡◌, ap, sym, ◌∙◌}
use mathlib.Core.List.{List, [], ◌∷◌}
use Prim.Native.Nat.{ℕ}
use native.Mathlib.Omega.{arith}
use lib.ListN.{take}
use Rattle.slices.specs.declared.Part.TheVariants.{First}
use Rattle.format.specs.Format.{Format, reading, literal}
use Rattle.format.specs.Steps.{placed}
use Rattle.format.proofs.Fixed.{fixed-literal}
use Rattle.format.proofs.Following.{step-refused, step_given}
use Rattle.blocks.specs.Text.{names}
use Rattle.blocks.proofs.LetterNames.{all_names, names_of, names-few}
use Rattle.blocks.proofs.reading.read_names.Goals as goal

abbrev feed : List ℕ → Format
feed vs = literal (10 ∷ [])

pub shared_ref_as_front-read_literal : goal.shared_ref_as_front-read_literal
shared_ref_as_front-read_literal c = omega (arith, c.names_len.ensures, names-few c.args.s c.requires.1)

pub returns-in_err-e : goal.returns-in_err-e
returns-in_err-e c = rw (handed c.from_residual.ensures)
    (let named : c.read_literal.result ≡ placed (reading First c.args.text.now (literal (names c.args.s)) c.args.at) =
    c.read_literal.ensures
    ∙ ap (λ (x : List ℕ). placed (reading First c.args.text.now (literal x) c.args.at)) (ap (λ (k : ℕ). take k all_names) c.names_len.ensures ∙ names_of c.args.s c.requires.1) in
    ap placed (sym (step-refused First c.args.text.now (fixed-literal (names c.args.s)) feed c.args.at named c.in_err-e.was)))

pub returns : goal.returns
returns c =
    let named : c.read_literal.result ≡ placed (reading First c.args.text.now (literal (names c.args.s)) c.args.at) =
    c.read_literal.ensures
    ∙ ap (λ (x : List ℕ). placed (reading First c.args.text.now (literal x) c.args.at)) (ap (λ (k : ℕ). take k all_names) c.names_len.ensures ∙ names_of c.args.s c.requires.1) in
    c.read_literal-2.ensures
    ∙ ap placed (sym (step_given First c.args.text.now (fixed-literal (names c.args.s)) feed c.args.at named c.requires.0 c.in_ok-e.was))
