-- `blocks::seconds::read_seconds` meets its contract. Assumes nothing.
use Rattle.slices.proofs.Refusals.{handed}
use mathlib.Core.Path.{◌≡◌, refl, ap, sym, ◌∙◌}
use mathlib.Core.List.{List}
use Prim.Native.Nat.{ℕ, ◌*◌}
use native.Mathlib.Omega.{arith}
use Rattle.slices.specs.declared.Part.TheVariants.{First}
use Rattle.format.specs.declared.Row.{Row}
use Rattle.format.specs.Format.{Format, reading, each, literal}
use Rattle.format.specs.Rows.{row, numbered}
use Rattle.format.specs.Steps.{placed}
use Rattle.format.proofs.Fixed.{fixed-literal}
use Rattle.format.proofs.Following.{reads-refused, reads_as, step-refused, step-within, step_given}
use Rattle.blocks.specs.Text.{seconds_title, timed, seconds_row_of, seconds_format}
use Rattle.blocks.proofs.Durations.{timed-few, title-taken}
use Rattle.blocks.proofs.seconds.read_seconds.Goals as goal

pub shared_ref_as_front-read_literal : goal.shared_ref_as_front-read_literal
shared_ref_as_front-read_literal c = omega (arith, c.timed.ensures, timed-few c.args.level 14)

pub read_rows-requires : goal.read_rows-requires
read_rows-requires c =
    let table : List ℕ → Format =
    λ vs. each (timed c.args.level c.args.s) (λ a. row (seconds_row_of a)) in
    let titled : c.read_literal.result ≡ placed (reading First c.args.text.now (literal (seconds_title c.args.level)) c.args.at) =
    c.read_literal.ensures
    ∙ ap (λ (x : List ℕ). placed (reading First c.args.text.now (literal x) c.args.at)) (title-taken c.args.level c.timed.ensures) in
    let m = timed-few c.args.level c.args.s in
    let r = ap (λ (x : Row). c.timed-2.result * x.count) c.seconds_row.ensures in
    (step-within First c.args.text.now (fixed-literal (seconds_title c.args.level)) table c.args.at titled c.requires.0 c.in_ok-e.was, omega (arith, m, c.timed-2.ensures, c.requires.1), omega (arith, r, m, c.timed-2.ensures, c.requires.1, c.requires.2))

pub returns-in_err-e : goal.returns-in_err-e
unfolding seconds_format
returns-in_err-e c = rw (handed c.from_residual.ensures)
    (let table : List ℕ → Format =
    λ vs. each (timed c.args.level c.args.s) (λ a. row (seconds_row_of a)) in
    let titled : c.read_literal.result ≡ placed (reading First c.args.text.now (literal (seconds_title c.args.level)) c.args.at) =
    c.read_literal.ensures
    ∙ ap (λ (x : List ℕ). placed (reading First c.args.text.now (literal x) c.args.at)) (title-taken c.args.level c.timed.ensures) in
    reads-refused refl (step-refused First c.args.text.now (fixed-literal (seconds_title c.args.level)) table c.args.at titled c.in_err-e.was))

pub returns : goal.returns
unfolding seconds_format
returns c =
    let table : List ℕ → Format =
    λ vs. each (timed c.args.level c.args.s) (λ a. row (seconds_row_of a)) in
    let titled : c.read_literal.result ≡ placed (reading First c.args.text.now (literal (seconds_title c.args.level)) c.args.at) =
    c.read_literal.ensures
    ∙ ap (λ (x : List ℕ). placed (reading First c.args.text.now (literal x) c.args.at)) (title-taken c.args.level c.timed.ensures) in
    reads_as
    (step_given First c.args.text.now (fixed-literal (seconds_title c.args.level)) table c.args.at titled c.requires.0 c.in_ok-e.was
    ∙ (λ i. reading First c.args.text.now (each (sym c.timed-2.ensures i) (λ a. row (numbered (sym c.seconds_row.ensures i) 0 a))) c.in_ok-e.e))
    c.read_rows.ensures
