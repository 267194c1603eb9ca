-- `blocks::reading::read_leading` meets its contract. Assumes nothing.
use Rattle.slices.proofs.Refusals.{handed}
use mathlib.Core.Path.{refl, ap, sym, ◌∙◌}
use mathlib.Core.List.{List}
use Prim.Native.Nat.{ℕ, ◌*◌}
use native.Mathlib.Omega.{arith}
use Rattle.slices.specs.declared.Part.TheVariants.{First}
use Rattle.format.specs.declared.Row.{Row}
use Rattle.format.specs.Format.{Format, reading, each}
use Rattle.format.specs.Rows.{row, numbered}
use Rattle.format.proofs.Following.{reads-refused, reads_as, step-refused, step-within, step_given}
use Rattle.blocks.specs.Text.{leading_title, leading_row_of}
use Rattle.blocks.proofs.Shapes.{fixed-head}
use Rattle.blocks.proofs.reading.read_leading.Goals as goal

pub read_rows-requires : goal.read_rows-requires
read_rows-requires c =
    let table : List ℕ → Format =
    λ vs. each c.args.n (λ q. row (leading_row_of c.args.s c.args.n q)) in
    let r = ap (λ (x : Row). c.args.n * x.count) c.leading_row.ensures in
    (step-within First c.args.text.now (fixed-head leading_title c.args.s) table c.args.at c.read_head.ensures c.requires.0 c.in_ok-e.was, omega (arith, c.requires.2), omega (arith, r, c.requires.3))

pub returns-in_err-e : goal.returns-in_err-e
returns-in_err-e c = rw (handed c.from_residual.ensures)
    (let table : List ℕ → Format =
    λ vs. each c.args.n (λ q. row (leading_row_of c.args.s c.args.n q)) in
    reads-refused refl (step-refused First c.args.text.now (fixed-head leading_title c.args.s) table c.args.at c.read_head.ensures c.in_err-e.was))

pub returns : goal.returns
returns c =
    let table : List ℕ → Format =
    λ vs. each c.args.n (λ q. row (leading_row_of c.args.s c.args.n q)) in
    reads_as
    (step_given First c.args.text.now (fixed-head leading_title c.args.s) table c.args.at c.read_head.ensures c.requires.0 c.in_ok-e.was
    ∙ ap (λ (r : Row). reading First c.args.text.now (each c.args.n (λ q. row (numbered r 0 q))) c.in_ok-e.e) (sym c.leading_row.ensures))
    c.read_rows.ensures
