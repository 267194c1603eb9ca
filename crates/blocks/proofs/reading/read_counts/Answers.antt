-- `blocks::reading::read_counts` meets its contract. Assumes nothing.
use Rattle.slices.proofs.Refusals.{handed}
use mathlib.Core.Path.{refl, ap, sym, ◌∙◌}
use mathlib.Core.List.{List}
use Prim.Native.Nat.{ℕ}
use native.Mathlib.Omega.{arith}
use Rattle.slices.specs.declared.Part.TheVariants.{First}
use Rattle.format.specs.declared.Row.{Row}
use Rattle.format.specs.Format.{Format, reading}
use Rattle.format.specs.Rows.{row}
use Rattle.format.proofs.Fixed.{fixed-literal}
use Rattle.format.proofs.Following.{reads-refused, reads_as, step-refused, step-within, step_given}
use Rattle.blocks.specs.Text.{counts_title, counts_row_of}
use Rattle.blocks.proofs.reading.read_counts.Goals as goal

abbrev counts : List ℕ → Format
counts vs = row counts_row_of

pub read_row-requires : goal.read_row-requires
read_row-requires c =
    (step-within First c.args.text.now (fixed-literal counts_title) counts 0 c.read_literal.ensures (omega arith) c.in_ok-e.was, omega (arith, ap (λ (r : Row). r.count) c.counts_row.ensures, c.requires))

pub returns-in_err-e : goal.returns-in_err-e
returns-in_err-e c = rw (handed c.from_residual.ensures)
    (reads-refused refl (step-refused First c.args.text.now (fixed-literal counts_title) counts 0 c.read_literal.ensures c.in_err-e.was))

pub returns : goal.returns
returns c =
    reads_as
    (step_given First c.args.text.now (fixed-literal counts_title) counts 0 c.read_literal.ensures (omega arith) c.in_ok-e.was
    ∙ ap (λ (r : Row). reading First c.args.text.now (row r) c.in_ok-e.e) (sym c.counts_row.ensures))
    c.read_row.ensures
