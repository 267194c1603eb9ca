-- `format::reading::read_row` meets its contract. Assumes nothing.
use Rattle.slices.proofs.Refusals.{handed}
use Rattle.std.specs.Prelude.{Result, Ok}
use Rattle.slices.specs.declared.Refusal.{Refusal}
use Rattle.numbers.specs.declared.Number.{Number}
use mathlib.Core.Path.{◌≡◌, refl, ap, sym, ◌∙◌}
use native.Mathlib.Omega.{arith}
use Rattle.slices.specs.declared.Part.{Part}
use Prim.Native.Nat.{ℕ, ◌<◌}
use mathlib.Core.List.{List, ◌∷◌, []}
use Rattle.format.specs.declared.Row.{Row}
use Rattle.format.specs.declared.Column.{Column}
use Rattle.format.specs.Format.{reading, Fits}
use Rattle.format.specs.Rows.{separator, column_of, cell, row}
use Rattle.format.specs.Steps.{cell_says}
use Rattle.format.proofs.Repeating.{Partly, partly_none, step-was, partly-cell, partly-refused, partly-all}
use Rattle.format.proofs.reading.read_row.Invariants.{cells}
use Rattle.format.proofs.reading.read_row.Goals as goal

-- what the cell says, by what the calls answered
said : (part : Part) (t : List ℕ) (r : Row) (i p : ℕ) {c : Column} {e : ℕ} {x y : Result Number Refusal} → c ≡ column_of r i → e ≡ separator r.count i → cell_says x ≡ reading part t (cell c e) p → x ≡ y
    → reading part t (cells r i) p ≡ cell_says y
said part t r i p a b s is = (λ k. reading part t (cell (sym a k) (sym b k)) p) ∙ (sym s ∙ ap cell_says is)

small : (part : Part) (t : List ℕ) (r : Row) (count at : ℕ) (old new : List ℕ) (p i v e : ℕ) → Partly part t (cells r) count at old new p i i → reading part t (cells r i) p ≡ Ok (record { values = v ∷ []; next = e }) → v < 1000
unfolding Fits
small part t r count at old new p i v e h s = (step-was h s).fits.0.small

pub loop-i-init : goal.loop-i-init
loop-i-init c = partly_none _ _ _ _ _ _ c.requires.0

pub returns-in_err-number : goal.returns-in_err-number
unfolding row
returns-in_err-number c = rw (handed c.from_residual.ensures)
    (let i = c.loop-i in
    partly-refused i.invariant (omega arith) (said _ _ c.args.r i.i i.p c.column_at.ensures c.separator.ensures c.read_cell.ensures c.in_err-number.was) refl i.invariant.begun.same)

pub overflow_cast-values : goal.overflow_cast-values
overflow_cast-values c =
    let i = c.loop-i in
    omega (arith, small _ _ c.args.r _ _ _ _ _ _ _ _ i.invariant (said _ _ c.args.r i.i i.p c.column_at.ensures c.separator.ensures c.read_cell.ensures c.in_ok-number.was))

pub loop-i-preserved : goal.loop-i-preserved
loop-i-preserved c =
    let i = c.loop-i in
    partly-cell i.invariant _ (omega arith) (omega (arith, c.requires.1)) (said _ _ c.args.r i.i i.p c.column_at.ensures c.separator.ensures c.read_cell.ensures c.in_ok-number.was) refl

pub returns : goal.returns
unfolding row
returns c = partly-all c.loop-i.invariant (omega arith) refl
