-- `numbers::reading::after_number` meets its contract. Assumes nothing.
use Rattle.std.specs.Prelude.{Result}
use Rattle.slices.specs.declared.Refusal.{Refusal}
use mathlib.Core.Path.{ap, sym, ◌∙◌}
use Prim.Native.Nat.{ℕ}
use Rattle.numbers.specs.declared.Number.{Number}
use Rattle.numbers.specs.Numerals.{place_after}
use Rattle.numbers.proofs.reading.after_number.Goals as goal

pub returns-in-Ok : goal.returns-in-Ok
returns-in-Ok c = let at : ℕ = c.args.at in ap (λ (n : Result Number Refusal). place_after n at) (sym c.in-Ok.is ∙ c.first_at-found.ensures)

pub returns-in-Err : goal.returns-in-Err
returns-in-Err c = let at : ℕ = c.args.at in ap (λ (n : Result Number Refusal). place_after n at) (sym c.in-Err.is ∙ c.first_at-found.ensures)
