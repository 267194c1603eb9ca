-- `carts::places::locate` meets its contract. Assumes nothing.
use mathlib.Core.Path.{ap₂}
use Prim.Native.Nat.{ℕ, ◌+◌}
use Rattle.carts.specs.declared.Span.{Span}
use Rattle.carts.proofs.places.locate.Goals as goal

pub returns : goal.returns
returns c =
    let at = c.args.at in
    ap₂ (λ (m n : ℕ). placed (at + 4) m n) c.length_at.ensures.0 c.length_at-2.ensures.0
  where
    placed : ℕ → ℕ → ℕ → Span
    placed o m n = record { prefix = o; period = o + m; end = o + m + n }
