-- `format::reading::closed` meets its contract. Assumes nothing.
use mathlib.Core.Path.{◌≡◌}
use Prim.Native.Nat.{ℕ}
use borrow.Author.Rules.{rules}
use Rattle.slices.specs.Refusals.{mapped}
use Rattle.format.proofs.Steps.{byte-closed}
use Rattle.format.proofs.reading.closed.Goals as goal

pub returns : goal.returns
returns c =
    let v = c.args.number.value in
    let is : c.map.result ≡ mapped (λ (n : ℕ). record { value = v; next = n }) c.byte.result = search rules in
    rw (is, c.byte.ensures) (byte-closed c.args.part c.args.text.now c.args.end v c.args.number.next)
