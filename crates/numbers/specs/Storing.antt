-- Text stored in a lent slice from a place on, each byte where there is room for it. Assumes nothing.
use Rattle.std.specs.Prelude.{◌≡◌, List, ℕ, ◌+◌, length}
use Rattle.std.proofs.lemmas.List.Edits.{sets}

-- x was stored from a place on, and r is the place after it.
pub record Stored (old : List ℕ) (at : ℕ) (x new : List ℕ) (r : ℕ) : Type 0 where
  pub cells : new ≡ sets old at x
  pub next : r ≡ at + length x
