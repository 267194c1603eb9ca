-- What inner functions say of reading. Assumes nothing.
use Rattle.slices.specs.declared.Refusal.{Refusal}
use Rattle.std.specs.Prelude.{◌≡◌, List, [], ◌∷◌, ℕ, length, Result, Ok, Err}
use Rattle.slices.specs.Refusals.{mapped}
use Rattle.slices.specs.Filling.{written}
use Rattle.numbers.specs.declared.Number.{Number}
use Rattle.format.specs.Format.{Found}

-- The place after what was read.
abbrev pub placed : Result Found Refusal → Result ℕ Refusal
placed x = mapped (λ (w : Found). w.next) x

-- A number that was read, as what reading finds.
abbrev pub cell_says : Result Number Refusal → Result Found Refusal
cell_says x = mapped (λ (n : Number). record { values = n.value ∷ []; next = n.next }) x

-- The number at a place, 0 where there is none.
abbrev pub peeked : Result Number Refusal → ℕ
peeked (Ok n) = n.value
peeked (Err r) = 0

-- A format was read to the start of a lent slice; a refusal leaves its cells open.
pub record Reads (x : Result Found Refusal) (old new : List ℕ) (r : Result ℕ Refusal) : Type 0 where
  pub says : r ≡ placed x
  pub same : length new ≡ length old
  pub cells : (w : Found) → x ≡ Ok w → new ≡ written w.values old
