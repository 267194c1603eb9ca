-- What inner functions need and do. Assumes nothing.
use Rattle.slices.specs.declared.Refusal.{Refusal}
use Rattle.std.specs.Prelude.{◌≡◌, List, ℕ, ◌≤◌, length, Result, Ok}
use Rattle.slices.specs.Refusals.{mapped}
use Rattle.slices.specs.Filling.{written, Fills}
use Rattle.blocks.specs.Numbers.{Blocks, blocks_of}
use Rattle.notation.specs.Reading.{Numbers, sheet_of, said, read_fault}

-- The packed sheet of what was read fills the out slice, where there are enough cells for the seconds too.
abbrev pub Packs : Result Numbers Refusal → ℕ → List ℕ → List ℕ → Result ℕ Refusal → Type 0
Packs x cells old out r = Fills (read_fault (mapped sheet_of x) (length old) cells)
    (said (mapped sheet_of x)).bytes old out r

-- The blocks before the last, at the starts of two slices; what follows them begins at a place.
pub record Opened (t front seconds : List ℕ) (at : ℕ) : Type 0 where
  pub blocks : Blocks
  pub says : blocks_of t ≡ Ok blocks
  pub next : blocks.next ≡ at
  pub front_old : List ℕ
  pub front_cells : front ≡ written blocks.front front_old
  pub front_room : 1091 ≤ length front
  pub seconds_old : List ℕ
  pub seconds_cells : seconds ≡ written blocks.timings seconds_old
  pub seconds_room : 64 ≤ length seconds
