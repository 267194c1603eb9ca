-- The words that the queue has for codes, and reading them back. Assumes nothing.
use Rattle.std.specs.Prelude.{◌≡◌, List, ℕ, suc, ◌≤◌, length}
use Rattle.slices.specs.Filling.{written}
use Rattle.search.specs.Words.{Word, ε, ◌·◌, size, letters}
use Rattle.search.specs.Queue.{letter_at, parent_at}

-- the word of a code, read off the cells
pub data Path (cells : List ℕ) : ℕ → Word → Type 0 where
  at_root : Path cells 0 ε
  at_step : {i p a : ℕ} {w : Word} → p ≤ i → p ≡ parent_at cells i → a ≡ letter_at cells i → Path cells p w →
      Path cells (suc i) (w · a)

pub record Readable (cells : List ℕ) (code : ℕ) : Type 0 where
  pub word : Word
  pub path : Path cells code word
  pub inside : code ≤ length cells

pub record Deep (cells : List ℕ) (code r : ℕ) : Type 0 where
  pub word : Word
  pub path : Path cells code word
  pub deep : size word ≡ r
  pub most : r ≤ code

pub record Filled (cells : List ℕ) (code r : ℕ) (old out : List ℕ) : Type 0 where
  pub word : Word
  pub path : Path cells code word
  pub deep : size word ≡ r
  pub holds : out ≡ written (letters word) old
