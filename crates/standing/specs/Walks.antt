-- Walks along a word by two sheets' own tables, of the inner function. Assumes nothing.
use Rattle.std.specs.Prelude.{List, ℕ, ◌+◌, ◌*◌, ◌<◌, length, get_or, take}
use Rattle.fdfa.specs.Family.{walk}
use Rattle.packed.specs.Layout.{table_step}
use Rattle.pairing.specs.declared.Beside.{Beside}
use Rattle.standing.specs.declared.Pair.{Pair}

-- Where two automata stand after the word, from their starts.
abbrev pub walked_of : List ℕ → List ℕ → Beside → List ℕ → Pair
walked_of b c t w = record {
  first = walk (table_step b t.first t.letters) 0 w;
  second = walk (table_step c t.second t.letters) 0 w;
}

-- Each cell that a walk over the word reads, by the table that begins at a place, lies within the sheet.
pub record WalksWithin (b : List ℕ) (at s : ℕ) (w : List ℕ) : Type 0 where
  pub inside : (i : ℕ) → i < length w → at + (walk (table_step b at s) 0 (take i w) * s + get_or w i 0) < length b
