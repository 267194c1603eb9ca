-- A step that is not refused passes the letter at its place, and is one within the word that the cursor stands in. Assumes nothing.
use Rattle.std.specs.Prelude.{Ok}
use mathlib.Core.Path.{◌≡◌}
use mathlib.Core.List.{List}
use Prim.Native.Nat.{ℕ, ◌<◌}
use lib.ListN.{length, get_or}
use borrow.Author.Tests.{ne_eqb, lt-leb}
use Rattle.cursor.specs.declared.Phase.{Phase}
use Rattle.cursor.specs.declared.Cursor.{Cursor}
use Rattle.cursor.specs.Walking.{word_of, next_in, stepped}
use Rattle.cursor.specs.Passing.{passed_in}

pub inside : (c : Cursor) (w : List ℕ) → c.at < length w → record { letter = Ok (get_or w c.at 0); cursor = next_in c w } ≡ passed_in c w
inside c w h = rw (lt-leb _ _ h)

pub step-passes : (c : Cursor) (u v : List ℕ) → (length v ≡ 0 → ⊥) → (p : Phase) → c.phase ≡ p → passed_in c (word_of p u v) ≡ stepped c u v
step-passes c u v some p e = rw (ne_eqb _ 0 some, e)
