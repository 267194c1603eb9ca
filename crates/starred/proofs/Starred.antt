-- The starred rows of 01, proved about the definitions as one statement over a list. Assumes nothing.
use Rattle.std.specs.Prelude.{Result, Ok, Err}
use Rattle.slices.specs.declared.Refusal.{Refusal}
use mathlib.Core.Path.{◌≡◌, refl}
use mathlib.Core.Bool.{Bool, true, false}
use mathlib.Core.List.{List, [], ◌∷◌}
use Prim.Native.Nat.{ℕ}
use Rattle.slices.specs.Extremes.{least, largest}
use Rattle.fdfa.specs.Normalization.{return_from, returning}
use Rattle.fdfa.specs.Acceptance.{Verdict}
use Rattle.fdfa.specs.Enumeration.{first_letter, first_of_length, first_word, Witness, absent, lasso}
use Rattle.fdfa.specs.Inclusion.{comparison, emptiness, count_below}
use Rattle.slices.specs.Tables.{tab, rows, sum}
use Rattle.packed.specs.Layout.{decode, progress_at_value}
use Rattle.slices.specs.LassoLetters.{period_fault, letters_fault}
use Rattle.slices.specs.Scans.{first_outside_of}
use Rattle.packed.specs.Faults.{progress_fault, header_fault, tables_fault, sheet_fault}
use Rattle.membership.specs.Verdict.{lasso_fault, verdict_of}
use Rattle.cursor.specs.declared.Cursor.{Cursor}
use Rattle.cursor.specs.Walking.{start_of, next_of, stepped}
use Rattle.boolean.specs.Operations.{complement_bytes, intersection_bytes}

-- The sheets A to E.
abbrev pub a : List ℕ
a = 2 ∷ 1 ∷ 1 ∷ 0 ∷ 0 ∷ 0 ∷ 0 ∷ 1 ∷ []

abbrev pub b : List ℕ
b = 2 ∷ 1 ∷ 2 ∷ 0 ∷ 0 ∷ 1 ∷ 0 ∷ 1 ∷ 1 ∷ 0 ∷ 1 ∷ []

abbrev pub c : List ℕ
c = 1 ∷ 1 ∷ 2 ∷ 0 ∷ 1 ∷ 0 ∷ 1 ∷ 0 ∷ []

abbrev pub d : List ℕ
d = 1 ∷ 2 ∷ 1 ∷ 1 ∷ 1 ∷ 0 ∷ 0 ∷ 1 ∷ 0 ∷ 1 ∷ []

abbrev pub e : List ℕ
e = 1 ∷ 3 ∷ 1 ∷ 1 ∷ 1 ∷ 1 ∷ 2 ∷ 1 ∷ 0 ∷ 0 ∷ 0 ∷ 1 ∷ 0 ∷ 0 ∷ []

-- A row: the case, then its outcome.
pub data Row : Type 0 where
  verdict : (sheet u v : List ℕ) → (accepted : Bool) → Row
  closing : (sheet u v : List ℕ) → (i j : ℕ) (accepted : Bool) → Row
  placed : (sheet u v : List ℕ) → (i j state : ℕ) (accepted : Bool) → Row
  intersected : (first second u v : List ℕ) → (accepted accepted-by-first : Bool) → Row
  complemented : (sheet : List ℕ) → (result : List ℕ) → Row
  compared : (first second : List ℕ) → (reached : ℕ) → Witness → Row
  emptied : (sheet : List ℕ) → Witness → Row
  played : (u v : List ℕ) → (letters : List ℕ) → Row

-- A call gives a verdict, of which something holds.
abbrev pub Gives : Result Verdict Refusal → (Verdict → Type 0) → Type 0
Gives (Ok w) P = P w
Gives (Err r) P = ⊥

-- Steps from the cursor pass these letters.
abbrev pub Plays : Cursor → List ℕ → List ℕ → List ℕ → Type 0
Plays c u v [] = Unit {0}
Plays c u v (a ∷ l) = (stepped c u v ≡ record { letter = Ok a; cursor = next_of c u v }) × Plays (next_of c u v) u v l

-- What a row says of the definitions.
abbrev pub Holds : Row → Type 0
Holds (verdict sheet u v ok) = Gives (verdict_of sheet u v) (λ w. w.accepted ≡ ok)
Holds (closing sheet u v i j ok) = Gives (verdict_of sheet u v) (λ w. (w.i ≡ i) × (w.j ≡ j) × (w.accepted ≡ ok))
Holds (placed sheet u v i j q ok) = Gives (verdict_of sheet u v) (λ w. (w.i ≡ i) × (w.j ≡ j) × (w.state ≡ q) × (w.accepted ≡ ok))
Holds (intersected x y u v ok first) = Gives (verdict_of (intersection_bytes x y) u v) (λ w. w.accepted ≡ ok) × Gives (verdict_of x u v) (λ w. w.accepted ≡ first)
Holds (complemented sheet r) = complement_bytes sheet ≡ r
Holds (compared x y r w) = ((comparison (decode x) (decode y)).reached ≡ r) × ((comparison (decode x) (decode y)).witness ≡ w)
Holds (emptied sheet w) = (emptiness (decode sheet)).witness ≡ w
Holds (played u v l) = Plays (start_of u) u v l

abbrev pub All : List Row → Type 0
All [] = Unit {0}
All (r ∷ rs) = Holds r × All rs

-- The case and outcome of each starred row, in the paper's order.
abbrev pub starred : List Row
starred =
    closing b [] (0 ∷ []) 0 1 true
    ∷ verdict b (0 ∷ []) (1 ∷ []) false
    ∷ verdict c [] (0 ∷ []) false
    ∷ verdict c [] (0 ∷ 0 ∷ []) true
    ∷ placed e [] (0 ∷ []) 1 2 1 true
    ∷ placed e (0 ∷ 0 ∷ []) (0 ∷ []) 0 2 2 false
    ∷ intersected c d [] (0 ∷ []) true false
    ∷ complemented a (2 ∷ 1 ∷ 1 ∷ 0 ∷ 0 ∷ 0 ∷ 0 ∷ 0 ∷ [])
    ∷ compared a b 1 (lasso [] (1 ∷ []))
    ∷ compared d c 2 absent
    ∷ emptied b (lasso [] (0 ∷ []))
    ∷ played (5 ∷ []) (7 ∷ 8 ∷ []) (5 ∷ 7 ∷ 8 ∷ 7 ∷ 8 ∷ [])
    ∷ []

pub holds : All starred
unfolding least return_from returning first_letter first_of_length first_word largest count_below tab rows sum progress_at_value first_outside_of progress_fault header_fault tables_fault sheet_fault period_fault letters_fault lasso_fault
holds = (
  (refl, refl, refl),
  (
    refl,
    (
      refl,
      (
        refl,
        (
          (refl, refl, refl, refl),
          (
            (refl, refl, refl, refl),
            (
              (refl, refl),
              (
                refl,
                (
                  (refl, refl),
                  (
                    (refl, refl),
                    (
                      refl,
                      ((refl, (refl, (refl, (refl, (refl, tt))))), tt),
                    ),
                  ),
                ),
              ),
            ),
          ),
        ),
      ),
    ),
  ),
)
