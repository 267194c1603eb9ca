-- Families whose verdict does not depend on how often a lasso's period is turned. Assumes nothing.
use Rattle.std.specs.Prelude.{◌≡◌, List, ◌++◌, ℕ, ◌<◌}
use Rattle.fdfa.specs.Words.{power}
use Rattle.fdfa.specs.Family.{Fdfa, Lasso}
use Rattle.fdfa.specs.Acceptance.{accepts}

-- Turn-proof (01: steady): further turns of the period, into the prefix or within the period, leave the verdict alone.
abbrev pub TurnProof : Fdfa → Type 0
TurnProof F = (u v : List ℕ) → Lasso F.letters u v → (a b : ℕ) → 0 < b →
    accepts F (u ++ power v a) (power v b) ≡ accepts F u v
