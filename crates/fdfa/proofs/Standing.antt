-- Where the families of a comparison stand on the lasso that was found: it closes, so their verdicts on it are given there. Assumes
-- nothing.
use mathlib.Core.Path.{◌≡◌, ap, sym, subst, ◌∙◌}
use mathlib.Core.List.{List}
use Prim.Native.Nat.{ℕ}
use Rattle.fdfa.specs.Family.{Fdfa, Complete}
use Rattle.fdfa.specs.Normalization.{Normalized}
use Rattle.fdfa.specs.Acceptance.{Verdict, verdict}
use Rattle.fdfa.specs.Enumeration.{lasso}
use Rattle.fdfa.specs.Inclusion.{Counterexample, Accepted, Answers, Standing, standing, comparison, emptiness}
use Rattle.fdfa.proofs.Normal.{normalized-loop, normalized-end}
use Rattle.fdfa.proofs.Emptiness.{answers-first, emptiness-answers}
use Rattle.fdfa.proofs.Inclusion.{comparison-answers}

-- Where a verdict is given: its leading state, and where the progress automaton of that ends.
abbrev pub given-at : Verdict → Standing
given-at w = record { waits = w.state; ends = w.end }

pub normalized-standing : (F : Fdfa) (u v : List ℕ) → Normalized F u v → standing F (lasso u v) ≡ given-at (verdict F u v)
normalized-standing F u v c = λ i. record { waits = sym (normalized-loop F u v c) i; ends = sym (normalized-end F u v c) i }

pub comparison-standing : (F G : Fdfa) → F.letters ≡ G.letters → Complete F → Complete G → {u v : List ℕ} → (comparison F G).witness ≡ lasso u v
    → ((comparison F G).first ≡ given-at (verdict F u v)) × ((comparison F G).second ≡ given-at (verdict G u v))
comparison-standing F G alike CF CG {u} {v} e =
    let c = (answers-first (subst (Answers (Counterexample F G)) e (comparison-answers F G alike CF CG))).has in
    (ap (standing F) e ∙ normalized-standing F u v c.first_closes, ap (standing G) e ∙ normalized-standing G u v c.second_closes)

pub emptiness-standing : (F : Fdfa) → Complete F → {u v : List ℕ} → (emptiness F).witness ≡ lasso u v → (emptiness F).first ≡ given-at (verdict F u v)
emptiness-standing F C {u} {v} e =
    ap (standing F) e ∙ normalized-standing F u v (answers-first (subst (Answers (Accepted F)) e (emptiness-answers F C))).has.closes
