-- 01's verdict, part by part: q is the leading state after u and i turns, the end is where q's progress automaton stands
-- after j turns, and accepted is whether it is marked there.
use mathlib.Core.Path.{◌≡◌, refl}
use mathlib.Core.List.{List, ◌++◌}
use Prim.Native.Nat.{ℕ}
use Rattle.fdfa.specs.Words.{power}
use Rattle.fdfa.specs.Family.{Fdfa, walk}
use Rattle.fdfa.specs.Acceptance.{verdict}

module _ (F : Fdfa) (u v : List ℕ) where
  pub verdict-state : (verdict F u v).state ≡ walk F.step 0 (u ++ power v (verdict F u v).i)
  verdict-state = refl

  pub verdict-end : (verdict F u v).end ≡ walk (F.progress (verdict F u v).state) 0 (power v (verdict F u v).j)
  verdict-end = refl

  pub verdict-accepted : (verdict F u v).accepted ≡ F.accepting (verdict F u v).state (verdict F u v).end
  verdict-accepted = refl
