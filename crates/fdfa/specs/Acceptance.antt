-- Acceptance of a lasso (002, Definition 3.1; 01: the verdict). Assumes nothing.
use Rattle.std.specs.Prelude.{Bool, List, ℕ}
use Rattle.fdfa.specs.Words.{power}
use Rattle.fdfa.specs.Family.{Fdfa, walk}
use Rattle.fdfa.specs.Normalization.{after, preperiod, period_count}

-- The leading state q after u and i turns.
abbrev pub loop_state : Fdfa → List ℕ → List ℕ → ℕ
loop_state F u v = after F u v (preperiod F u v)

-- Where the progress automaton of q ends after j turns, from its start.
abbrev pub end_state : Fdfa → List ℕ → List ℕ → ℕ
end_state F u v = walk (F.progress (loop_state F u v)) 0 (power v (period_count F u v))

-- The lasso is accepted when that state is accepting.
abbrev pub accepts : Fdfa → List ℕ → List ℕ → Bool
accepts F u v = F.accepting (loop_state F u v) (end_state F u v)

pub record Verdict : Type 0 where
  pub accepted : Bool
  pub i : ℕ
  pub j : ℕ
  pub state : ℕ
  pub end : ℕ

abbrev pub verdict : Fdfa → List ℕ → List ℕ → Verdict
verdict F u v = record {
  accepted = accepts F u v;
  i = preperiod F u v;
  j = period_count F u v;
  state = loop_state F u v;
  end = end_state F u v;
}
