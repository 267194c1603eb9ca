-- `c_walk::stepping::rest_numbers` meets its contract. Assumes nothing.
use mathlib.Core.Path.{ap, sym, ◌∙◌}
use mathlib.Core.List.{List, [], ◌∷◌}
use Prim.Native.Nat.{ℕ}
use Rattle.slices.specs.Tables.{tab}
use Rattle.answers.specs.Layout.{padded}
use Rattle.c_walk.specs.Cursors.{phase_number_of}
use Rattle.c_walk.proofs.Naming.{no-rest, some-rest}
use Rattle.c_walk.proofs.stepping.rest_numbers.Goals as goal

pub returns-then-n-eq0 : goal.returns-then-n-eq0
unfolding tab
returns-then-n-eq0 c = λ u v e. ap (λ (ns : List ℕ). padded 4 (0 ∷ ns)) (no-rest c.args.c u v (sym e ∙ c.if-n-eq0.true))

pub returns : goal.returns
unfolding tab
returns c =
    λ u v e.
    ap (λ (p : ℕ). 0 ∷ p ∷ c.args.c.at ∷ c.args.n ∷ []) c.phase_number.ensures
    ∙ (ap (λ (n : ℕ). 0 ∷ phase_number_of c.args.c.phase ∷ c.args.c.at ∷ n ∷ []) e
    ∙ ap (λ (ns : List ℕ). padded 4 (0 ∷ ns)) (some-rest c.args.c u v (λ z. c.if-n-eq0.false (e ∙ z))))
