-- `prefix_pass::pass_long` meets its contract: the pass is taken up where the pairs end. Assumes nothing.
use mathlib.Core.Path.{◌≡◌, ap, sym, ◌∙◌}
use mathlib.Core.List.{List}
use Prim.Native.Nat.{ℕ, ◌-◌}
use native.Mathlib.Omega.{arith}
use lib.ListN.{length, take, drop, take-append-drop}
use Rattle.slices.specs.Capped.{capped}
use Rattle.slices.proofs.Filling.{rest-lent}
use Rattle.fdfa.specs.Pass.{Pass, reached, pass_over}
use Rattle.fdfa.proofs.Pass.{pass-append}
use Rattle.packed.specs.Columns.{column_step}
use Rattle.prefix_pass.specs.Parts.{told}
use Rattle.prefix_pass.proofs.Telling.{told-on}
use Rattle.prefix_pass.proofs.pass_long.Goals as goal

-- from where the pairs end, the pass over the rest is the pass over the whole
whole : (s : ℕ) (f : ℕ → ℕ → ℕ) (p : Pass) (w : List ℕ) (i : ℕ) {q n m : ℕ} → pass_over s f p (take i w) ≡ reached q n → m ≡ capped n
    → told (pass_over s f (reached q m) (take (length w - i) (drop i w))) ≡ told (pass_over s f p w)
whole s f p w i {q} {n} {m} here is =
    (λ k. told (pass_over s f (reached q (is k)) (rest-lent w i k)))
    ∙ (told-on s f (reached q n) (drop i w)
    ∙ ap told (ap (λ (x : Pass). pass_over s f x (drop i w)) (sym here) ∙ (sym (pass-append s f p (take i w) (drop i w)) ∙ ap (pass_over s f p) (take-append-drop i w))))

pub slice_bounds-pass-count : goal.slice_bounds-pass-count
slice_bounds-pass-count c = omega (arith, c.pass_pairs-r.ensures.within)

pub slice_bounds-pass-start : goal.slice_bounds-pass-start
slice_bounds-pass-start c = omega (arith, c.pass_pairs-r.ensures.within)

pub pass-requires : goal.pass-requires
pass-requires c = (c.requires.0, c.pass_pairs-r.ensures.below)

pub returns : goal.returns
returns c =
    c.pass.ensures
    ∙ whole c.args.letters (column_step c.args.table.now) (reached c.args.state c.args.at) c.args.part.now c.pass_pairs-r.result.passed (c.pass_pairs-r.ensures.goes c.args.at) c.sum.ensures
