-- `packed::progress_at` meets its contract. Assumes nothing.
use mathlib.Core.Path.{◌≡◌, ap, ap₂, ◌∙◌}
use mathlib.Core.List.{List}
use Prim.Native.Nat.{ℕ, ◌+◌, ◌*◌, ◌≤◌}
use native.Mathlib.Omega.{arith}
use Rattle.packed.specs.Layout.{letter_count, size_of, progress_at_value}
use Rattle.packed.proofs.Bounds.{part-few, progress-next, front-few, front-end, progress-few}
use Rattle.packed.proofs.progress_at.Goals as goal
use Rattle.packed.proofs.progress_at.Goals.{After-size}

further : (b : List ℕ) (r at k s : ℕ) → at ≡ progress_at_value b r → k ≡ size_of b r → s ≡ letter_count b → at + k * (s + 1) ≡ progress_at_value b (r + 1)
further b r at k s e d f = (ap (λ (x : ℕ). x + k * (s + 1)) e ∙ ap₂ (λ (x y : ℕ). progress_at_value b r + x * (y + 1)) d f) ∙ progress-next b r

few : (c : goal.After-states-n) → (c.states-n.result ≤ 32) × (c.states-n.result * c.letters-s.result ≤ 1024)
few c = front-few _ c.states-n.ensures c.letters-s.ensures c.requires.0

next-at : (c : After-size) → c.loop-r.at + c.size.result * (c.letters-s.result + 1) ≡ progress_at_value c.args.sheet.now (c.loop-r.r + 1)
next-at c = further _ c.loop-r.r c.loop-r.at _ _ c.loop-r.invariant c.size.ensures c.letters-s.ensures

pub overflow_add-at-2 : goal.overflow_add-at-2
overflow_add-at-2 c = omega (arith, few c)

pub overflow_add-at : goal.overflow_add-at
overflow_add-at c = omega (arith, few c)

pub overflow_mul-at : goal.overflow_mul-at
overflow_mul-at c = omega (arith, few c)

pub loop-r-init : goal.loop-r-init
loop-r-init c = front-end _ c.states-n.ensures c.letters-s.ensures

pub overflow_mul-at-in-loop-r : goal.overflow_mul-at-in-loop-r
overflow_mul-at-in-loop-r c =
    let few_size : c.size.result ≤ 32 = omega (arith, c.size.ensures, c.requires.0.few_size c.loop-r.r (omega arith)) in
    let few_letters : c.letters-s.result ≤ 32 = omega (arith, c.letters-s.ensures, c.requires.0.few_letters) in
    omega (arith, part-few few_size few_letters)

pub overflow_add-at-in-loop-r-2 : goal.overflow_add-at-in-loop-r-2
overflow_add-at-in-loop-r-2 c =
    omega (arith, next-at ((goal.at.overflow_add-at-in-loop-r-2 c).After-size), progress-few _ c.requires.0 (c.loop-r.r + 1) (omega arith), c.requires.0.few_states)

pub loop-r-preserved : goal.loop-r-preserved
loop-r-preserved c = next-at ((goal.at.loop-r-preserved c).After-size)
