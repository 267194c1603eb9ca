-- `pairing::marks` meets its contract. Assumes nothing.
use mathlib.Core.Path.{ap, ◌∙◌}
use native.Mathlib.Omega.{arith}
use Rattle.packed.proofs.Bounds.{body}
use Rattle.pairing.specs.declared.Beside.{Beside}
use Rattle.pairing.proofs.marks.Goals as goal

pub overflow_add-result : goal.overflow_add-result
overflow_add-result c =
    let t = c.progress-t.ensures in
    let p = c.requires in
    let m = body _ p.0.first.header p.0.first.exact p.1 (ap (λ (t : Beside). t.first) t) c.size-k.ensures (ap (λ (t : Beside). t.letters) t) in
    omega (arith, m.within, m.low)

pub overflow_add-result-2 : goal.overflow_add-result-2
overflow_add-result-2 c =
    let t = c.progress-t.ensures in
    let p = c.requires in
    let m = body _ p.0.second.header p.0.second.exact p.2 (ap (λ (t : Beside). t.second) t) (ap (λ (t : Beside). t.width) t) (ap (λ (t : Beside). t.letters) t ∙ p.0.letters) in
    omega (arith, m.within, m.low)
