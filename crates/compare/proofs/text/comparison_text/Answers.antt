-- `compare::text::comparison_text` meets its contract. Assumes nothing.
use mathlib.Core.Path.{◌≡◌}
use mathlib.Core.List.{List}
use Prim.Native.Nat.{ℕ, ◌≤◌, ◌<◌}
use native.Mathlib.Omega.{arith}
use lib.ListN.{length, get_or, take}
use lib.Seq.{length-take-le}
use Rattle.inclusion.specs.declared.Outcome.TheVariants.{Absent, Found}
use Rattle.fdfa.proofs.Words.{over-take, letters-over}
use Rattle.lasso_text.specs.Text.{lasso_text_of}
use Rattle.lasso_text.proofs.Measures.{text-few}
use Rattle.compare.proofs.Blocks.{absent-shown, found-shown}
use Rattle.compare.proofs.text.comparison_text.Goals as goal

-- what is printed has room
few : (os ps : List ℕ) (u v : ℕ) → ((i : ℕ) → i < length os → get_or os i 0 < 256) → ((i : ℕ) → i < length ps → get_or ps i 0 < 256) → u ≤ length os → v ≤ length ps → length os ≤ 4096 → length ps ≤ 4096
    → length (lasso_text_of (take u os) (take v ps)) ≤ 237579
few os ps u v o p h k m n =
    omega (
      arith,
      text-few (take u os) (take v ps) (over-take u (letters-over 256 os o)) (over-take v (letters-over 256 ps p)),
      length-take-le u os h,
      length-take-le v ps k,
    )

pub put_lasso-shown-requires : goal.put_lasso-shown-requires
put_lasso-shown-requires c =
    let a = c.in-Ok-Found in
    let e : a.field-0 ≡ Found a.z = rw a.is at a.field-0-is in
    let w : (a.z.prefix ≤ length c.args.opening.now) × (a.z.period ≤ length c.args.period.now) = rw (a.is, e) at c.requires.0 in
    let f = few c.args.opening.now c.args.period.now a.z.prefix a.z.period (λ i h. omega (arith, c.type_inv.opening i)) (λ i h. omega (arith, c.type_inv.period i)) w.0 w.1 c.requires.1 c.requires.2 in
    omega (arith, f, c.put_verdict-at-in-Ok-Found.ensures.1)

pub put_standings-requires-in-Ok-Found : goal.put_standings-requires-in-Ok-Found
put_standings-requires-in-Ok-Found c =
    let a = c.in-Ok-Found in
    let e : a.field-0 ≡ Found a.z = rw a.is at a.field-0-is in
    let w : (a.z.prefix ≤ length c.args.opening.now) × (a.z.period ≤ length c.args.period.now) = rw (a.is, e) at c.requires.0 in
    let f = few c.args.opening.now c.args.period.now a.z.prefix a.z.period (λ i h. omega (arith, c.type_inv.opening i)) (λ i h. omega (arith, c.type_inv.period i)) w.0 w.1 c.requires.1 c.requires.2 in
    omega (arith, f, c.put_verdict-at-in-Ok-Found.ensures.1, c.put_lasso-shown.ensures.next)

pub returns-in-Ok-Absent : goal.returns-in-Ok-Absent
returns-in-Ok-Absent c =
    let a = c.in-Ok-Absent in
    let e : a.field-0 ≡ Absent a.z = rw a.is at a.field-0-is in
    rw (a.is, e) (absent-shown a.z c.requires.3 c.put_verdict-at.ensures c.put_standings.ensures)

pub returns-in-Ok-Found : goal.returns-in-Ok-Found
returns-in-Ok-Found c =
    let a = c.in-Ok-Found in
    let e : a.field-0 ≡ Found a.z = rw a.is at a.field-0-is in
    let w : (a.z.prefix ≤ length c.args.opening.now) × (a.z.period ≤ length c.args.period.now) = rw (a.is, e) at c.requires.0 in
    let f = few c.args.opening.now c.args.period.now a.z.prefix a.z.period (λ i h. omega (arith, c.type_inv.opening i)) (λ i h. omega (arith, c.type_inv.period i)) w.0 w.1 c.requires.1 c.requires.2 in
    rw (a.is, e) (found-shown a.z _ _ c.requires.3 f c.put_verdict-at-in-Ok-Found.ensures c.put_lasso-shown.ensures c.put_standings-in-Ok-Found.ensures)
