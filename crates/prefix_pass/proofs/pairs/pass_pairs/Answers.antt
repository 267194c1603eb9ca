-- `prefix_pass::pairs::pass_pairs` meets its contract: after i letters it stands where the pass over them does. Assumes nothing.
use mathlib.Core.Path.{◌≡◌, ap, sym, subst, ◌∙◌}
use mathlib.Core.List.{List}
use Prim.Native.Nat.{ℕ, ◌+◌, ◌*◌, ◌/◌}
use native.Mathlib.Omega.{arith}
use lib.ListN.{length, get_or, take}
use Rattle.fdfa.specs.Pass.{reached, pass_over}
use Rattle.packed.specs.Columns.{column_step}
use Rattle.prefix_pass.proofs.Doubled.{length_pairs, pair_step_lem, pass-two}
use Rattle.prefix_pass.proofs.pairs.pass_pairs.Goals as goal

pub pairs-two-requires : goal.pairs-two-requires
pairs-two-requires c = c.requires.0

pub loop-i-init : goal.loop-i-init
loop-i-init c = (c.requires.1, λ n. ap (reached c.args.state) (none n))
  where
    none : (n : ℕ) → n ≡ n + 0
    none n = omega arith

pub returns-then-has_unknown : goal.returns-then-has_unknown
returns-then-has_unknown c = record { within = omega arith; below = c.loop-i.invariant.0; goes = c.loop-i.invariant.1 }

pub slice_bounds-step_from-end : goal.slice_bounds-step_from-end
slice_bounds-step_from-end c = sym (ap length c.pairs-two.ensures ∙ length_pairs _ _ c.requires.0.few_letters)

pub overflow_mul-a : goal.overflow_mul-a
overflow_mul-a c = omega (arith, (c.has_unknown.ensures c.if-has_unknown.false).0, c.requires.0.few_letters)

pub overflow_mul-b : goal.overflow_mul-b
overflow_mul-b c = omega (arith, (c.has_unknown.ensures c.if-has_unknown.false).1, c.requires.0.few_letters)

pub overflow_add-a : goal.overflow_add-a
overflow_add-a c = omega (arith, (c.has_unknown.ensures c.if-has_unknown.false).0, (c.has_unknown.ensures c.if-has_unknown.false).1, c.requires.0.few_letters)

pub step_from-q-requires : goal.step_from-q-requires
step_from-q-requires c =
    omega (arith, (c.has_unknown.ensures c.if-has_unknown.false).0, (c.has_unknown.ensures c.if-has_unknown.false).1, c.requires.0.few_letters, c.loop-i.invariant.0, (ap length c.pairs-two.ensures ∙ length_pairs _ _ c.requires.0.few_letters))

pub loop-i-preserved : goal.loop-i-preserved
loop-i-preserved c =
    let f = column_step c.args.table.now in
    let leads : c.step_from-q.result ≡ f (f c.loop-i.q c.from-a.result) c.from-b.result =
    c.step_from-q.ensures
    ∙ (ap (λ (t : List ℕ). get_or t (1024 * c.from-a.result + 32 * c.from-b.result + c.loop-i.q) 0) c.pairs-two.ensures
    ∙ pair_step_lem _ _ c.requires.0.few_letters c.loop-i.q c.from-a.result c.from-b.result c.loop-i.invariant.0 (c.has_unknown.ensures c.if-has_unknown.false).0 (c.has_unknown.ensures c.if-has_unknown.false).1) in
    let mid = c.requires.0.closed c.loop-i.q c.from-a.result c.loop-i.invariant.0 (c.has_unknown.ensures c.if-has_unknown.false).0 in (
      omega (arith, leads, c.requires.0.closed _ c.from-b.result mid (c.has_unknown.ensures c.if-has_unknown.false).1),
      λ n. ap (λ (m : ℕ). pass_over c.args.letters f (reached c.args.state n) (take m c.args.part.now)) (two c.loop-i.i)
          ∙ pass-two c.args.letters f (reached c.args.state n) c.args.part.now (2 * c.loop-i.i) (c.loop-i.invariant.1 n) (omega arith) c.from-a.ensures c.from-b.ensures (c.has_unknown.ensures c.if-has_unknown.false).0 (c.has_unknown.ensures c.if-has_unknown.false).1
          ∙ (λ k. reached (sym leads k) (far n c.loop-i.i k)),
    )
  where
    two : (i : ℕ) → 2 * (i + 1) ≡ 2 * i + 2
    two i = omega arith

    far : (n i : ℕ) → n + 2 * i + 2 ≡ n + 2 * (i + 1)
    far n i = omega arith

pub returns : goal.returns
returns c =
    let e : 2 * c.loop-i.i ≡ length c.args.part.now / 2 * 2 = omega arith in
    record {
      within = omega arith;
      below = c.loop-i.invariant.0;
      goes = subst (λ (m : ℕ). (n : ℕ) → pass_over c.args.letters (column_step c.args.table.now) (reached c.args.state n) (take m c.args.part.now) ≡ reached c.loop-i.q (n + m)) e c.loop-i.invariant.1;
    }
