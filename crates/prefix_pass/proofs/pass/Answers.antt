-- `prefix_pass::pass` meets its contract: after i letters it holds what the pass over them does. Assumes nothing.
use mathlib.Core.Path.{◌≡◌, ap, sym, ◌∙◌}
use Prim.Native.Nat.{ℕ, ◌+◌, ◌<◌}
use native.Mathlib.Omega.{arith}
use lib.ListN.{length}
use lib.Seq.{take_all}
use Rattle.fdfa.specs.Pass.{reached, unknown, pass_over}
use Rattle.fdfa.proofs.Pass.{pass-further, pass-ends}
use Rattle.packed.specs.Columns.{column_step}
use Rattle.prefix_pass.specs.Parts.{told}
use Rattle.prefix_pass.proofs.pass.Goals as goal

next : (n i : ℕ) → n + i + 1 ≡ n + (i + 1)
next n i = omega arith

pub loop-i-init : goal.loop-i-init
loop-i-init c = (c.requires.1, ap (reached c.args.state) (omega arith))

pub returns-then-letters-letter : goal.returns-then-letters-letter
returns-then-letters-letter c =
    let s = c.args in
    ap unknown c.sum.ensures
    ∙ sym
    (ap told
    (pass-ends s.letters (column_step s.table.now) (reached s.state s.at) s.part.now c.loop-i.invariant.1 c.loop-i-test.true c.from-letter.ensures c.if-letters-letter.true))

pub step-q-requires : goal.step-q-requires
step-q-requires c =
    let p = c.requires.0 in
    omega (arith, c.if-letters-letter.false, c.loop-i.invariant.0, p.few_letters, p.long)

pub loop-i-preserved : goal.loop-i-preserved
loop-i-preserved c =
    let s = c.args in
    let known : c.from-letter.result < s.letters = omega (arith, c.if-letters-letter.false) in (
      omega (arith, c.step-q.ensures, c.requires.0.closed c.loop-i.q c.from-letter.result c.loop-i.invariant.0 known),
      pass-further s.letters (column_step s.table.now) (reached s.state s.at) s.part.now c.loop-i.invariant.1 c.loop-i-test.true c.from-letter.ensures known
          ∙ (λ k. reached (sym c.step-q.ensures k) (next s.at c.loop-i.i k)),
    )

pub returns : goal.returns
returns c =
    let s = c.args in
    let e : c.loop-i.i ≡ length s.part.now = omega arith in
    ap (reached c.loop-i.q) (c.sum-2.ensures)
    ∙ sym
    (ap told
    (ap (pass_over s.letters (column_step s.table.now) (reached s.state s.at)) (sym (take_all c.loop-i.i s.part.now c.loop-i-test.false))
    ∙ (c.loop-i.invariant.1 ∙ ap (λ (i : ℕ). reached c.loop-i.q (s.at + i)) e)))
