-- `prefix_pass::pairs::cell` meets its contract. Assumes nothing.
use mathlib.Core.Path.{◌≡◌, ap, sym, ◌∙◌}
use mathlib.Core.Bool.{Bool, cond}
use mathlib.Core.List.{List}
use Prim.Native.Nat.{ℕ, ◌*◌, ◌/◌, ◌%◌, ◌<◌}
use native.Mathlib.Omega.{arith}
use borrow.Author.Tests.{lt-ltb, le-ltb}
use Rattle.packed.specs.Columns.{column_step}
use Rattle.prefix_pass.specs.Steps.{Stepping}
use Rattle.prefix_pass.proofs.pairs.cell.Goals as goal

-- the first letter is one of the table's
first : (i s : ℕ) → i < 1024 * s → i / 1024 < s
first i s h = omega arith

rest : (i : ℕ) → i % 32 < 32
rest i = omega arith

-- the state between the two letters
between : {t : List ℕ} {s i q : ℕ} → Stepping t s → i < 1024 * s → q ≡ column_step t (i % 32) (i / 1024) → q < 32
between {i = i} h l e = omega (arith, e, h.closed (i % 32) (i / 1024) (rest i) (first _ _ l))

pub step-q-requires : goal.step-q-requires
step-q-requires c = omega (arith, first _ _ c.requires.1, rest c.args.i, c.requires.0.few_letters, c.requires.0.long)

pub step-requires : goal.step-requires
step-requires c = omega (arith, c.if-b-letters.true, between c.requires.0 c.requires.1 c.step-q.ensures, c.requires.0.few_letters, c.requires.0.long)

pub overflow_cast-result : goal.overflow_cast-result
overflow_cast-result c = omega (arith, c.step.ensures, c.requires.0.closed c.step-q.result _ (between c.requires.0 c.requires.1 c.step-q.ensures) c.if-b-letters.true)

pub returns-then-b-letters : goal.returns-then-b-letters
returns-then-b-letters c =
    let t = c.args.table.now in
    let b = c.args.i / 32 % 32 in
    c.step.ensures
    ∙ (ap (λ (q : ℕ). column_step t q b) c.step-q.ensures
    ∙ ap (λ (x : Bool). cond x (column_step t (column_step t (c.args.i % 32) (c.args.i / 1024)) b) 0) (sym (lt-ltb _ _ c.if-b-letters.true)))

pub returns : goal.returns
returns c = rw (le-ltb _ _ c.if-b-letters.false)
