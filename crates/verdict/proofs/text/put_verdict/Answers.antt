-- `verdict::text::put_verdict` meets its contract. Assumes nothing.
use mathlib.Core.Bool.{Bool}
use mathlib.Core.List.{List}
use Prim.Native.Nat.{ℕ, ◌≤◌}
use native.Mathlib.Omega.{arith}
use Rattle.numbers.specs.Storing.{Stored}
use Rattle.console.proofs.Printed.{field-few}
use Rattle.membership.specs.Verdict.{judged}
use Rattle.verdict.specs.Text.{title, word}
use Rattle.verdict.proofs.Blocks.{field-ends, word-long, block-stored}
use Rattle.verdict.proofs.text.put_verdict.Goals as goal

-- how far the line of names and the word reach
named : {old mid new : List ℕ} {p r : ℕ} (accepted : Bool) → Stored old 0 title mid p → Stored mid p (word accepted) new r → r ≤ 31
named accepted a b = omega (arith, a.next, b.next, word-long accepted)

pub put_field-a-requires : goal.put_field-a-requires
put_field-a-requires c =
    omega (arith, named c.args.judgement.accepted c.put_literal-named.ensures c.put_word-worded.ensures, field-few c.args.judgement.i 32 (omega arith))

pub put_field-b-requires : goal.put_field-b-requires
put_field-b-requires c =
    omega (arith, named c.args.judgement.accepted c.put_literal-named.ensures c.put_word-worded.ensures, field-ends c.args.judgement.i 32 (omega arith) c.put_field-a.ensures, field-few c.args.judgement.j 32 (omega arith))

pub put_field-c-requires : goal.put_field-c-requires
put_field-c-requires c =
    omega (arith, named c.args.judgement.accepted c.put_literal-named.ensures c.put_word-worded.ensures, field-ends c.args.judgement.i 32 (omega arith) c.put_field-a.ensures, field-ends c.args.judgement.j 32 (omega arith) c.put_field-b.ensures, field-few c.args.judgement.state 32 (omega arith))

pub put_field-requires : goal.put_field-requires
put_field-requires c =
    omega (arith, named c.args.judgement.accepted c.put_literal-named.ensures c.put_word-worded.ensures, field-ends c.args.judgement.i 32 (omega arith) c.put_field-a.ensures, field-ends c.args.judgement.j 32 (omega arith) c.put_field-b.ensures, field-ends c.args.judgement.state 32 (omega arith) c.put_field-c.ensures, field-few c.args.judgement.end 10 (omega arith))

pub returns : goal.returns
returns c = (
  block-stored (judged c.args.judgement) c.put_literal-named.ensures c.put_word-worded.ensures c.put_field-a.ensures c.put_field-b.ensures c.put_field-c.ensures c.put_field.ensures,
  omega (arith, named c.args.judgement.accepted c.put_literal-named.ensures c.put_word-worded.ensures, field-ends c.args.judgement.i 32 (omega arith) c.put_field-a.ensures, field-ends c.args.judgement.j 32 (omega arith) c.put_field-b.ensures, field-ends c.args.judgement.state 32 (omega arith) c.put_field-c.ensures, field-ends c.args.judgement.end 10 (omega arith) c.put_field.ensures),
)
