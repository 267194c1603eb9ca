-- `lasso_text::writing::write` meets its contract. Assumes nothing.
use Rattle.slices.specs.declared.Reason.TheVariants.{TooLittleRoom}
use Rattle.slices.specs.Refusals.{fault_in}
use mathlib.Core.Path.{◌≡◌, ap, sym, ◌∙◌}
use mathlib.Core.List.{List}
use Prim.Native.Nat.{ℕ, ◌+◌, ◌≤◌, ◌<◌}
use native.Mathlib.Omega.{arith}
use lib.ListN.{length}
use borrow.Author.Tests.{lt-ltb, le-ltb}
use Rattle.slices.specs.Capped.{capped}
use Rattle.slices.specs.declared.Part.TheVariants.{Out}
use Rattle.slices.specs.Refusals.{sound, fault}
use Rattle.slices.specs.LassoLetters.{letters_fault}
use Rattle.slices.proofs.Capped.{capped-sum, capped_le, capped-below}
use Rattle.slices.proofs.Filling.{fill-refused, fill-given}
use Rattle.slices.proofs.Refusals.{handed, when-fails, when-passes, passed, failed}
use Rattle.numbers.proofs.Stores.{stored-written}
use Rattle.lasso_text.specs.Text.{prefix_name, period_name, letter_lines, lasso_text_of}
use Rattle.lasso_text.specs.Writing.{write_fault}
use Rattle.lasso_text.proofs.Measures.{text-long}
use Rattle.lasso_text.proofs.writing.write.Goals as goal

-- the room, after the letters are found good
module _ (u v : List ℕ) {room need : ℕ} (few : room < 9223372036854775808) (known : letters_fault 32 u v ≡ sound) (e : need ≡ capped (length (lasso_text_of u v))) where
  too_short_lem : room < need → write_fault u v room ≡ fault (record { reason = TooLittleRoom; part = Out; place = need })
  too_short_lem h =
      let less : room < length (lasso_text_of u v) = omega (arith, capped_le (length (lasso_text_of u v)), e) in
      passed _ known
      ∙ (when-fails TooLittleRoom Out (capped (length (lasso_text_of u v))) (lt-ltb room (length (lasso_text_of u v)) less) ∙ ap (λ (n : ℕ). fault (record { reason = TooLittleRoom; part = Out; place = n })) (sym e))

  long : need ≤ room → need ≡ length (lasso_text_of u v)
  long h = e ∙ sym (capped-below (length (lasso_text_of u v)) room (omega arith) (omega arith))

  enough : need ≤ room → write_fault u v room ≡ sound
  enough h =
      passed _ known
      ∙ when-passes TooLittleRoom Out (capped (length (lasso_text_of u v))) (le-ltb room (length (lasso_text_of u v)) (omega (arith, long h)))

-- the text is measured, part by part
whole : (u v : List ℕ) {a need : ℕ} → a ≡ capped (11 + length (letter_lines prefix_name u)) → need ≡ capped (a + length (letter_lines period_name v)) → need ≡ capped (length (lasso_text_of u v))
whole u v e d =
    d
    ∙ (ap (λ (n : ℕ). capped (n + length (letter_lines period_name v))) e
    ∙ (capped-sum (11 + length (letter_lines prefix_name u)) (length (letter_lines period_name v)) ∙ ap capped (sym (text-long u v))))

pub returns-then-short : goal.returns-then-short
returns-then-short c =
    fill-refused _ _
    (too_short_lem c.args.prefix.now c.args.period.now (omega arith) (sym c.check_lasso.ensures ∙ ap fault_in c.in_ok-check_lasso.was) (whole c.args.prefix.now c.args.period.now c.measure-opened.ensures c.measure-need.ensures) c.if-short.true ∙ ap fault (sym c.refuse.ensures))

pub put_lasso-requires : goal.put_lasso-requires
put_lasso-requires c =
    omega (arith, c.if-short.false, long c.args.prefix.now c.args.period.now {room = length c.args.out.now} (omega arith) (sym c.check_lasso.ensures ∙ ap fault_in c.in_ok-check_lasso.was) (whole c.args.prefix.now c.args.period.now c.measure-opened.ensures c.measure-need.ensures) (omega (arith, c.if-short.false)))

pub returns-in_err-check_lasso : goal.returns-in_err-check_lasso
returns-in_err-check_lasso c = rw (handed c.from_residual.ensures) (fill-refused _ _ (failed _ (sym c.check_lasso.ensures ∙ ap fault_in c.in_err-check_lasso.was)))

pub returns : goal.returns
returns c =
    let u = c.args.prefix.now in
    let v = c.args.period.now in
    let few : length c.args.out.now < 9223372036854775808 = omega arith in
    let fits : c.measure-need.result ≤ length c.args.out.now = omega (arith, c.if-short.false) in
    let n = long u v few (sym c.check_lasso.ensures ∙ ap fault_in c.in_ok-check_lasso.was) (whole c.args.prefix.now c.args.period.now c.measure-opened.ensures c.measure-need.ensures) fits in
    fill-given (lasso_text_of u v) (enough u v few (sym c.check_lasso.ensures ∙ ap fault_in c.in_ok-check_lasso.was) (whole c.args.prefix.now c.args.period.now c.measure-opened.ensures c.measure-need.ensures) fits) n (stored-written c.put_lasso.ensures (omega (arith, n, fits)))
