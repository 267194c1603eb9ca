-- What is printed, out of the texts that it is stored by. Assumes nothing.
use Rattle.std.specs.Prelude.{Result, Ok, Err}
use mathlib.Core.Path.{◌≡◌, refl, ap, sym}
use mathlib.Core.Bool.{Bool, true, false}
use mathlib.Core.List.{List}
use Prim.Native.Nat.{ℕ, ◌+◌, ◌≤◌, ◌<◌}
use native.Mathlib.Omega.{arith}
use lib.ListN.{length}
use Rattle.slices.specs.declared.Refusal.{Refusal}
use Rattle.fdfa.specs.Acceptance.{Verdict}
use Rattle.numbers.specs.Digits.{field}
use Rattle.numbers.specs.Storing.{Stored}
use Rattle.numbers.proofs.Stores.{stored-then}
use Rattle.membership.specs.declared.Judgement.{Judgement}
use Rattle.membership.specs.Verdict.{judged, says_of}
use Rattle.console.specs.Printed.{Shows, refusal_text_of}
use Rattle.console.proofs.Printed.{field-few, shows-as, stored-shows}
use Rattle.verdict.specs.Text.{title, word, verdict_block, verdict_text_of}

pub word-long : (accepted : Bool) → length (word accepted) ≡ 9
word-long true = refl
word-long false = refl

-- how far a field reaches
pub field-ends : {old new : List ℕ} {at r : ℕ} (n e : ℕ) → n < 18446744073709551616 → Stored old at (field n e) new r → r ≤ at + 21
field-ends n e h s = omega (arith, s.next, field-few n e h)

-- the block, field by field
pub block-stored : {old o₁ o₂ o₃ o₄ o₅ new : List ℕ} {p₁ p₂ p₃ p₄ p₅ r : ℕ} (x : Verdict) → Stored old 0 title o₁ p₁ → Stored o₁ p₁ (word x.accepted) o₂ p₂
    → Stored o₂ p₂ (field x.i 32) o₃ p₃ → Stored o₃ p₃ (field x.j 32) o₄ p₄ → Stored o₄ p₄ (field x.state 32) o₅ p₅ → Stored o₅ p₅ (field x.end 10) new r
    → Stored old 0 (verdict_block x) new r
block-stored x a b c d e f =
    (stored-then _ _ (stored-then _ _ (stored-then _ _ (stored-then _ _ (stored-then _ _ a b) c) d) e) f)

-- all of the text, answer by answer
pub given-shown : {answer : Result Judgement Refusal} {a : Judgement} {old new : List ℕ} {r : ℕ} → answer ≡ Ok a → 128 ≤ length old
    → Stored old 0 (verdict_block (judged a)) new r × (r ≤ 128) → Shows (verdict_text_of (says_of answer)) old new r
given-shown e h s = shows-as (ap (λ (x : Result Judgement Refusal). verdict_text_of (says_of x)) (sym e)) (stored-shows {room = 128} s.0 s.1 h)

pub refused-shown : {answer : Result Judgement Refusal} {x : Refusal} {old new : List ℕ} {r : ℕ} → answer ≡ Err x → Shows (refusal_text_of x) old new r → Shows (verdict_text_of (says_of answer)) old new r
refused-shown e s = shows-as (ap (λ (x : Result Judgement Refusal). verdict_text_of (says_of x)) (sym e)) s
