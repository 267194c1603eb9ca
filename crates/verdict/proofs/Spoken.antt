-- What is said on standard error, out of the texts that it is stored by. Assumes nothing.
use Rattle.std.specs.Prelude.{Result, Ok, Err}
use mathlib.Core.Path.{◌≡◌, ap, sym, ◌∙◌}
use mathlib.Core.Bool.{Bool, true, false, cond}
use mathlib.Core.List.{List, []}
use Prim.Native.Nat.{ℕ, ◌+◌, ◌≤◌, ◌<◌}
use native.Mathlib.Omega.{arith}
use lib.ListN.{length}
use Rattle.slices.specs.declared.Refusal.{Refusal}
use Rattle.slices.specs.Texts.{bytes}
use Rattle.fdfa.specs.Acceptance.{Verdict}
use Rattle.numbers.specs.Digits.{field}
use Rattle.numbers.specs.Storing.{Stored}
use Rattle.numbers.proofs.Stores.{stored-then, stored-as}
use Rattle.membership.specs.declared.Judgement.{Judgement}
use Rattle.membership.specs.Verdict.{judged, says_of}
use Rattle.console.specs.Printed.{Shows}
use Rattle.wording.specs.Words.{File, show_words_of}
use Rattle.console.proofs.Printed.{field-few, shows-none, shows-as, stored-shows}
use Rattle.show_files.specs.Shown.{openings}
use Rattle.verdict.specs.Said.{start_words, mark_words, wait_words, end_words, verdict_words, said_of}

pub start-stored : {old new : List ℕ} {r : ℕ} {accepted : Bool} (x : Bool) → accepted ≡ x → length (start_words x) ≤ 40 → Stored old 0 (start_words x) new r → Stored old 0 (start_words accepted) new r × (r ≤ 40)
start-stored x e l s = (stored-as (ap start_words (sym e)) s, omega (arith, s.next))

pub mark-stored : {old new : List ℕ} {at r : ℕ} {accepted : Bool} (x : Bool) → accepted ≡ x → length (mark_words x) ≤ 40 → Stored old at (mark_words x) new r → Stored old at (mark_words accepted) new r × (r ≤ at + 40)
mark-stored x e l s = (stored-as (ap mark_words (sym e)) s, omega (arith, s.next))

pub wait-stored : {old o₁ o₂ o₃ o₄ o₅ new : List ℕ} {p₁ p₂ p₃ p₄ p₅ r : ℕ} (name : List ℕ) (accepted : Bool) (i q : ℕ) → length name ≤ 4096 → i < 18446744073709551616 → q < 18446744073709551616
    → Stored old 0 (start_words accepted) o₁ p₁ × (p₁ ≤ 40) → Stored o₁ p₁ (field i 32) o₂ p₂ → Stored o₂ p₂ (bytes "turn(s) of the loop ") o₃ p₃ → Stored o₃ p₃ name o₄ p₄
    → Stored o₄ p₄ (bytes " waits at place ") o₅ p₅ → Stored o₅ p₅ (field q 59) new r → Stored old 0 (wait_words name accepted i q) new r × (r ≤ 4352)
wait-stored name accepted i q l h k a b c d e f = (
  (stored-then _ _ (stored-then _ _ (stored-then _ _ (stored-then _ _ (stored-then _ _ a.0 b) c) d) e) f),
  omega (arith, a.1, b.next, c.next, d.next, e.next, f.next, field-few i 32 h, field-few q 59 k),
)

pub end-stored : {old o₁ o₂ o₃ o₄ new : List ℕ} {at p₁ p₂ p₃ p₄ r : ℕ} (accepted : Bool) (j e : ℕ) → j < 18446744073709551616 → e < 18446744073709551616
    → Stored old at (bytes " ") o₁ p₁ → Stored o₁ p₁ (field j 32) o₂ p₂ → Stored o₂ p₂ (bytes "turn(s) more lead from loop place 0 to loop place ") o₃ p₃ → Stored o₃ p₃ (field e 44) o₄ p₄
    → Stored o₄ p₄ (mark_words accepted) new r × (r ≤ p₄ + 40) → Stored old at (end_words accepted j e) new r × (r ≤ at + 256)
end-stored accepted j e h k a b c d f = (
  (stored-then _ _ (stored-then _ _ (stored-then _ _ (stored-then _ _ a b) c) d) f.0),
  omega (arith, a.next, b.next, c.next, d.next, f.1, field-few j 32 h, field-few e 44 k),
)

-- all of it, where it is asked for
module _ (explain : Bool) (name : List ℕ) (x : Verdict) where
  pub unasked-shown : (old : List ℕ) → explain ≡ false → Shows (cond explain (verdict_words name x) []) old old 0
  unasked-shown old e = shows-as (ap (λ (b : Bool). cond b (verdict_words name x) []) (sym e)) (shows-none old)

  pub asked-shown : {old mid new : List ℕ} {at r : ℕ} → explain ≡ true → 4608 ≤ length old → Stored old 0 (wait_words name x.accepted x.i x.state) mid at × (at ≤ 4352)
      → Stored mid at (end_words x.accepted x.j x.end) new r × (r ≤ at + 256) → Shows (cond explain (verdict_words name x) []) old new r
  asked-shown e h a b =
      shows-as (ap (λ (t : Bool). cond t (verdict_words name x) []) (sym e))
      (stored-shows {room = 4608} (stored-then (wait_words name x.accepted x.i x.state) (end_words x.accepted x.j x.end) a.0 b.0) (omega (arith, a.1, b.1)) h)

-- whatever was answered
module _ (explain : Bool) (answer : Result Judgement Refusal) (one two : File) {old new : List ℕ} {n : ℕ} where
  pub said-given : {a : Judgement} → answer ≡ Ok a → Shows (cond explain (verdict_words one.name (judged a)) []) old new n
      → Shows (said_of explain one two (says_of answer)) old new n
  said-given e s = shows-as (ap (λ (x : Result Judgement Refusal). said_of explain one two (says_of x)) (sym e)) s

  pub said-refused : {q : Refusal} {x : Bool} {m : ℕ} → answer ≡ Err q → x ≡ one.lined → m ≡ openings two.held
      → Shows (show_words_of (bytes "verdict") (record { name = one.name; held = one.held; lined = x }) two m q) old new n → Shows (said_of explain one two (says_of answer)) old new n
  said-refused {q} e d f s =
      shows-as
      ((λ i. show_words_of (bytes "verdict") (record { name = one.name; held = one.held; lined = d i }) two (f i) q) ∙ ap (λ (x : Result Judgement Refusal). said_of explain one two (says_of x)) (sym e)) s
