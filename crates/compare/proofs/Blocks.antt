-- The blocks of what the comparison prints, out of the texts that they are stored by. Assumes nothing.
use mathlib.Core.List.{List, ◌++◌}
use Prim.Native.Nat.{ℕ, ◌+◌, ◌≤◌, ◌<◌}
use native.Mathlib.Omega.{arith}
use lib.ListN.{length}
use Rattle.standing.specs.declared.Standing.{Standing}
use Rattle.inclusion.specs.declared.Comparison.{Comparison}
use Rattle.numbers.specs.Digits.{field}
use Rattle.numbers.specs.Storing.{Stored}
use Rattle.numbers.proofs.Stores.{stored-then}
use Rattle.lasso_text.specs.Text.{lasso_text_of}
use Rattle.console.specs.Printed.{Shows}
use Rattle.console.proofs.Printed.{field-few, stored-shows}
use Rattle.compare.specs.Text.{verdict_title, contained, missing, verdict_block, standing_title, standing_line, standing_block}

-- the first block, field by field
pub verdict-stored : {old o₁ o₂ o₃ o₄ new : List ℕ} {at p₁ p₂ p₃ p₄ r : ℕ} (verdict : List ℕ) (z : Comparison) → length verdict ≤ 10
    → z.reached < 18446744073709551616 → z.prefix < 18446744073709551616 → z.period < 18446744073709551616
    → Stored old at verdict_title o₁ p₁ → Stored o₁ p₁ verdict o₂ p₂ → Stored o₂ p₂ (field z.reached 32) o₃ p₃
    → Stored o₃ p₃ (field z.prefix 32) o₄ p₄ → Stored o₄ p₄ (field z.period 10) new r
    → Stored old at (verdict_block verdict z) new r × (r ≤ at + 102)
verdict-stored verdict z l h k m a b c d e = (
  (stored-then _ _ (stored-then _ _ (stored-then _ _ (stored-then _ _ a b) c) d) e),
  omega (arith, a.next, b.next, c.next, d.next, e.next, field-few z.reached 32 h, field-few z.prefix 32 k, field-few z.period 10 m),
)

-- the last block, line by line
pub line-stored : {old mid new : List ℕ} {at p r : ℕ} (x : Standing) → x.waits < 18446744073709551616 → x.ends < 18446744073709551616
    → Stored old at (field x.waits 32) mid p → Stored mid p (field x.ends 10) new r → Stored old at (standing_line x) new r × (r ≤ at + 42)
line-stored x h k a b = (stored-then _ _ a b, omega (arith, a.next, b.next, field-few x.waits 32 h, field-few x.ends 10 k))

pub standing-stored : {old o₁ o₂ new : List ℕ} {at p₁ p₂ r : ℕ} (z : Comparison) → Stored old at standing_title o₁ p₁ → Stored o₁ p₁ (standing_line z.first) o₂ p₂ × (p₂ ≤ p₁ + 42)
    → Stored o₂ p₂ (standing_line z.second) new r × (r ≤ p₂ + 42) → Stored old at (standing_block z) new r × (r ≤ at + 95)
standing-stored z a b c =
    ((stored-then _ _ (stored-then _ _ a b.0) c.0), omega (arith, a.next, b.1, c.1))

-- all of the text, where nothing is refused
pub absent-shown : {old mid new : List ℕ} {q r : ℕ} (z : Comparison) → 237776 ≤ length old
    → Stored old 0 (verdict_block contained z) mid q × (q ≤ 0 + 102) → Stored mid q (standing_block z) new r × (r ≤ q + 95) → Shows (verdict_block contained z ++ standing_block z) old new r
absent-shown z h a b =
    stored-shows {room = 237776} (stored-then (verdict_block contained z) (standing_block z) a.0 b.0) (omega (arith, a.1, b.1)) h

pub found-shown : {old o₁ o₂ new : List ℕ} {q₁ q₂ r : ℕ} (z : Comparison) (u v : List ℕ) → 237776 ≤ length old → length (lasso_text_of u v) ≤ 237579
    → Stored old 0 (verdict_block missing z) o₁ q₁ × (q₁ ≤ 0 + 102) → Stored o₁ q₁ (lasso_text_of u v) o₂ q₂ → Stored o₂ q₂ (standing_block z) new r × (r ≤ q₂ + 95)
    → Shows (verdict_block missing z ++ lasso_text_of u v ++ standing_block z) old new r
found-shown z u v h k a b c =
    let s = stored-then _ (standing_block z) (stored-then (verdict_block missing z) (lasso_text_of u v) a.0 b) c.0 in
    stored-shows {room = 237776} s (omega (arith, a.1, b.next, c.1)) h
