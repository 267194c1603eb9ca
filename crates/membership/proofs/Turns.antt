-- The turns of a period: by the leading table by letter of a valid sheet they are those of the family. Assumes nothing.
use mathlib.Core.Path.{◌≡◌, ap, sym, subst, ◌∙◌}
use mathlib.Core.List.{List}
use Prim.Native.Nat.{ℕ, ◌+◌, ◌<◌}
use native.Mathlib.Omega.{arith}
use Rattle.fdfa.specs.Words.{power}
use Rattle.fdfa.specs.Family.{Fdfa, walk, Lasso}
use Rattle.fdfa.specs.Normalization.{Smallest, after, preperiod, period_count}
use Rattle.fdfa.specs.Acceptance.{loop_state}
use Rattle.fdfa.proofs.Words.{power-add, over-power, walk-append, walk-closed}
use Rattle.fdfa.proofs.Returns.{Follows, smallest-unique}
use Rattle.fdfa.proofs.Normal.{inside, normal}
use Rattle.packed.specs.Layout.{letter_count, state_count, leading_at, decode, Valid}
use Rattle.packed.specs.Columns.{columns_of}
use Rattle.packed.proofs.Reading.{lead-walks}
use Rattle.packed.proofs.Soundness.{valid-packable}
use Rattle.membership.specs.declared.Normalization.{Normalization}
use Rattle.membership.specs.Steps.{turns_from, Turning, Returns}

-- equal states have equal successors, however many turns on
pub turns-follow : (f : ℕ → ℕ → ℕ) (q : ℕ) (v : List ℕ) → Follows (λ k. walk f q (power v k))
turns-follow f q v a b k e = on a ∙ (ap (λ (p : ℕ). walk f p (power v k)) e ∙ sym (on b))
  where
    on : (a : ℕ) → walk f q (power v (a + k)) ≡ walk f (walk f q (power v a)) (power v k)
    on a = ap (walk f q) (power-add v a k) ∙ walk-append f q (power v a) (power v k)

module _ (b u v : List ℕ) (valid : Valid b) (lasso : Lasso (letter_count b) u v) {t : List ℕ} (is : t ≡ columns_of b (leading_at b) (letter_count b) (state_count b)) {q : ℕ}
    (here : q ≡ walk (decode b).step 0 u) where
  abbrev F : Fdfa
  F = decode b

  below : q < state_count b
  below =
      let h : walk F.step 0 u < state_count b = walk-closed valid.leads valid.header.some_states lasso.prefix in
      omega (arith, here)

  same : (k : ℕ) → turns_from t q v k ≡ after F u v k
  same k =
      (lead-walks b valid is below (over-power k lasso.period)).1
      ∙ (ap (λ (p : ℕ). walk F.step p (power v k)) here ∙ sym (walk-append F.step 0 u (power v k)))

  few : (k : ℕ) → turns_from t q v k < state_count b
  few k = omega (arith, same k, inside F (valid-packable b valid).complete u v lasso k)

  pub turning : Turning t q v
  turning = record {
    inside = λ k. omega (arith, few k, valid.header.few_states);
    walks = λ k. (lead-walks b valid is (few k) lasso.period).0;
  }

  -- where they first return is the lasso's normalization
  pub normalizes : {n : Normalization} → Returns (turns_from t q v) n → (n.i ≡ preperiod F u v) × (n.j ≡ period_count F u v) × (n.state ≡ loop_state F u v)
  normalizes {n} r =
      let s = smallest-unique (after F u v) (subst (λ (g : ℕ → ℕ). Smallest g n.i n.j) (λ i k. same k i) r.smallest) (normal F (valid-packable b valid).complete u v lasso) in
      (s.0, s.1, r.stands ∙ (same n.i ∙ ap (after F u v) s.0))
