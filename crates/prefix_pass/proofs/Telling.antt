-- What is held, for a family of some states, and as far as a number goes: the pass goes on from it as from what it stands for. Assumes nothing.
use mathlib.Core.Path.{◌≡◌, refl, ap, sym, subst, ◌∙◌}
use mathlib.Core.Bool.{Bool, cond}
use mathlib.Core.List.{List, [], ◌∷◌}
use Prim.Native.Nat.{ℕ, ◌≤◌, ◌<◌}
use native.Mathlib.Omega.{arith}
use native.Mathlib.Nat.{add-zero}
use native.Mathlib.Decide.{dec_lt}
use lib.ListN.{length}
use borrow.Author.Tests.{lt-ltb, le-ltb}
use Rattle.slices.specs.Capped.{capped}
use Rattle.slices.proofs.Capped.{capped-sum}
use Rattle.fdfa.specs.Family.{Closed, walk}
use Rattle.fdfa.specs.Pass.{Pass, reached, unknown, pass_letter, pass_over}
use Rattle.fdfa.proofs.Pass.{Judged, known, stops, judged, pass-failed, pass-known, pass-unknown, letter-known, letter-unknown}
use Rattle.prefix_pass.specs.Parts.{held_in_value, told}
use Rattle.prefix_pass.specs.Steps.{Within}

capped-twice : (i : ℕ) → capped (capped i) ≡ capped i
capped-twice i = ap capped (sym (add-zero (capped i))) ∙ (capped-sum i 0 ∙ ap capped (add-zero i))

-- a pass from what is told is told as the pass itself
pub told-on : (s : ℕ) (f : ℕ → ℕ → ℕ) (p : Pass) (w : List ℕ) → told (pass_over s f (told p) w) ≡ told (pass_over s f p w)
told-on s f (unknown i) w =
    ap told (pass-failed s f (capped i) w) ∙ (ap unknown (capped-twice i) ∙ sym (ap told (pass-failed s f i w)))
told-on s f (reached q i) w = by (judged s w)
  where
    by : Judged s w → told (pass_over s f (reached q (capped i)) w) ≡ told (pass_over s f (reached q i) w)
    by (known o) =
        ap told (pass-known s f q (capped i) o)
        ∙ (ap (reached (walk f q w)) (capped-sum i (length w)) ∙ sym (ap told (pass-known s f q i o)))
    by (stops k u) =
        ap told (pass-unknown s f q (capped i) w k u)
        ∙ (ap unknown (capped-sum i k) ∙ sym (ap told (pass-unknown s f q i w k u)))

-- a state of the family stays, another counts as failed
pub held-within : (n : ℕ) (p : Pass) → Within n p → held_in_value n p ≡ p
held-within n (reached q i) h = ap (λ (b : Bool). cond b (reached q i) (unknown i)) (lt-ltb q n h)
held-within n (unknown i) h = refl

pub within_held : (n : ℕ) (p : Pass) → Within n (held_in_value n p)
within_held n (reached q i) = by (dec_lt q n)
  where
    by : Dec (q < n) → Within n (held_in_value n (reached q i))
    by (yes h) = subst (Within n) (sym (held-within n (reached q i) h)) h
    by (no h) =
        subst (λ (b : Bool). Within n (cond b (reached q i) (unknown i))) (sym (le-ltb q n (omega arith))) tt
within_held n (unknown i) = tt

pub within-told : (n : ℕ) (p : Pass) → Within n p → Within n (told p)
within-told n (reached q i) h = h
within-told n (unknown i) h = tt

pub within_more : {m n : ℕ} → m ≤ n → (p : Pass) → Within m p → Within n p
within_more l (reached q i) h = omega arith
within_more l (unknown i) h = tt

-- a pass stays among the states
module _ {s n : ℕ} {f : ℕ → ℕ → ℕ} (closed : Closed s n f) where
  letter-within : (p : Pass) (a : ℕ) → Within n p → Within n (pass_letter s f p a)
  letter-within (unknown i) a h = tt
  letter-within (reached q i) a h = by (dec_lt a s)
    where
      by : Dec (a < s) → Within n (pass_letter s f (reached q i) a)
      by (yes l) = subst (Within n) (sym (letter-known s f q i a l)) (closed q a h l)
      by (no l) = subst (Within n) (sym (letter-unknown s f q i a (omega arith))) tt

  pub pass-within : (p : Pass) (w : List ℕ) → Within n p → Within n (pass_over s f p w)
  pass-within p [] h = h
  pass-within p (a ∷ w) h = pass-within (pass_letter s f p a) w (letter-within p a h)
