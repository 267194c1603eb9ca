-- The pass over a prefix: however the word is cut, it comes to the same; it gives the state after the word exactly when every letter is
-- known, else the position of the first unknown letter. Assumes nothing.
use mathlib.Core.Path.{◌≡◌, refl, ap, sym, subst, ◌∙◌}
use mathlib.Core.Bool.{Bool, cond}
use mathlib.Core.List.{List, [], ◌∷◌, ◌++◌}
use Prim.Native.Nat.{ℕ, zero, suc, ◌+◌, ◌≤◌, ◌<◌}
use native.Mathlib.Omega.{arith}
use native.Mathlib.Numerals.{add-one}
use native.Mathlib.Decide.{dec_lt}
use lib.ListN.{length, get_or, take, drop, take-append-drop}
use lib.Seq.{take-suc}
use borrow.Author.Tests.{lt-ltb, le-ltb}
use Rattle.fdfa.specs.Words.{Over, done, below}
use Rattle.fdfa.specs.Family.{Closed, walk}
use Rattle.fdfa.specs.Pass.{Pass, reached, unknown, pass_letter, pass_over, pass_parts, joined, FirstUnknown}

module _ (s : ℕ) (f : ℕ → ℕ → ℕ) where
  -- going on over w after u is going over u and w
  pub pass-append : (p : Pass) (u w : List ℕ) → pass_over s f p (u ++ w) ≡ pass_over s f (pass_over s f p u) w
  pass-append p [] w = refl
  pass-append p (a ∷ u) w = pass-append (pass_letter s f p a) u w

  -- so every way of cutting the word comes to the same
  pub pass-parts : (p : Pass) (ws : List (List ℕ)) → pass_parts s f p ws ≡ pass_over s f p (joined ws)
  pass-parts p [] = refl
  pass-parts p (w ∷ ws) = pass-parts (pass_over s f p w) ws ∙ sym (pass-append p w (joined ws))

  -- a pass that has failed stays so
  pub pass-failed : (i : ℕ) (w : List ℕ) → pass_over s f (unknown i) w ≡ unknown i
  pass-failed i [] = refl
  pass-failed i (a ∷ w) = pass-failed i w

  -- one letter: known, or not
  pub letter-known : (q i a : ℕ) → a < s → pass_letter s f (reached q i) a ≡ reached (f q a) (i + 1)
  letter-known q i a h = ap (λ (b : Bool). cond b (reached (f q a) (i + 1)) (unknown i)) (lt-ltb a s h)

  pub letter-unknown : (q i a : ℕ) → s ≤ a → pass_letter s f (reached q i) a ≡ unknown i
  letter-unknown q i a h = ap (λ (b : Bool). cond b (reached (f q a) (i + 1)) (unknown i)) (le-ltb a s h)

  -- one letter more of a word
  pass-next : (p : Pass) (w : List ℕ) (i : ℕ) → i < length w → pass_over s f p (take (i + 1) w) ≡ pass_letter s f (pass_over s f p (take i w)) (get_or w i 0)
  pass-next p w i h =
      ap (λ (n : ℕ). pass_over s f p (take n w)) (add-one i)
      ∙ (ap (pass_over s f p) (take-suc w i 0 h) ∙ pass-append p (take i w) (get_or w i 0 ∷ []))

  -- after i letters that are known, one letter further; an unknown one ends the pass
  module _ (p : Pass) (w : List ℕ) {q n i a : ℕ} (here : pass_over s f p (take i w) ≡ reached q n) (h : i < length w) (is : a ≡ get_or w i 0) where
    next : pass_over s f p (take (i + 1) w) ≡ pass_letter s f (reached q n) a
    next = pass-next p w i h ∙ (λ k. pass_letter s f (here k) (sym is k))

    pub pass-further : a < s → pass_over s f p (take (i + 1) w) ≡ reached (f q a) (n + 1)
    pass-further l = next ∙ letter-known q n a l

    pub pass-ends : s ≤ a → pass_over s f p w ≡ unknown n
    pass-ends l =
        ap (pass_over s f p) (sym (take-append-drop (i + 1) w))
        ∙ (pass-append p (take (i + 1) w) (drop (i + 1) w)
        ∙ (ap (λ (x : Pass). pass_over s f x (drop (i + 1) w)) (next ∙ letter-unknown q n a l) ∙ pass-failed n (drop (i + 1) w)))

  -- every letter known
  pub pass-known : (q i : ℕ) {w : List ℕ} → Over s w → pass_over s f (reached q i) w ≡ reached (walk f q w) (i + length w)
  pass-known q i done = ap (reached q) (omega arith)
  pass-known q i (below {a = a} {w = w} h o) =
      ap (λ (p : Pass). pass_over s f p w) (letter-known q i a h)
      ∙ (pass-known (f q a) (i + 1) o ∙ ap (reached (walk f (f q a) w)) (omega arith))

  -- a first unknown letter
  pub pass-unknown : (q i : ℕ) (w : List ℕ) (k : ℕ) → FirstUnknown s w k → pass_over s f (reached q i) w ≡ unknown (i + k)
  pass-unknown q i [] k u = absurd (omega (arith, u.within))
  pass-unknown q i (a ∷ w) zero u =
      ap (λ (p : Pass). pass_over s f p w) (letter-unknown q i a u.here) ∙ (pass-failed i w ∙ ap unknown (omega arith))
  pass-unknown q i (a ∷ w) (suc k) u = by u.before (pass-unknown (f q a) (i + 1) w k)
    where
      by : Over s (a ∷ take k w) → (FirstUnknown s w k → pass_over s f (reached (f q a) (i + 1)) w ≡ unknown (i + 1 + k)) → pass_over s f (reached q i) (a ∷ w) ≡ unknown (i + suc k)
      by (below h o) rest =
          ap (λ (p : Pass). pass_over s f p w) (letter-known q i a h)
          ∙ (rest (record { within = omega (arith, u.within); before = o; here = u.here }) ∙ ap unknown (omega arith))

-- a word has only known letters, or a first unknown one
pub data Judged (s : ℕ) (w : List ℕ) : Type 0 where
  known : Over s w → Judged s w
  stops : (k : ℕ) → FirstUnknown s w k → Judged s w

pub judged : (s : ℕ) (w : List ℕ) → Judged s w
judged s [] = known done
judged s (a ∷ w) = by (dec_lt a s) (judged s w)
  where
    by : Dec (a < s) → Judged s w → Judged s (a ∷ w)
    by (no h) j = stops 0 (record { within = omega arith; before = done; here = omega arith })
    by (yes h) (known o) = known (below h o)
    by (yes h) (stops k u) = stops (suc k) (record { within = omega (arith, u.within); before = below h u.before; here = u.here })

-- equal values have equal parts, and a state is no position
pub reached-was : {q i r j : ℕ} → reached q i ≡ reached r j → (q ≡ r) × (i ≡ j)
reached-was e = (cc, cc)

pub unknown-was : {i j : ℕ} → unknown i ≡ unknown j → i ≡ j
unknown-was e = cc

pub never-reached : {q i j : ℕ} → unknown j ≡ reached q i → ⊥
never-reached e = subst Fails e tt
  where
    Fails : Pass → Type 0
    Fails (reached q i) = ⊥
    Fails (unknown i) = Unit {0}

-- nothing else leads to a state, or to a position
module _ (s : ℕ) (f : ℕ → ℕ → ℕ) (q i : ℕ) (w : List ℕ) where
  pub known-pass : {r j : ℕ} → pass_over s f (reached q i) w ≡ reached r j → Over s w × (r ≡ walk f q w) × (j ≡ i + length w)
  known-pass {r} {j} e = by (judged s w)
    where
      by : Judged s w → Over s w × (r ≡ walk f q w) × (j ≡ i + length w)
      by (known o) = let d = reached-was (sym e ∙ pass-known s f q i o) in (o, d.0, d.1)
      by (stops k u) = absurd (never-reached (sym (pass-unknown s f q i w k u) ∙ e))

  pub unknown-pass : {j : ℕ} → pass_over s f (reached q i) w ≡ unknown j → (k : ℕ) × FirstUnknown s w k × (j ≡ i + k)
  unknown-pass {j} e = by (judged s w)
    where
      by : Judged s w → (k : ℕ) × FirstUnknown s w k × (j ≡ i + k)
      by (known o) = absurd (never-reached (sym e ∙ pass-known s f q i o))
      by (stops k u) = (k, u, unknown-was (sym e ∙ pass-unknown s f q i w k u))

-- automata that agree on n states and s letters, of which one stays among its states, are passed over alike
module _ {s n : ℕ} {f g : ℕ → ℕ → ℕ} (closed : Closed s n f) (same : (q a : ℕ) → q < n → a < s → f q a ≡ g q a) where
  pub pass_same : (q i : ℕ) → q < n → (w : List ℕ) → pass_over s f (reached q i) w ≡ pass_over s g (reached q i) w
  pass_same q i h [] = refl
  pass_same q i h (a ∷ w) = by (dec_lt a s) (λ l. pass_same (f q a) (i + 1) (closed q a h l) w)
    where
      by : Dec (a < s) → (a < s → pass_over s f (reached (f q a) (i + 1)) w ≡ pass_over s g (reached (f q a) (i + 1)) w) → pass_over s f (reached q i) (a ∷ w) ≡ pass_over s g (reached q i) (a ∷ w)
      by (yes l) rest =
          ap (λ (p : Pass). pass_over s f p w) (letter-known s f q i a l)
          ∙ (rest l
          ∙ (ap (λ (r : ℕ). pass_over s g (reached r (i + 1)) w) (same q a h l)
          ∙ sym (ap (λ (p : Pass). pass_over s g p w) (letter-known s g q i a l))))
      by (no l) rest =
          ap (λ (p : Pass). pass_over s f p w) (letter-unknown s f q i a (omega arith))
          ∙ (pass-failed s f i w
          ∙ sym (ap (λ (p : Pass). pass_over s g p w) (letter-unknown s g q i a (omega arith)) ∙ pass-failed s g i w))
