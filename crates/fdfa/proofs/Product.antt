-- The product of two families: it is complete, and its verdict is both, or either, for every lasso that is normalized in
-- both, and for every lasso if both families are turn_proof (002, Theorem 4.3). Said once, over the operation. Assumes nothing.
use mathlib.Core.Path.{◌≡◌, refl, ap, ap₂, sym, ◌∙◌}
use mathlib.Core.Bool.{Bool, ◌&&◌, ◌||◌}
use mathlib.Core.List.{List, ◌++◌}
use Prim.Native.Nat.{ℕ, ◌+◌, ◌*◌, ◌/◌, ◌%◌, ◌<◌}
use native.Mathlib.Omega.{arith}
use native.Mathlib.Nat.{zero-mul, mul-pos, mod-lt, div-lt_iff_lt-mul}
use lib.Arith.{digits_lt, digits_div, digits_mod}
use Rattle.fdfa.specs.Words.{Over, done, below, power}
use Rattle.fdfa.specs.Family.{Fdfa, Closed, Complete, walk, Lasso}
use Rattle.fdfa.specs.Normalization.{preperiod, period_count, Normalized}
use Rattle.fdfa.specs.Acceptance.{accepts}
use Rattle.fdfa.specs.Boolean.{beside, product, intersection, union}
use Rattle.fdfa.specs.Invariance.{TurnProof}
use Rattle.fdfa.proofs.Words.{walk-closed}
use Rattle.fdfa.proofs.Normal.{normal, back-normalized, normalized-back, normalized-accepts, Normalization, normalization}

-- a pair is a number below the product, and its parts are below the factors
pub left_below : {x n k : ℕ} → 0 < k → x < n * k → x / k < n
left_below p h = (div-lt_iff_lt-mul p).1 h

-- a pair's number shows both parts
pub pair_parts : (x x' : ℕ) {y y' k : ℕ} → y < k → y' < k → x * k + y ≡ x' * k + y' → (x ≡ x') × (y ≡ y')
pair_parts x x' {k = k} h h' e =
    (sym (digits_div x h) ∙ (ap (λ (z : ℕ). z / k) e ∙ digits_div x' h'), sym (digits_mod x h) ∙ (ap (λ (z : ℕ). z % k) e ∙ digits_mod x' h'))

pub beside-closed : {s n k : ℕ} {f g : ℕ → ℕ → ℕ} → 0 < k → Closed s n f → Closed s k g → Closed s (n * k) (beside k f g)
beside-closed {k = k} p c d x a h l = digits_lt (c (x / k) a (left_below p h) l) (d (x % k) a (mod-lt x p) l)

-- side by side, each automaton walks by itself
pub beside-walk : {s k : ℕ} (f g : ℕ → ℕ → ℕ) → Closed s k g → (x y : ℕ) → y < k → {w : List ℕ} → Over s w
    → walk (beside k f g) (x * k + y) w ≡ walk f x w * k + walk g y w
beside-walk f g d x y h done = refl
beside-walk {k = k} f g d x y h (below {a = a} {w = w} l o) =
    ap (λ (z : ℕ). walk (beside k f g) z w)
    (ap₂ (λ (p q : ℕ). f p a * k + g q a) (digits_div x h) (digits_mod x h))
    ∙ beside-walk f g d (f x a) (g y a) (d y a h l) o

pub beside-start : {s k : ℕ} (f g : ℕ → ℕ → ℕ) → 0 < k → Closed s k g → {w : List ℕ} → Over s w
    → walk (beside k f g) 0 w ≡ walk f 0 w * k + walk g 0 w
beside-start {k = k} f g p d {w} o =
    ap (λ (z : ℕ). walk (beside k f g) z w) (omega (arith, zero-mul k)) ∙ beside-walk f g d 0 0 p o

module _ (op : Bool → Bool → Bool) (F G : Fdfa) (alike : F.letters ≡ G.letters) (CF : Complete F) (CG : Complete G) where
  abbrev P : Fdfa
  P = product op F G

  right-below : (x : ℕ) → x % G.states < G.states
  right-below x = mod-lt x CG.start

  G-leads : Closed F.letters G.states G.step
  G-leads = rw alike CG.leads

  G-progresses : (q : ℕ) → q < G.states → Closed F.letters (G.size q) (G.progress q)
  G-progresses = rw alike CG.progresses

  pub product-complete : Complete P
  product-complete = record {
    start = mul-pos CF.start CG.start;
    leads = beside-closed CG.start CF.leads G-leads;
    starts = λ x h. mul-pos (CF.starts (x / G.states) (left_below CG.start h)) (CG.starts (x % G.states) (right-below x));
    progresses = λ x h. beside-closed (CG.starts (x % G.states) (right-below x))
        (CF.progresses (x / G.states) (left_below CG.start h)) (G-progresses (x % G.states) (right-below x));
  }

  module _ (u v : List ℕ) (lasso : Lasso F.letters u v) where
    G-lasso : Lasso G.letters u v
    G-lasso = rw (← alike) lasso

    p : ℕ
    p = walk F.step 0 u

    q : ℕ
    q = walk G.step 0 u

    q-below : q < G.states
    unfolding q
    q-below = walk-closed G-leads CG.start lasso.prefix

    -- the pair that u leads to, and where v leads it
    pair-after : walk P.step 0 u ≡ p * G.states + q
    unfolding p q
    pair-after = beside-start F.step G.step CG.start G-leads lasso.prefix

    pair-turned : walk P.step (walk P.step 0 u) v ≡ walk F.step p v * G.states + walk G.step q v
    pair-turned =
        ap (λ (z : ℕ). walk P.step z v) pair-after ∙ beside-walk F.step G.step G-leads p q q-below lasso.period

    q-turned : walk G.step q v < G.states
    q-turned = walk-closed G-leads q-below lasso.period

    -- normalized in the product exactly if in both
    pub product-parts : Normalized P u v → Normalized F u v × Normalized G u v
    unfolding p q
    product-parts c = (back-normalized F CF u v lasso e.0, back-normalized G CG u v G-lasso e.1)
      where
        e : (walk F.step p v ≡ p) × (walk G.step q v ≡ q)
        e = pair_parts (walk F.step p v) p q-turned q-below
            (sym pair-turned ∙ (normalized-back P product-complete u v lasso c ∙ pair-after))

    pub product-normalized : Normalized F u v → Normalized G u v → Normalized P u v
    unfolding p q
    product-normalized c d =
        back-normalized P product-complete u v lasso
        (pair-turned ∙ (ap₂ (λ (x y : ℕ). x * G.states + y) (normalized-back F CF u v lasso c) (normalized-back G CG u v G-lasso d) ∙ sym pair-after))

    -- the verdict of the product, of a lasso that is normalized in both
    pub product-closing : Normalized F u v → Normalized G u v → accepts P u v ≡ op (accepts F u v) (accepts G u v)
    unfolding p q
    product-closing c d =
        normalized-accepts P u v (product-normalized c d)
        ∙ (ap (λ (x : ℕ). P.accepting x (walk (P.progress x) 0 v)) pair-after
        ∙ (parts ∙ ap₂ op (sym (normalized-accepts F u v c)) (sym (normalized-accepts G u v d))))
      where
        k : ℕ
        k = G.size q

        at : (r t : ℕ) → Bool
        at r t = op (F.accepting r (walk (beside (G.size t) (F.progress r) (G.progress t)) 0 v / G.size t))
            (G.accepting t (walk (beside (G.size t) (F.progress r) (G.progress t)) 0 v % G.size t))

        end : walk (beside k (F.progress p) (G.progress q)) 0 v ≡ walk (F.progress p) 0 v * k + walk (G.progress q) 0 v
        end = beside-start (F.progress p) (G.progress q) (CG.starts q q-below) (G-progresses q q-below) lasso.period

        end_below : walk (G.progress q) 0 v < k
        end_below = walk-closed (G-progresses q q-below) (CG.starts q q-below) lasso.period

        parts : P.accepting (p * G.states + q) (walk (P.progress (p * G.states + q)) 0 v)
            ≡ op (F.accepting p (walk (F.progress p) 0 v)) (G.accepting q (walk (G.progress q) 0 v))
        parts =
            ap₂ at (digits_div p q-below) (digits_mod p q-below)
            ∙ (ap (λ (z : ℕ). op (F.accepting p (z / k)) (G.accepting q (z % k))) end
            ∙ ap₂ (λ (y z : ℕ). op (F.accepting p y) (G.accepting q z)) (digits_div (walk (F.progress p) 0 v) end_below) (digits_mod (walk (F.progress p) 0 v) end_below))

  -- the verdict of the product, of every lasso, where further turns leave both verdicts alone
  pub product-of-turn-proof : TurnProof F → TurnProof G → (u v : List ℕ) → Lasso F.letters u v → accepts P u v ≡ op (accepts F u v) (accepts G u v)
  product-of-turn-proof tf tg u v lasso =
      sym n.agrees
      ∙ (product-closing x y n.lasso c.0 c.1
      ∙ ap₂ op (tf u v lasso (preperiod P u v) (period_count P u v) some) (tg u v (rw (← alike) lasso) (preperiod P u v) (period_count P u v) some))
    where
      x : List ℕ
      x = u ++ power v (preperiod P u v)

      y : List ℕ
      y = power v (period_count P u v)

      n : Normalization P u v x y
      n = normalization P product-complete u v lasso

      c : Normalized F x y × Normalized G x y
      c = product-parts x y n.lasso n.closes

      some : 0 < period_count P u v
      some = (normal P product-complete u v lasso).positive

-- The same by name: intersection and union.
module _ (F G : Fdfa) (alike : F.letters ≡ G.letters) (CF : Complete F) (CG : Complete G) (u v : List ℕ) (lasso : Lasso F.letters u v) where
  pub intersection-closing : Normalized F u v → Normalized G u v → accepts (intersection F G) u v ≡ accepts F u v && accepts G u v
  intersection-closing = product-closing ◌&&◌ F G alike CF CG u v lasso

  pub union-closing : Normalized F u v → Normalized G u v → accepts (union F G) u v ≡ accepts F u v || accepts G u v
  union-closing = product-closing ◌||◌ F G alike CF CG u v lasso

  pub intersection-of-turn-proof : TurnProof F → TurnProof G → accepts (intersection F G) u v ≡ accepts F u v && accepts G u v
  intersection-of-turn-proof tf tg = product-of-turn-proof ◌&&◌ F G alike CF CG tf tg u v lasso

  pub union-of-turn-proof : TurnProof F → TurnProof G → accepts (union F G) u v ≡ accepts F u v || accepts G u v
  union-of-turn-proof tf tg = product-of-turn-proof ◌||◌ F G alike CF CG tf tg u v lasso
