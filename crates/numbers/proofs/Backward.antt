-- The digits of a number stored: those of a small one forwards, those of any from the last to the first. Assumes nothing.
use mathlib.Core.Path.{◌≡◌, refl, ap, sym, ◌∙◌}
use mathlib.Core.List.{List, [], ◌∷◌, ◌++◌, append-nil}
use Prim.Native.Nat.{ℕ, suc, ◌+◌, ◌-◌, ◌/◌, ◌%◌, ◌≤◌, ◌<◌}
use native.Mathlib.Omega.{arith}
use native.Mathlib.Decide.{dec_lt}
use lib.ListN.{length, set}
use lib.Seq.{sets, set_comm, append_snoc, length-sets}
use Rattle.numbers.specs.Digits.{digits_of, field}
use Rattle.numbers.specs.Storing.{Stored}
use Rattle.numbers.proofs.Digits.{digits-one, digits-two, digits_last, length-one, length_last, digits-some}
use Rattle.numbers.proofs.Stores.{stored-then, stored-as}

-- a store before a run of stores may come first
sets-swap : (x l : List ℕ) (p q c : ℕ) → p < q → set (sets l q x) p c ≡ sets (set l p c) q x
sets-swap [] l p q c h = refl
sets-swap (a ∷ x) l p q c h =
    sets-swap x (set l q a) p (suc q) c (omega arith) ∙ ap (λ (m : List ℕ). sets m (suc q) x) (set_comm l q p a c (λ e. omega arith))

-- a number with one digit; with more
pub is-small : (n : ℕ) → length (digits_of n) ≤ 1 → n < 10
is-small n h = by (dec_lt n 10)
  where
    by : Dec (n < 10) → n < 10
    by (yes s) = s
    by (no s) = absurd (omega (arith, length_last n (omega arith), digits-some (n / 10)))

pub is-large : (n : ℕ) → 1 < length (digits_of n) → 10 ≤ n
is-large n h = by (dec_lt n 10)
  where
    by : Dec (n < 10) → 10 ≤ n
    by (yes s) = absurd (omega (arith, length-one n s))
    by (no s) = omega arith

-- The digits of n behind the first i are stored; the first i are those of `rest`.
pub record Behind (n : ℕ) (old : List ℕ) (at i rest : ℕ) (out : List ℕ) : Type 0 where
  pub tail : List ℕ
  pub digits : digits_of n ≡ digits_of rest ++ tail
  pub long : i ≡ length (digits_of rest)
  pub cells : out ≡ sets old (at + i) tail

pub behind-none : (n : ℕ) (old : List ℕ) (at i : ℕ) → i ≡ length (digits_of n) → Behind n old at i n old
behind-none n old at i e = record { tail = []; digits = sym (append-nil (digits_of n)); long = e; cells = refl }

pub behind-length : {n : ℕ} {old out : List ℕ} {at i rest : ℕ} → Behind n old at i rest out → length out ≡ length old
behind-length {n} {old} {out} {at} {i} b = ap length b.cells ∙ length-sets old (at + i) b.tail

module _ {n : ℕ} {old out new : List ℕ} {at i rest r c : ℕ} (b : Behind n old at i rest out) where
  -- one digit more, before them
  pub behind_more : 1 < i → c ≡ 48 + rest % 10 → Stored out (at + (i - 1)) (c ∷ []) new r → Behind n old at (i - 1) (rest / 10) new
  behind_more h e s =
      let big : 10 ≤ rest = is-large rest (omega (arith, b.long)) in
      let z : at + i ≡ suc (at + (i - 1)) = omega arith in
      record {
        tail = c ∷ b.tail;
        digits = b.digits ∙ (ap (λ (l : List ℕ). l ++ b.tail) (digits_last rest big) ∙ (append_snoc (digits_of (rest / 10)) (48 + rest % 10) b.tail ∙ ap (λ (d : ℕ). digits_of (rest / 10) ++ d ∷ b.tail) (sym e)));
        long = omega (arith, b.long, length_last rest big);
        cells = s.cells ∙ (ap (λ (l : List ℕ). set l (at + (i - 1)) c) b.cells ∙ (sets-swap b.tail old (at + (i - 1)) (at + i) c (omega arith) ∙ ap (λ (k : ℕ). sets (set old (at + (i - 1)) c) k b.tail) z));
      }

  -- the first digit, before all others
  pub behind-all : i ≤ 1 → {w : ℕ} → w ≡ length (digits_of n) → c ≡ 48 + rest → Stored out at (c ∷ []) new r → Stored old at (digits_of n) new (at + w)
  behind-all h {w} m e s =
      let small : rest < 10 = is-small rest (omega (arith, b.long)) in
      let z : at + i ≡ suc at = omega (arith, b.long, digits-some rest) in
      let d : digits_of n ≡ c ∷ b.tail = b.digits ∙ (ap (λ (l : List ℕ). l ++ b.tail) (digits-one rest small) ∙ ap (λ (k : ℕ). k ∷ b.tail) (sym e)) in
      record {
        cells = s.cells ∙ (ap (λ (l : List ℕ). set l at c) b.cells ∙ (sets-swap b.tail old at (at + i) c (omega arith) ∙ (ap (λ (k : ℕ). sets (set old at c) k b.tail) z ∙ ap (sets old at) (sym d))));
        next = ap (λ (k : ℕ). at + k) m;
      }

-- a field, digit by digit
pub field-one : {old mid new : List ℕ} {at p r : ℕ} (v e d : ℕ) → v < 10 → d ≡ 48 + v → Stored old at (d ∷ []) mid p → Stored mid p (e ∷ []) new r → Stored old at (field v e) new r
field-one v e d h x s t =
    stored-as (ap (λ (l : List ℕ). l ++ (e ∷ [])) ((λ i. x i ∷ []) ∙ sym (digits-one v h))) (stored-then (d ∷ []) (e ∷ []) s t)

pub field-two : {old one two new : List ℕ} {at p q r : ℕ} (v e d f : ℕ) → 10 ≤ v → v < 100 → d ≡ 48 + v / 10 → f ≡ 48 + v % 10
    → Stored old at (d ∷ []) one p → Stored one p (f ∷ []) two q → Stored two q (e ∷ []) new r → Stored old at (field v e) new r
field-two v e d f l h x y s t u =
    stored-as (ap (λ (z : List ℕ). z ++ (e ∷ [])) ((λ i. x i ∷ y i ∷ []) ∙ sym (digits-two v l h)))
    (stored-then (d ∷ f ∷ []) (e ∷ []) (stored-then (d ∷ []) (f ∷ []) s t) u)
