-- Setting the status of the combinations of one leading state, row after row. Assumes nothing.
use mathlib.Core.Path.{◌≡◌, refl, ap, sym, ◌∙◌}
use mathlib.Core.Bool.{Bool, true, false, ◌&&◌}
use mathlib.Core.List.{List}
use Prim.Native.Nat.{ℕ, zero, suc, ◌+◌, ◌*◌, ◌-◌, ◌≤◌, ◌<◌}
use native.Mathlib.Omega.{arith}
use native.Mathlib.Decide.{dec_lt, ℕ_discrete}
use native.Mathlib.Nat.{mul-le-mul_right}
use lib.Arith.{digits_div, digits_mod, digits_lt}
use lib.Dec.{eqb}
use lib.ListN.{length, get_or, set, replicate, length-set, length-replicate}
use lib.Seq.{get_or-set_same, get_or-set_other}
use borrow.Author.Tests.{eq-eqb, ne_eqb}
use Rattle.slices.proofs.Tables.{row-after}
use Rattle.lasso_search.specs.Codes.{status_of_value, fresh_at, Fresh}

pub get_d_replicate : (m x i : ℕ) → i < m → get_or (replicate m x) i 0 ≡ x
get_d_replicate zero x i h = absurd (omega arith)
get_d_replicate (suc m) x zero h = refl
get_d_replicate (suc m) x (suc i) h = get_d_replicate m x i (omega arith)

-- the rows below y are set, and those from y on are as at the start
pub record Setting (status : List ℕ) (n q k : ℕ) (ends : ℕ → Bool) (y : ℕ) : Type 0 where
  pub long : length status ≡ k * n
  pub upto : y ≤ k
  pub done : (x : ℕ) → x < y * n → get_or status x 0 ≡ fresh_at n q ends x
  pub left : (x : ℕ) → y * n ≤ x → x < k * n → get_or status x 0 ≡ 1

pub setting-none : {status : List ℕ} {n q k : ℕ} {ends : ℕ → Bool} (m : ℕ) → status ≡ replicate m 1 → m ≡ k * n → Setting status n q k ends 0
setting-none m e l = record {
  long = ap length e ∙ (length-replicate {A = ℕ} m 1 ∙ l);
  upto = omega arith;
  done = λ x h. absurd (omega arith);
  left = λ x h i. ap (λ (z : List ℕ). get_or z x 0) e ∙ get_d_replicate m 1 x (omega arith);
}

module _ {status : List ℕ} {n q k : ℕ} {ends : ℕ → Bool} {y : ℕ} (M : Setting status n q k ends y) (h : y < k) (qn : q < n) where
  pub setting-in : y * n + q < length status
  setting-in = rw M.long (digits_lt h qn)

  pub setting-next : (y + 1) * n ≤ k * n
  setting-next = let l : y + 1 ≤ k = omega arith in mul-le-mul_right n l

  pub setting-more : {v : ℕ} → v ≡ status_of_value (ends y) → Setting (set status (y * n + q) v) n q k ends (y + 1)
  setting-more {v} e = record {
    long = length-set status (y * n + q) v ∙ M.long;
    upto = omega arith;
    done = λ x l. by x l (dec_lt x (y * n)) (ℕ_discrete x (y * n + q));
    left = λ x l i. get_or-set_other status (y * n + q) x v 0 (λ d. omega (arith, row-after y n)) ∙ M.left x (omega (arith, row-after y n)) i;
  }
    where
      at : (r : ℕ) → r < n → (b : Bool) → eqb r q ≡ b → fresh_at n q ends (y * n + r) ≡ status_of_value (b && ends y)
      at r l b d = λ i. status_of_value ((ap (λ (z : ℕ). eqb z q) (digits_mod y l) ∙ d) i && ends (digits_div y l i))

      by : (x : ℕ) → x < (y + 1) * n → Dec (x < y * n) → Dec (x ≡ y * n + q) → get_or (set status (y * n + q) v) x 0 ≡ fresh_at n q ends x
      by x l (yes d) z = get_or-set_other status (y * n + q) x v 0 (λ m. omega arith) ∙ M.done x d
      by x l (no d) (yes z) =
          rw z (get_or-set_same status (y * n + q) v 0 setting-in ∙ (e ∙ sym (at q qn true (eq-eqb q q refl))))
      by x l (no d) (no z) =
          let r : x ≡ y * n + (x - y * n) = omega arith in
          get_or-set_other status (y * n + q) x v 0 z
          ∙ (M.left x (omega arith) (omega (arith, setting-next))
          ∙ sym (ap (fresh_at n q ends) r ∙ at (x - y * n) (omega (arith, row-after y n)) false (ne_eqb (x - y * n) q (λ m. z (omega arith)))))

pub setting-all : {status : List ℕ} {n q k : ℕ} {ends : ℕ → Bool} {y : ℕ} → Setting status n q k ends y → k ≤ y → Fresh status n q k ends
setting-all {n = n} {k = k} {y = y} M h = record { long = M.long; each = λ x l. M.done x (omega (arith, ap (λ (z : ℕ). z * n) same)) }
  where
    same : y ≡ k
    same = omega (arith, M.upto)
