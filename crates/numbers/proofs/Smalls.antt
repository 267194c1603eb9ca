-- A number below 1,000 stored without a jump: a digit that is not needed is written over. Assumes nothing.
use mathlib.Core.Path.{◌≡◌, ap, sym, ◌∙◌}
use mathlib.Core.Bool.{Bool, cond}
use mathlib.Core.List.{List, [], ◌∷◌, ◌++◌}
use Prim.Native.Nat.{ℕ, ◌+◌, ◌/◌, ◌%◌, ◌≤◌, ◌<◌}
use native.Mathlib.Omega.{arith}
use native.Mathlib.Decide.{dec_lt}
use lib.Dec.{leb}
use lib.ListN.{length, set}
use lib.Seq.{sets, set-set, lt-length-set}
use borrow.Author.Tests.{le-leb, lt-leb}
use Rattle.numbers.specs.Digits.{digits_of, field}
use Rattle.numbers.specs.Storing.{Stored}
use Rattle.numbers.proofs.Digits.{digits-one, digits-two, digits-three, length-field}
use Rattle.numbers.proofs.Stores.{stored-byte, stored-then}

-- a digit that n has, and one that it has not
abbrev pub more : ℕ → ℕ → ℕ
more bound n = cond (leb bound n) 1 0

pub has : (bound n : ℕ) → bound ≤ n → more bound n ≡ 1
has bound n h = ap (λ (b : Bool). cond b 1 0) (le-leb bound n h)

pub has-not : (bound n : ℕ) → n < bound → more bound n ≡ 0
has-not bound n h = ap (λ (b : Bool). cond b 1 0) (lt-leb bound n h)

pub small_width : (n : ℕ) → n < 1000 → length (digits_of n) ≡ 1 + more 10 n + more 100 n
small_width n h = by (dec_lt n 10) (dec_lt n 100)
  where
    by : Dec (n < 10) → Dec (n < 100) → length (digits_of n) ≡ 1 + more 10 n + more 100 n
    by (yes a) b = omega (arith, ap length (digits-one n a), has-not 10 n a, has-not 100 n (omega arith))
    by (no a) (yes b) = omega (arith, ap length (digits-two n (omega arith) b), has 10 n (omega arith), has-not 100 n b)
    by (no a) (no b) = omega (arith, ap length (digits-three n (omega arith) h), has 10 n (omega arith), has 100 n (omega arith))

pub small-field : (n end : ℕ) → n < 1000 → length (field n end) ≡ 2 + more 10 n + more 100 n
small-field n end h = omega (arith, length-field n end, small_width n h)

-- two, three and four bytes, one after the other
module _ (old : List ℕ) (at a b : ℕ) where
  two : Stored old at (a ∷ b ∷ []) (set (set old at a) (at + 1) b) (at + 1 + 1)
  two = stored-then (a ∷ []) (b ∷ []) (stored-byte old at a) (stored-byte _ (at + 1) b)

  three : (c : ℕ) → Stored old at (a ∷ b ∷ c ∷ []) (set (set (set old at a) (at + 1) b) (at + 1 + 1) c) (at + 1 + 1 + 1)
  three c = stored-then (a ∷ b ∷ []) (c ∷ []) two (stored-byte _ (at + 1 + 1) c)

  four : (c d : ℕ) → Stored old at (a ∷ b ∷ c ∷ d ∷ []) (set (set (set (set old at a) (at + 1) b) (at + 1 + 1) c) (at + 1 + 1 + 1) d) (at + 1 + 1 + 1 + 1)
  four c d = stored-then (a ∷ b ∷ c ∷ []) (d ∷ []) (three c) (stored-byte _ (at + 1 + 1 + 1) d)

-- the four stores of the code
abbrev stores : List ℕ → ℕ → ℕ → ℕ → ℕ → ℕ → ℕ → ℕ → List ℕ
stores l at tens ones h t o end = set (set (set (set l at h) tens t) ones o) (ones + 1) end

module _ (old : List ℕ) (at n end : ℕ) {tens ones h t o : ℕ} (few : n < 1000) (e : tens ≡ at + more 100 n) (d : ones ≡ tens + more 10 n) (x : h ≡ 48 + n / 100) (y : t ≡ 48 + n / 10 % 10) (z : o ≡ 48 + n % 10) where
  cells : Dec (n < 10) → Dec (n < 100) → stores old at tens ones h t o end ≡ sets old at (field n end)
  cells (yes a) b =
      let p : tens ≡ at = omega (arith, e, has-not 100 n (omega arith)) in
      let q : ones ≡ at = omega (arith, d, has-not 10 n a) in
      let u : o ≡ 48 + n = omega (arith, z) in
      (λ i. stores old at (p i) (q i) h t (u i) end)
      ∙ (ap (λ (l : List ℕ). set l (at + 1) end) (set-set (set old at h) at t (48 + n) ∙ set-set old at h (48 + n))
      ∙ ((two old at (48 + n) end).cells ∙ ap (λ (l : List ℕ). sets old at (l ++ (end ∷ []))) (sym (digits-one n a))))
  cells (no a) (yes b) =
      let p : tens ≡ at = omega (arith, e, has-not 100 n b) in
      let q : ones ≡ at + 1 = omega (arith, d, has 10 n (omega arith)) in
      let u : t ≡ 48 + n / 10 = omega (arith, y) in
      (λ i. stores old at (p i) (q i) h (u i) (z i) end)
      ∙ (ap (λ (l : List ℕ). set (set l (at + 1) (48 + n % 10)) (at + 1 + 1) end) (set-set old at h (48 + n / 10))
      ∙ ((three old at (48 + n / 10) (48 + n % 10) end).cells ∙ ap (λ (l : List ℕ). sets old at (l ++ (end ∷ []))) (sym (digits-two n (omega arith) b))))
  cells (no a) (no b) =
      let p : tens ≡ at + 1 = omega (arith, e, has 100 n (omega arith)) in
      let q : ones ≡ at + 1 + 1 = omega (arith, d, has 10 n (omega arith)) in
      (λ i. stores old at (p i) (q i) (x i) (y i) (z i) end)
      ∙ ((four old at (48 + n / 100) (48 + n / 10 % 10) (48 + n % 10) end).cells ∙ ap (λ (l : List ℕ). sets old at (l ++ (end ∷ []))) (sym (digits-three n (omega arith) few)))

  pub small-stored : Stored old at (field n end) (stores old at tens ones h t o end) (ones + 2)
  small-stored = record { cells = cells (dec_lt n 10) (dec_lt n 100); next = omega (arith, small-field n end few, e, d) }

-- a place within the slice stays one
pub within-two : {i : ℕ} (l : List ℕ) (a x b y : ℕ) → i < length l → i < length (set (set l a x) b y)
within-two l a x b y h = lt-length-set (set l a x) b y (lt-length-set l a x h)

pub within-three : {i : ℕ} (l : List ℕ) (a x b y c z : ℕ) → i < length l → i < length (set (set (set l a x) b y) c z)
within-three l a x b y c z h = lt-length-set (set (set l a x) b y) c z (within-two l a x b y h)
