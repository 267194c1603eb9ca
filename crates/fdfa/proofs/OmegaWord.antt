-- The letters of the infinite word of a lasso: those of the prefix, then those of the period over and over. Assumes nothing.
use mathlib.Core.Path.{◌≡◌, ap, sym, ◌∙◌}
use mathlib.Core.List.{List, ◌++◌}
use Prim.Native.Nat.{ℕ, zero, suc, ◌+◌, ◌*◌, ◌-◌, ◌%◌, ◌≤◌, ◌<◌}
use native.Mathlib.Omega.{arith}
use native.Mathlib.Decide.{dec_lt}
use native.Mathlib.Nat.{add_assoc, add_comm, suc-mul, mod-eq_of_lt, mod-eq-sub-mod, le-mul_of_pos_right, mul-add-mod_self_right}
use lib.ListN.{length, get_or, length-append, get_or-append}
use lib.Seq.{get_or-append-add, ext_get_or}
use Rattle.slices.specs.Tables.{tab}
use Rattle.slices.proofs.Tables.{length-tab, get_or-tab}
use Rattle.fdfa.specs.Words.{power}
use Rattle.fdfa.specs.Family.{Lasso}
use Rattle.fdfa.specs.OmegaWord.{letter_at}
use Rattle.fdfa.proofs.Words.{over-append, over-power, over-letter, length-power, power-on, power-power}
use Rattle.fdfa.proofs.Letters.{some_letters}

pub prefix-letter : (u v : List ℕ) (m : ℕ) → m < length u → letter_at u v m ≡ get_or u m 0
unfolding letter_at
prefix-letter u v m h = get_or-append u (power v (suc m)) 0 m h

-- a letter of c turns
power-letter : (v : List ℕ) (c m : ℕ) → m < c * length v → get_or (power v c) m 0 ≡ get_or v (m % length v) 0
power-letter v zero m h = absurd (omega arith)
power-letter v (suc c) m h = by (dec_lt m (length v)) (power-letter v c (m - length v))
  where
    by : Dec (m < length v) → (m - length v < c * length v → get_or (power v c) (m - length v) 0 ≡ get_or v ((m - length v) % length v) 0) → get_or (v ++ power v c) m 0 ≡ get_or v (m % length v) 0
    by (yes l) ih = get_or-append v (power v c) 0 m l ∙ ap (λ (i : ℕ). get_or v i 0) (sym (mod-eq_of_lt l))
    by (no l) ih =
        let e : length v + (m - length v) ≡ m = omega arith in
        let big : length v ≤ m = omega arith in
        ap (λ (i : ℕ). get_or (v ++ power v c) i 0) (sym e)
        ∙ (get_or-append-add v (power v c) (m - length v) 0
        ∙ (ih (omega (arith, suc-mul c (length v))) ∙ ap (λ (i : ℕ). get_or v i 0) (sym (mod-eq-sub-mod big))))

pub period-letter : (u v : List ℕ) (m : ℕ) → 0 < length v → letter_at u v (length u + m) ≡ get_or v (m % length v) 0
unfolding letter_at
period-letter u v m h =
    get_or-append-add u (power v (suc (length u + m))) m 0
    ∙ power-letter v (suc (length u + m)) m (omega (arith, le-mul_of_pos_right (suc (length u + m)) h))

-- a letter of u and c turns, where they reach it, however many they are
word-letter : (u v : List ℕ) (c m : ℕ) → 0 < length v → m < length u + c * length v → get_or (u ++ power v c) m 0 ≡ letter_at u v m
unfolding letter_at
word-letter u v c m h l =
    sym (more c (suc m) l)
    ∙ (ap (λ (k : ℕ). get_or (u ++ power v k) m 0) (add_comm c (suc m))
    ∙ more (suc m) c (omega (arith, le-mul_of_pos_right (suc m) h)))
  where
    more : (a b : ℕ) → m < length u + a * length v → get_or (u ++ power v (a + b)) m 0 ≡ get_or (u ++ power v a) m 0
    more a b k =
        ap (λ (x : List ℕ). get_or x m 0) (sym (power-on u v a b))
        ∙ get_or-append (u ++ power v a) (power v b) 0 m (omega (arith, length-append u (power v a), length-power v a))

-- further turns leave the infinite word alone
pub turned-letter : (u v : List ℕ) (a b m : ℕ) → 0 < length v → 0 < b → letter_at (u ++ power v a) (power v b) m ≡ letter_at u v m
unfolding letter_at
turned-letter u v a b m h k =
    ap (λ (x : List ℕ). get_or x m 0)
    (ap (λ (x : List ℕ). (u ++ power v a) ++ x) (power-power v b (suc m)) ∙ power-on u v a (b * suc m))
    ∙ word-letter u v (a + b * suc m) m h
    (omega (arith, le-mul_of_pos_right (suc m) k, le-mul_of_pos_right (a + b * suc m) h))

-- the letter t places after u and a turns is the same for every a
pub turn-letter : (u v : List ℕ) (a t : ℕ) → 0 < length v → letter_at u v (length u + a * length v + t) ≡ get_or v (t % length v) 0
turn-letter u v a t h =
    ap (letter_at u v) (add_assoc (length u) (a * length v) t)
    ∙ (period-letter u v (a * length v + t) h ∙ ap (λ (k : ℕ). get_or v k 0) (mul-add-mod_self_right a (length v) t))

-- u and c turns as a table of the infinite word's letters, and c turns as one from after u and a turns
pub prefix-table : (u v : List ℕ) (c : ℕ) → 0 < length v → u ++ power v c ≡ tab (length u + c * length v) (letter_at u v)
prefix-table u v c h =
    ext_get_or 0 (u ++ power v c) (tab (length u + c * length v) (letter_at u v)) (long ∙ sym (length-tab (length u + c * length v) (letter_at u v)))
    (λ m l. word-letter u v c m h (omega (arith, long)) ∙ sym (get_or-tab (length u + c * length v) (letter_at u v) m (omega (arith, long))))
  where
    long : length (u ++ power v c) ≡ length u + c * length v
    long = length-append u (power v c) ∙ omega (arith, length-power v c)

pub power-table : (u v : List ℕ) (a c : ℕ) → 0 < length v → power v c ≡ tab (c * length v) (λ t. letter_at u v (length u + a * length v + t))
power-table u v a c h =
    ext_get_or 0 (power v c) (tab (c * length v) from) (length-power v c ∙ sym (length-tab (c * length v) from))
    (λ t l. power-letter v c t (omega (arith, length-power v c))
    ∙ (sym (turn-letter u v a t h) ∙ sym (get_or-tab (c * length v) from t (omega (arith, length-power v c)))))
  where
    from : ℕ → ℕ
    from t = letter_at u v (length u + a * length v + t)

-- a lasso's period has letters, and every letter of its infinite word is below the letter count
pub some-period : {s : ℕ} {u v : List ℕ} → Lasso s u v → 0 < length v
some-period {v = v} l = omega (arith, some_letters v l.loops)

pub letter-below : {s : ℕ} {u v : List ℕ} → Lasso s u v → (m : ℕ) → letter_at u v m < s
unfolding letter_at
letter-below {u = u} {v = v} l m =
    over-letter (over-append l.prefix (over-power (suc m) l.period)) m
    (omega (arith, length-append u (power v (suc m)), length-power v (suc m), le-mul_of_pos_right (suc m) (some-period l)))
