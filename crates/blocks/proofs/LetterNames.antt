-- The names of the letters, s0 to s31, as the first bytes of one fixed text. Assumes nothing.
use mathlib.Core.Path.{◌≡◌, refl, ap, ◌∙◌}
use mathlib.Core.List.{List, ◌∷◌, ◌++◌}
use Prim.Native.Nat.{ℕ, zero, suc, ◌+◌, ◌*◌, ◌-◌, ◌≤◌, ◌<◌}
use native.Mathlib.Omega.{arith}
use native.Mathlib.Nat.{add-suc}
use native.Mathlib.Decide.{dec_lt}
use lib.ListN.{length, take, length-append}
use lib.Seq.{take-append_seam}
use Rattle.slices.specs.Tables.{rows}
use Rattle.slices.specs.Texts.{bytes}
use Rattle.slices.proofs.Tables.{rows_cut}
use Rattle.numbers.specs.Digits.{digits_within, digits_of}
use Rattle.numbers.proofs.Digits.{digits-one, digits-two}
use Rattle.blocks.specs.Text.{names}

abbrev pub all_names : List ℕ
all_names =
    bytes " s0 s1 s2 s3 s4 s5 s6 s7 s8 s9 s10 s11 s12 s13 s14 s15 s16 s17 s18 s19 s20 s21 s22 s23 s24 s25 s26 s27 s28 s29 s30 s31"

all-names : all_names ≡ names 32
unfolding rows digits_of digits_within
all-names = refl

pub names_of : (s : ℕ) → s ≤ 32 → take (length (names s)) all_names ≡ names s
names_of s h =
    let e : 32 ≡ s + (32 - s) = omega arith in
    let later = rows (32 - s) (λ i. 32 ∷ 115 ∷ digits_of (s + i)) in
    let d : all_names ≡ names s ++ later = all-names ∙ (ap names e ∙ rows_cut s (32 - s) (λ a. 32 ∷ 115 ∷ digits_of a)) in
    ap (take (length (names s))) d ∙ take-append_seam (names s) later

-- their length
pub names-short : (s : ℕ) → s ≤ 10 → length (names s) ≡ 3 * s
unfolding rows
names-short zero h = refl
names-short (suc s) h =
    length-append (names s) (32 ∷ 115 ∷ digits_of s) ∙ omega (arith, names-short s (omega arith), ap length (digits-one s (omega arith)))

names-long : (k : ℕ) → k ≤ 22 → length (names (10 + k)) ≡ 30 + 4 * k
unfolding rows
names-long zero h = names-short 10 (omega arith)
names-long (suc k) h =
    ap (λ (n : ℕ). length (names n)) (add-suc 10 k)
    ∙ (length-append (names (10 + k)) (32 ∷ 115 ∷ digits_of (10 + k)) ∙ omega (arith, names-long k (omega arith), ap length (digits-two (10 + k) (omega arith) (omega arith))))

pub names-length : (s : ℕ) → 10 ≤ s → s ≤ 32 → length (names s) ≡ 4 * s - 10
names-length s l h =
    let e : s ≡ 10 + (s - 10) = omega arith in
    ap (λ (n : ℕ). length (names n)) e ∙ omega (arith, names-long (s - 10) (omega arith))

pub names-few : (s : ℕ) → s ≤ 32 → length (names s) ≤ 118
names-few s h = by (dec_lt s 10)
  where
    by : Dec (s < 10) → length (names s) ≤ 118
    by (yes l) = omega (arith, names-short s (omega arith))
    by (no l) = omega (arith, names-length s (omega arith) h)
