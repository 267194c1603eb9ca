-- A number's bytes say the number, and two answers byte for byte. Assumes nothing.
use Rattle.slices.specs.declared.Reason.TheVariants.{TooLittleRoom}
use Rattle.std.specs.Prelude.{Ok, Err}
use mathlib.Core.Path.{◌≡◌, refl, ap, sym, ◌∙◌}
use mathlib.Core.List.{List, [], ◌∷◌, ◌++◌}
use Prim.Native.Nat.{ℕ, zero, suc, ◌+◌, ◌*◌, ◌/◌, ◌%◌, ◌^◌, ◌<◌}
use native.Mathlib.Omega.{arith}
use native.Mathlib.Nat.{pow-suc, mul_comm, mul_assoc, mod-one, mod-eq_of_lt}
use lib.Arith.{mod-mul}
use lib.ListN.{length}
use Rattle.slices.specs.declared.Part.TheVariants.{Out}
use Rattle.slices.specs.Tables.{tab, rows}
use Rattle.slices.proofs.Tables.{length-tab}
use Rattle.answers.specs.Layout.{number_bytes, number_said, layout, numbers_of, padded}

power-positive : (n : ℕ) → 0 < 256 ^ n
power-positive zero = omega arith
power-positive (suc n) = let e : 256 ^ suc n ≡ 256 ^ n * 256 = pow-suc 256 n in omega (arith, e, power-positive n)

said-last : (xs : List ℕ) (x : ℕ) → number_said (xs ++ (x ∷ [])) ≡ number_said xs + 256 ^ length xs * x
unfolding number_said
said-last [] x = omega arith
said-last (y ∷ xs) x =
    let e : 256 ^ suc (length xs) ≡ 256 ^ length xs * 256 = pow-suc 256 (length xs) in
    let h = said-last xs x in
    let p : 256 ^ length xs * 256 * x ≡ 256 * (256 ^ length xs * x) = ap (λ (z : ℕ). z * x) (mul_comm (256 ^ length xs) 256) ∙ mul_assoc 256 (256 ^ length xs) x in
    ap (λ (z : ℕ). y + 256 * z) h ∙ (omega (arith, p) ∙ ap (λ (z : ℕ). (y + 256 * number_said xs) + z * x) (sym e))

said-mod : (x n : ℕ) → number_said (tab n (λ i. x / 256 ^ i % 256)) ≡ x % 256 ^ n
unfolding tab number_said
said-mod x zero = sym (mod-one x)
said-mod x (suc n) =
    let low = tab n (λ i. x / 256 ^ i % 256) in
    let top = x / 256 ^ n % 256 in
    let m : x % (256 * 256 ^ n) ≡ top * 256 ^ n + x % 256 ^ n = mod-mul x (omega arith) (power-positive n) in
    let c : 256 ^ n * top ≡ top * 256 ^ n = mul_comm (256 ^ n) top in
    said-last low top
    ∙ ((λ i. said-mod x n i + 256 ^ length-tab n (λ i. x / 256 ^ i % 256) i * top)
    ∙ (omega (arith, m, c) ∙ ap (λ (z : ℕ). x % z) (mul_comm 256 (256 ^ n) ∙ sym (pow-suc 256 n))))

pub number-said : (x : ℕ) → x < 256 ^ 8 → number_said (number_bytes x) ≡ x
number-said x h = said-mod x 8 ∙ mod-eq_of_lt h

-- 8 cells filled; 21 of the out slice, 258 cells needed
pub eight-filled : layout (padded 3 (numbers_of (λ n. n ∷ []) (Ok 8)))
    ≡ 0 ∷ 0 ∷ 0 ∷ 0 ∷ 0 ∷ 0 ∷ 0 ∷ 0 ∷ 8 ∷ 0 ∷ 0 ∷ 0 ∷ 0 ∷ 0 ∷ 0 ∷ 0 ∷ 0 ∷ 0 ∷ 0 ∷ 0 ∷ 0 ∷ 0 ∷ 0 ∷ 0 ∷ []
unfolding tab rows
eight-filled = refl

pub out-too-short : layout (padded 3 (numbers_of {A = ℕ} (λ n. n ∷ []) (Err (record { reason = TooLittleRoom; part = Out; place = 258 }))))
    ≡ 21 ∷ 0 ∷ 0 ∷ 0 ∷ 0 ∷ 0 ∷ 0 ∷ 0 ∷ 4 ∷ 0 ∷ 0 ∷ 0 ∷ 0 ∷ 0 ∷ 0 ∷ 0 ∷ 2 ∷ 1 ∷ 0 ∷ 0 ∷ 0 ∷ 0 ∷ 0 ∷ 0 ∷ []
unfolding tab rows
out-too-short = refl
