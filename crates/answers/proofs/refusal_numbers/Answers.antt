-- `answers::refusal_numbers` meets its contract: three numbers, and zeros behind them. Assumes nothing.
use mathlib.Core.Path.{◌≡◌, ap, sym, ◌∙◌}
use mathlib.Core.List.{List, [], ◌∷◌}
use Prim.Native.Nat.{ℕ, zero, suc, ◌≤◌, ◌<◌}
use native.Mathlib.Omega.{arith}
use lib.ListN.{length, get_or, set, length-set, replicate, length-replicate}
use Rattle.std.proofs.lemmas.List.{get_or-replicate, get_or-set_same, get_or-set_other}
use Rattle.std.proofs.Math.ListN.{get_or-eq_default}
use Rattle.slices.specs.Tables.{tab}
use Rattle.slices.proofs.Tables.{tab-get_or, tab-same}
use Rattle.answers.proofs.refusal_numbers.Goals as goal

module _ (n a b c : ℕ) (h : 3 ≤ n) where
  abbrev zeros : List ℕ
  zeros = replicate n 0

  abbrev stored : List ℕ
  stored = set (set (set zeros 0 a) 1 b) 2 c

  abbrev three : List ℕ
  three = a ∷ b ∷ c ∷ []

  first : length (set zeros 0 a) ≡ n
  first = length-set zeros 0 a ∙ length-replicate n 0

  second : length (set (set zeros 0 a) 1 b) ≡ n
  second = length-set (set zeros 0 a) 1 b ∙ first

  entry : (i : ℕ) → i < n → get_or stored i 0 ≡ get_or three i 0
  entry zero l =
      get_or-set_other (set (set zeros 0 a) 1 b) 2 0 c 0 (λ e. absurd (omega (arith, e)))
      ∙ (get_or-set_other (set zeros 0 a) 1 0 b 0 (λ e. absurd (omega (arith, e))) ∙ get_or-set_same zeros 0 a 0 (omega (arith, length-replicate {A = ℕ} n 0)))
  entry (suc zero) l =
      get_or-set_other (set (set zeros 0 a) 1 b) 2 1 c 0 (λ e. absurd (omega (arith, e))) ∙ get_or-set_same (set zeros 0 a) 1 b 0 (omega (arith, first))
  entry (suc (suc zero)) l = get_or-set_same (set (set zeros 0 a) 1 b) 2 c 0 (omega (arith, second))
  entry (suc (suc (suc i))) l =
      get_or-set_other (set (set zeros 0 a) 1 b) 2 (suc (suc (suc i))) c 0 (λ e. absurd (omega (arith, e)))
      ∙ (get_or-set_other (set zeros 0 a) 1 (suc (suc (suc i))) b 0 (λ e. absurd (omega (arith, e)))
      ∙ (get_or-set_other zeros 0 (suc (suc (suc i))) a 0 (λ e. absurd (omega (arith, e)))
      ∙ (get_or-replicate n (suc (suc (suc i))) 0 0 l ∙ sym (get_or-eq_default three 0 {n = suc (suc (suc i))} (omega arith)))))

  padded-three : stored ≡ tab n (λ k. get_or three k 0)
  padded-three =
      sym (tab-get_or stored)
      ∙ (ap (λ (m : ℕ). tab m (λ i. get_or stored i 0)) (length-set (set (set zeros 0 a) 1 b) 2 c ∙ second) ∙ tab-same n (λ i. get_or stored i 0) (λ i. get_or three i 0) entry)

pub returns : goal.returns
returns g c =
    let r = c.args.r in
    padded-three g.row.N c.from.result c.part_number.result r.place c.requires
    ∙ (λ i. tab g.row.N (λ k. get_or ((c.from.ensures ∙ c.number.ensures) i ∷ c.part_number.ensures i ∷ r.place ∷ []) k 0))
