-- A part of a slice is lent, filled as a whole, and comes back. Assumes nothing.
use mathlib.Core.Path.{◌≡◌, ap, sym, ◌∙◌}
use mathlib.Core.List.{List, ◌++◌, append_assoc}
use Prim.Native.Nat.{ℕ, ◌+◌, ◌≤◌}
use native.Mathlib.Omega.{arith}
use lib.ListN.{length, take, drop, length-drop}
use lib.Seq.{sets, sets-eq, length-take-le, drop-drop}
use Rattle.slices.specs.Filling.{written}
use Rattle.slices.specs.Tables.{tab}
use Rattle.slices.proofs.Filling.{Filling, filling-all, written-prefix}
use Rattle.slices.proofs.Tables.{length-tab}

-- the n cells from a on; k is how the code counts them
module _ (old : List ℕ) (a : ℕ) {n k : ℕ} (e : k ≡ n) (h : a + n ≤ length old) where
  pub part-long : length (take k (drop a old)) ≡ n
  part-long = length-take-le k (drop a old) (omega (arith, length-drop a old)) ∙ e

  pub part-filled : (f : ℕ → ℕ) {out : List ℕ} {i : ℕ} → Filling n f (take k (drop a old)) out i → n ≤ i → take a old ++ (out ++ drop k (drop a old)) ≡ sets old a (tab n f)
  unfolding written
  part-filled f s l =
      ap (λ (x : List ℕ). take a old ++ (x ++ drop k (drop a old))) (filling-all s l)
      ∙ (ap (λ (x : List ℕ). take a old ++ x) (written-prefix (tab n f) (drop a old) (length-tab n f ∙ sym e))
      ∙ (ap (λ (x : List ℕ). take a old ++ (tab n f ++ x)) (drop-drop (length (tab n f)) a old)
      ∙ (sym (append_assoc (take a old) (tab n f) (drop (a + length (tab n f)) old)) ∙ sym (sets-eq (tab n f) old a (omega (arith, length-tab n f, h))))))
