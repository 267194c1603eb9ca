-- The table by pairs: its length, its steps, and the pass two letters further. Assumes nothing.
use mathlib.Core.Path.{◌≡◌, ap, ◌∙◌}
use mathlib.Core.Bool.{Bool, cond}
use mathlib.Core.List.{List}
use Prim.Native.Nat.{ℕ, ◌+◌, ◌*◌, ◌/◌, ◌%◌, ◌≤◌, ◌<◌}
use native.Mathlib.Omega.{arith}
use lib.Dec.{ltb}
use lib.ListN.{length, get_or, take}
use borrow.Author.Tests.{lt-ltb}
use Rattle.slices.proofs.Filling.{length-filled, get_or-filled}
use Rattle.fdfa.specs.Pass.{Pass, reached, pass_over}
use Rattle.fdfa.proofs.Pass.{pass-further}
use Rattle.packed.specs.Columns.{column_step}
use Rattle.prefix_pass.specs.Doubled.{pair_cell, pairs_of}

module _ (t : List ℕ) (s : ℕ) (few : s ≤ 32) where
  pub length_pairs : length (pairs_of t s) ≡ 32768
  unfolding pairs_of
  length_pairs = length-filled (1024 * s) 32768 (pair_cell t s) (omega arith)

  pub pair_step_lem : (q a b : ℕ) → q < 32 → a < s → b < s → get_or (pairs_of t s) (1024 * a + 32 * b + q) 0 ≡ column_step t (column_step t q a) b
  unfolding pairs_of
  pair_step_lem q a b h k l =
      get_or-filled (1024 * s) 32768 (pair_cell t s) (omega arith) (1024 * a + 32 * b + q) (omega arith)
      ∙ by (1024 * a + 32 * b + q) (omega arith) (omega arith) (omega arith)
    where
      by : (i : ℕ) → i % 32 ≡ q → i / 1024 ≡ a → i / 32 % 32 ≡ b → pair_cell t s i ≡ column_step t (column_step t q a) b
      by i e d c =
          (λ j. cond (ltb (c j) s) (column_step t (column_step t (e j) (d j)) (c j)) 0)
          ∙ ap (λ (x : Bool). cond x (column_step t (column_step t q a) b) 0) (lt-ltb b s l)

-- two letters further
pub pass-two : (s : ℕ) (f : ℕ → ℕ → ℕ) (p : Pass) (w : List ℕ) (i : ℕ) {q n a b : ℕ} → pass_over s f p (take i w) ≡ reached q n → i + 1 < length w → a ≡ get_or w i 0 → b ≡ get_or w (i + 1) 0 → a < s → b < s
    → pass_over s f p (take (i + 2) w) ≡ reached (f (f q a) b) (n + 2)
pass-two s f p w i {q} {n} {a} {b} here h ea eb la lb =
    let two : i + 2 ≡ i + 1 + 1 = omega arith in
    let far : n + 1 + 1 ≡ n + 2 = omega arith in
    ap (λ (m : ℕ). pass_over s f p (take m w)) two
    ∙ (pass-further s f p w (pass-further s f p w here (omega arith) ea la) h eb lb ∙ ap (reached (f (f q a) b)) far)
