-- What is due next is a small number. Assumes nothing.
use mathlib.Core.Bool.{Bool, true, false, cond}
use Prim.Native.Nat.{ℕ, ◌*◌, ◌/◌, ◌%◌, ◌≤◌}
use native.Mathlib.Omega.{arith}
use native.Mathlib.Nat.{mod-le, div-le_self}
use lib.Dec.{eqb}
use Rattle.buchi_import.specs.Reading.{due_letter_of, due_state_of}

module _ (m c a : ℕ) (h : m ≤ 16 * c) (l : c ≤ 32) where
  pub few-letter : due_letter_of m c a ≤ 1000
  few-letter = by (eqb c m) (eqb a 0)
    where
      by : (x y : Bool) → cond x (cond y 0 m) (m % c) ≤ 1000
      by true true = omega arith
      by true false = omega arith
      by false y = omega (arith, mod-le m c)

  pub few-state : due_state_of m c a ≤ 1000
  few-state = by (eqb c m) (eqb a m)
    where
      by : (x y : Bool) → cond x (cond y 0 1) (m / c) ≤ 1000
      by true true = omega arith
      by true false = omega arith
      by false y = omega (arith, div-le_self m c)
