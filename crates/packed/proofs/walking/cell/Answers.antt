-- `packed::walking::cell` meets its contract. Assumes nothing.
use Prim.Native.Nat.{ℕ, ◌+◌, ◌*◌, ◌/◌, ◌%◌, ◌≤◌, ◌<◌}
use native.Mathlib.Omega.{arith}
use lib.Arith.{digits_lt}
use borrow.Author.Tests.{lt-ltb, le-ltb}
use Rattle.packed.proofs.walking.cell.Goals as goal

-- the entry of a state and a letter lies within the sheet
entry : (at s m i n : ℕ) → at + m * s ≤ n → i < 32 * s → i % 32 < m → at + (i % 32 * s + i / 32) < n
entry at s m i n h l k = let a : i / 32 < s = omega arith in omega (arith, digits_lt k a)

pub overflow_mul-result : goal.overflow_mul-result
overflow_mul-result c = omega (arith, entry _ _ _ _ _ c.requires.0 c.requires.1 c.if-q-states.true, c.well_formed)

pub overflow_add-result : goal.overflow_add-result
overflow_add-result c = omega (arith, entry _ _ _ _ _ c.requires.0 c.requires.1 c.if-q-states.true, c.well_formed)

pub overflow_add-result-then-q-states : goal.overflow_add-result-then-q-states
overflow_add-result-then-q-states c = omega (arith, entry _ _ _ _ _ c.requires.0 c.requires.1 c.if-q-states.true, c.well_formed)

pub bounds-sheet-at : goal.bounds-sheet-at
bounds-sheet-at c = entry _ _ _ _ _ c.requires.0 c.requires.1 c.if-q-states.true

pub returns-then-q-states : goal.returns-then-q-states
returns-then-q-states c = rw (lt-ltb _ _ c.if-q-states.true)

pub returns : goal.returns
returns c = rw (le-ltb _ _ c.if-q-states.false)
