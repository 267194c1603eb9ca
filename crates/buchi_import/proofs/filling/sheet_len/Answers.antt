-- `buchi_import::filling::sheet_len` meets its contract. Assumes nothing.
use native.Mathlib.Omega.{arith}
use Rattle.buchi_import.proofs.Sheets.{few_moves, few-part, few-parts}
use Rattle.buchi_import.proofs.filling.sheet_len.Goals as goal

pub overflow_mul-result : goal.overflow_mul-result
overflow_mul-result c = omega (arith, few_moves c.requires.1 c.requires.0)

pub overflow_add-result-2 : goal.overflow_add-result-2
overflow_add-result-2 c = omega (arith, few_moves c.requires.1 c.requires.0, c.requires.1)

pub overflow_mul-result-3 : goal.overflow_mul-result-3
overflow_mul-result-3 c = omega (arith, few-part c.requires.1 c.requires.0)

pub overflow_mul-result-4 : goal.overflow_mul-result-4
overflow_mul-result-4 c = omega (arith, few-parts c.requires.1 c.requires.1 c.requires.0)

pub overflow_add-result-4 : goal.overflow_add-result-4
overflow_add-result-4 c =
    omega (arith, few-parts c.requires.1 c.requires.1 c.requires.0, few_moves c.requires.1 c.requires.0, c.requires.1)
