-- `blocks::names::names_len` meets its contract. Assumes nothing.
use mathlib.Core.Path.{sym}
use native.Mathlib.Omega.{arith}
use Rattle.blocks.proofs.LetterNames.{names-short, names-length}
use Rattle.blocks.proofs.names.names_len.Goals as goal

pub returns-then-s-lt10 : goal.returns-then-s-lt10
returns-then-s-lt10 c = sym (names-short _ (omega arith))

pub returns-else-s-lt10 : goal.returns-else-s-lt10
returns-else-s-lt10 c = sym (names-length _ c.if-s-lt10.false (omega arith))
