-- Numbers as far as a place of 64 bits goes. Assumes nothing.
use Rattle.std.specs.Prelude.{cond, ℕ, ltb}

-- A number as a place can say it: of one that has more than 64 bits it says the largest.
abbrev pub capped : ℕ → ℕ
capped n = cond (ltb n 18446744073709551615) n 18446744073709551615
