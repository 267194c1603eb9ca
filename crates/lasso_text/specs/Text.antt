-- A lasso as text (02; 01: a show): the block `part scene`. Assumes nothing.
use Rattle.std.specs.Prelude.{List, ◌++◌, ℕ, length, get_or}
use Prim.Native.Char.{code}
use Rattle.slices.specs.Tables.{rows}
use Rattle.slices.specs.Texts.{bytes}
use Rattle.fdfa.specs.Family.{Lasso}
use Rattle.numbers.specs.Digits.{field}

-- The line of names, and what begins the line of a scene.
abbrev pub title : List ℕ
title = bytes "part scene\n"

abbrev pub prefix_name : List ℕ
prefix_name = bytes "opening "

abbrev pub period_name : List ℕ
period_name = bytes "loop "

-- The line of a word's i-th letter: the name of its part, the letter, a line feed.
abbrev pub letter_line : List ℕ → List ℕ → ℕ → List ℕ
letter_line name w i = name ++ field (get_or w i 0) (code "\n")

-- A line for each letter of a word.
unfoldable pub letter_lines : List ℕ → List ℕ → List ℕ
letter_lines name w = rows (length w) (letter_line name w)

-- The text of (u, v): the line of names, a line for each letter of u, a line for each letter of v.
unfoldable pub lasso_text_of : List ℕ → List ℕ → List ℕ
lasso_text_of u v = title ++ letter_lines prefix_name u ++ letter_lines period_name v

-- The lassos over s letters that a text may be of.
abbrev pub Readable : ℕ → List ℕ → List ℕ → Type 0
Readable s u v = Lasso s u v
