-- The lines of a show by their places, and the totals of these lines by its letters. Assumes nothing.
use mathlib.Core.Path.{◌≡◌, refl, ap, ap₂, sym, ◌∙◌}
use mathlib.Core.List.{List, [], ◌∷◌, ◌++◌, append-nil, append_assoc}
use Prim.Native.Nat.{ℕ, zero, suc, ◌+◌}
use Prim.Native.Char.{code}
use native.Mathlib.Omega.{arith}
use lib.ListN.{length, get_or}
use Rattle.slices.specs.Tables.{rows, sum}
use Rattle.lasso_text.specs.Text as lasso-text
use Rattle.running_sheet.specs.Lines.{ShowPart, opening, loop, Line, part_lines, show_lines, adds, total}
use Rattle.running_sheet.specs.Text.{title, scene_text, line_text, each_text, block_of, totals_text, running_text, running_sheet_of}
use Rattle.running_sheet.specs.Places.{seconds_at, timed_lines, first_block, lasting}

-- the first row before the others
rows-first : (m : ℕ) (f : ℕ → List ℕ) → rows (suc m) f ≡ f 0 ++ rows m (λ i. f (suc i))
unfolding rows
rows-first zero f = sym (append-nil (f 0))
rows-first (suc m) f =
    ap (λ (l : List ℕ). l ++ f (suc m)) (rows-first m f) ∙ append_assoc (f 0) (rows m (λ i. f (suc i))) (f (suc m))

sum_first : (m : ℕ) (f : ℕ → ℕ) → sum (suc m) f ≡ f 0 + sum m (λ i. f (suc i))
unfolding sum
sum_first zero f = omega arith
sum_first (suc m) f = omega (arith, sum_first m f)

-- the texts of two parts' lines
each_append : (f : Line → List ℕ) (ls ms : List Line) → each_text f (ls ++ ms) ≡ each_text f ls ++ each_text f ms
unfolding each_text
each_append f [] ms = refl
each_append f (l ∷ ls) ms =
    ap (λ (x : List ℕ). f l ++ x) (each_append f ls ms) ∙ sym (append_assoc (f l) (each_text f ls) (each_text f ms))

total-append : (part : ShowPart) (ls ms : List Line) → total part (ls ++ ms) ≡ total part ls + total part ms
unfolding total
total-append part [] ms = omega arith
total-append part (l ∷ ls) ms = omega (arith, total-append part ls ms)

-- the lines of one part
abbrev line_of : ShowPart → List ℕ → List ℕ → ℕ → Line
line_of part x w i = record { part = part; letter = get_or x i 0; seconds = seconds_at x w i }

part-rows : (f : Line → List ℕ) (part : ShowPart) (x w : List ℕ) → each_text f (part_lines part x w) ≡ rows (length x) (λ i. f (line_of part x w i))
unfolding part_lines each_text rows
part-rows f part [] w = refl
part-rows f part (a ∷ x) w =
    ap (λ (l : List ℕ). f (line_of part (a ∷ x) w 0) ++ l) (part-rows f part x w)
    ∙ sym (rows-first (length x) (λ i. f (line_of part (a ∷ x) w i)))

own : (part : ShowPart) (n : ℕ) → adds part part n ≡ n
own opening n = refl
own loop n = refl

part-total : (part : ShowPart) (x w : List ℕ) → total part (part_lines part x w) ≡ lasting x w
unfolding part_lines total lasting sum
part-total part [] w = refl
part-total part (a ∷ x) w =
    ap₂ (λ (m n : ℕ). m + n) (own part (get_or w a 0)) (part-total part x w) ∙ sym (sum_first (length x) (seconds_at (a ∷ x) w))

-- lines of the other part add nothing
no_loop : (x w : List ℕ) → total opening (part_lines loop x w) ≡ 0
unfolding part_lines total
no_loop [] w = refl
no_loop (a ∷ x) w = omega (arith, no_loop x w)

no-opening : (x w : List ℕ) → total loop (part_lines opening x w) ≡ 0
unfolding part_lines total
no-opening [] w = refl
no-opening (a ∷ x) w = omega (arith, no-opening x w)

module _ (u v w : List ℕ) where
  -- the totals are also the sums over the letters of the show
  pub opening-total : total opening (show_lines u v w) ≡ lasting u w
  unfolding show_lines
  opening-total =
      omega (arith, total-append opening (part_lines opening u w) (part_lines loop v w), part-total opening u w, no_loop v w)

  pub loop-total : total loop (show_lines u v w) ≡ lasting v w
  unfolding show_lines
  loop-total =
      omega (arith, total-append loop (part_lines opening u w) (part_lines loop v w), part-total loop v w, no-opening u w)

  both-rows : (f : Line → List ℕ) → each_text f (show_lines u v w) ≡ rows (length u) (λ i. f (line_of opening u w i)) ++ rows (length v) (λ i. f (line_of loop v w i))
  unfolding show_lines
  both-rows f =
      each_append f (part_lines opening u w) (part_lines loop v w)
      ∙ ap₂ (λ (x y : List ℕ). x ++ y) (part-rows f opening u w) (part-rows f loop v w)

  -- the running sheet, line by line
  pub text-lines : running_sheet_of u v w ≡ first_block u v w ++ totals_text (lasting u w) (lasting v w)
  unfolding running_text timed_lines
  text-lines = λ i. (title ++ both-rows line_text i) ++ totals_text (opening-total i) (loop-total i)

  -- its first block without the seconds is the text of the show
  pub show-text : block_of lasso-text.title (λ l. scene_text l (code "\n")) (show_lines u v w) ≡ lasso-text.lasso_text_of u v
  unfolding lasso-text.lasso_text_of lasso-text.letter_lines
  show-text = ap (λ (l : List ℕ). lasso-text.title ++ l) (both-rows (λ l. scene_text l (code "\n")))
