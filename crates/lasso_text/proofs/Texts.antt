-- The text of a lasso is read, to that lasso; and what is read is a lasso whose text was read. Assumes nothing.
use Rattle.std.specs.Prelude.{Result, Ok, Err}
use Rattle.slices.specs.declared.Refusal.{Refusal}
use mathlib.Core.Path.{◌≡◌, refl, ap, sym, subst, ◌∙◌}
use mathlib.Core.Bool.{false}
use mathlib.Core.List.{List, [], ◌++◌}
use Prim.Native.Nat.{ℕ, ◌+◌, ◌≤◌, ◌<◌}
use native.Mathlib.Omega.{arith}
use lib.ListN.{length, length-append}
use Rattle.slices.specs.declared.Part.{Part}
use Rattle.slices.proofs.Refusals.{never-given}
use Rattle.slices.specs.Tables.{rows}
use Rattle.fdfa.specs.Family.{Words, Lasso}
use Rattle.fdfa.proofs.Letters.{some_letters}
use Rattle.numbers.proofs.Standing.{At, at-append, at_left, at_right, at_self, at-whole, row_at}
use Rattle.format.specs.Format.{Found, stands, reading, printed, Fits, literal}
use Rattle.format.specs.Lines.{lines_at, repeats}
use Rattle.format.proofs.Inverse.{stands-other, stands-past, Read, reading-was, reading-is}
use Rattle.format.proofs.Fixed.{fixed-literal}
use Rattle.format.proofs.LinesInverse.{lines-was, lines-is}
use Rattle.lasso_text.specs.Text.{title, prefix_name, period_name, letter_line, letter_lines, lasso_text_of}
use Rattle.lasso_text.specs.Reading.{letter, ended, opened, named, words_of}
use Rattle.lasso_text.proofs.Measures.{text-long}
use Rattle.lasso_text.proofs.Lines.{lines, word_fits, fits-over, fits-text}
use Rattle.lasso_text.proofs.Onward.{ended-all, ended-was}

-- the text of a lasso is read, to that lasso
module _ (s : ℕ) (part : Part) (small : s ≤ 1000) (u v : List ℕ) (lasso : Lasso s u v) where
  abbrev t : List ℕ
  t = lasso_text_of u v

  abbrev x : List ℕ
  x = letter_lines prefix_name u

  abbrev y : List ℕ
  y = letter_lines period_name v

  names : At t 0 title
  unfolding lasso_text_of
  names = at_left t 0 title (x ++ y) (at_self t)

  both : At t 11 (x ++ y)
  unfolding lasso_text_of
  both = at_right t 0 title (x ++ y) (at_self t)

  first : At t 11 x
  first = at_left t 11 x y both

  second : At t (11 + length x) y
  second = at_right t 11 x y both

  title-is : reading part t (literal title) 0 ≡ Ok (record { values = []; next = 11 })
  title-is =
      reading-is part t (literal title) 0 [] (fixed-literal title).fits (subst (At t 0) (sym (fixed-literal title).text) names)
      ∙ ap (λ (l : List ℕ). Ok (record { values = []; next = 0 + length l })) (fixed-literal title).text

  fits-u : Fits (lines prefix_name s (length u)) u
  fits-u = word_fits prefix_name s u small lasso.prefix

  fits-v : Fits (lines period_name s (length v)) v
  fits-v = word_fits period_name s v small lasso.period

  text-u : printed (lines prefix_name s (length u)) u ≡ x
  text-u = fits-text prefix_name s (length u) u fits-u

  text-v : printed (lines period_name s (length v)) v ≡ y
  text-v = fits-text period_name s (length v) v fits-v

  -- the period's first line begins with another byte than a line of the prefix
  begins : stands t 111 (11 + length x) ≡ false
  unfolding rows letter_lines
  begins =
      let z : 11 + length x + 0 ≡ 11 + length x = omega arith in
      let some : 0 < length v = omega (arith, some_letters v lasso.loops) in
      stands-other t _ 111 108 (11 + length x) (subst (λ (k : ℕ). At t k (letter_line period_name v 0)) z (row_at t (11 + length x) (length v) (letter_line period_name v) second 0 some)) (λ e. omega arith)

  prefix_is : lines_at part t prefix_name (letter s) 11 ≡ Ok (record { values = u; next = 11 + length x })
  prefix_is =
      lines-is part t prefix_name (letter s) 11 (length u) u (omega arith) fits-u (subst (At t 11) (sym text-u) first) (ap (λ (l : List ℕ). stands t 111 (11 + length l)) text-u ∙ begins)
      ∙ ap (λ (l : List ℕ). Ok (record { values = u; next = 11 + length l })) text-u

  end : 11 + length x + length y ≡ length t
  end = omega (arith, text-long u v)

  period_is : lines_at part t period_name (letter s) (11 + length x) ≡ Ok (record { values = v; next = 11 + length x + length y })
  period_is =
      lines-is part t period_name (letter s) (11 + length x) (length v) v (omega arith) fits-v (subst (At t (11 + length x)) (sym text-v) second) (ap (λ (l : List ℕ). stands t 108 (11 + length x + length l)) text-v ∙ stands-past t 108 (11 + length x + length y) (omega (arith, end)))
      ∙ ap (λ (l : List ℕ). Ok (record { values = v; next = 11 + length x + length l })) text-v

  pub text-words : words_of s part (lasso_text_of u v) ≡ Ok (record { prefix = u; period = v })
  unfolding words_of
  text-words =
      ap (named s part t) title-is
      ∙ (ap (opened s part t) prefix_is
      ∙ (ap (ended part t u) period_is ∙ ended-all part t u v (11 + length x + length y) end (some_letters v lasso.loops)))

-- what is read is a lasso, and its text is what was read
module _ (s : ℕ) (part : Part) (t : List ℕ) (w : Words) where
  -- from the lines of each part, where they stand
  joined : (f g h : Found) → Read t (literal title) 0 f → Read t (lines prefix_name s (repeats part t 111 (lines prefix_name s) f.next)) f.next g
      → Read t (lines period_name s (repeats part t 108 (lines period_name s) g.next)) g.next h → h.next ≡ length t → (length h.values ≡ 0 → ⊥)
      → Lasso s g.values h.values × (t ≡ lasso_text_of g.values h.values)
  unfolding lasso_text_of
  joined f g h a b c e some = (
    record {
      prefix = fits-over prefix_name s _ g.values b.fits;
      period = fits-over period_name s _ h.values c.fits;
      loops = λ d. some (ap length d);
    },
    at-whole t (title ++ x ++ y) (at-append t 0 title (x ++ y) names (at-append t 11 x y first second)) (omega (arith, length-append title (x ++ y), length-append x y, stop, e)),
  )
    where
      x : List ℕ
      x = letter_lines prefix_name g.values

      y : List ℕ
      y = letter_lines period_name h.values

      text-title : printed (literal title) f.values ≡ title
      text-title = ap (printed (literal title)) ((fixed-literal title).none f.values a.fits) ∙ (fixed-literal title).text

      text-x : printed (lines prefix_name s (repeats part t 111 (lines prefix_name s) f.next)) g.values ≡ x
      text-x = fits-text prefix_name s _ g.values b.fits

      text-y : printed (lines period_name s (repeats part t 108 (lines period_name s) g.next)) h.values ≡ y
      text-y = fits-text period_name s _ h.values c.fits

      at_x : f.next ≡ 11
      at_x = omega (arith, a.next, ap length text-title)

      at_y : g.next ≡ 11 + length x
      at_y = omega (arith, b.next, ap length text-x, at_x)

      stop : h.next ≡ 11 + length x + length y
      stop = omega (arith, c.next, ap length text-y, at_y)

      names : At t 0 title
      names = subst (At t 0) text-title a.here

      first : At t 11 x
      first = subst (λ (k : ℕ). At t k x) at_x (subst (At t f.next) text-x b.here)

      second : At t (11 + length x) y
      second = subst (λ (k : ℕ). At t k y) at_y (subst (At t g.next) text-y c.here)

  pub words-was : words_of s part t ≡ Ok w → Lasso s w.prefix w.period × (t ≡ lasso_text_of w.prefix w.period)
  unfolding words_of
  words-was d = titled (reading part t (literal title) 0) refl d
    where
      Was : Words → Type 0
      Was k = Lasso s k.prefix k.period × (t ≡ lasso_text_of k.prefix k.period)

      within : (f : Found) → Read t (literal title) 0 f → f.next ≤ length t
      within f a = omega (arith, a.next, a.here.within)

      lined : (f g : Found) → Read t (literal title) 0 f → lines_at part t prefix_name (letter s) f.next ≡ Ok g → ended part t g.values (lines_at part t period_name (letter s) g.next) ≡ Ok w → Was w
      lined f g a e k =
          let b = lines-was part t prefix_name (letter s) f.next g (within f a) e in
          let z = ended-was part t g.values (lines_at part t period_name (letter s) g.next) k in
          let c = lines-was part t period_name (letter s) g.next z.found (omega (arith, b.next, b.here.within)) z.says in
          subst Was (sym z.answer) (joined f g z.found a b c z.end z.some)

      opens : (f : Found) → Read t (literal title) 0 f → (z : Result Found Refusal) → lines_at part t prefix_name (letter s) f.next ≡ z → opened s part t z ≡ Ok w → Was w
      opens f a (Err r) e k = absurd (never-given k)
      opens f a (Ok g) e k = lined f g a e k

      titled : (z : Result Found Refusal) → reading part t (literal title) 0 ≡ z → named s part t z ≡ Ok w → Was w
      titled (Err r) e k = absurd (never-given k)
      titled (Ok f) e k = opens f (reading-was part t (literal title) 0 f (omega arith) e) (lines_at part t prefix_name (letter s) f.next) refl k
