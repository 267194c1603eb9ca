-- The whole text: the numbers of a family's text are read, and what is read is the text of its numbers. Assumes nothing.
use Rattle.slices.specs.declared.Reason.TheVariants.{OffLayout}
use Rattle.std.specs.Prelude.{Result, Ok, Err}
use Rattle.slices.specs.declared.Refusal.{Refusal}
use mathlib.Core.Path.{◌≡◌, refl, ap, subst, ◌∙◌}
use mathlib.Core.Bool.{Bool, true, false, cond}
use mathlib.Core.List.{List, ◌++◌}
use Prim.Native.Nat.{ℕ, ◌+◌, ◌≤◌, ◌<◌}
use native.Mathlib.Omega.{arith}
use lib.Dec.{eqb}
use lib.ListN.{length, length-append}
use borrow.Author.Tests.{eqb-true}
use Rattle.slices.specs.declared.Part.TheVariants.{First}
use Rattle.slices.proofs.Refusals.{never-given, given-was}
use Rattle.slices.specs.Seconds.{TimesFit}
use Rattle.fdfa.specs.Family.{Fdfa}
use Rattle.packed.specs.Layout.{Packable}
use Rattle.numbers.proofs.Standing.{At, at-append, at_left, at_right, at_self, at-whole}
use Rattle.format.specs.Format.{Found, refused_at, reading, printed, Fits}
use Rattle.format.proofs.Inverse.{Read, reading-was, reading-is}
use Rattle.blocks.specs.Text.{timed, counts_format, seconds_format, leading_format, level_in, letters_in, parts_format, counts_of, seconds_of, leading_of, front_of, parts_of, text_for}
use Rattle.blocks.specs.Numbers.{Blocks, blocks_of}
use Rattle.blocks.specs.Values.{front_format}
use Rattle.blocks.proofs.Durations.{seconds-fit}
use Rattle.blocks.proofs.Texts.{counts-block, leading-block, parts-fit}
use Rattle.blocks.proofs.BlocksText.{blocks_text, BlocksFit, blocks-were, blocks-are}
use Rattle.notation.specs.Reading.{Numbers, ended, onward, numbers_of}
use Rattle.notation.proofs.Outcomes.{ended-there}

-- the text of a family is read, to its numbers
module _ (level : ℕ) (low : 3 ≤ level) (high : level < 5) (F : Fdfa) (P : Packable F) (w : List ℕ) (fit : TimesFit (timed level F.letters) w) where
  abbrev t : List ℕ
  t = text_for level w F

  abbrev x : List ℕ
  x = printed counts_format (counts_of level F)

  abbrev y : List ℕ
  y = printed (seconds_format level F.letters) (seconds_of level F.letters w)

  abbrev z : List ℕ
  z = printed (leading_format F.letters F.states) (leading_of F)

  abbrev v : List ℕ
  v = printed (parts_format (front_of level F)) (parts_of F)

  abbrev pub numbers_for : Numbers
  numbers_for = record { front = front_of level F; timings = seconds_of level F.letters w; parts = parts_of F }

  after-counts : At t (0 + length x) (y ++ (z ++ v))
  after-counts = at_right t 0 x (y ++ (z ++ v)) (at_self t)

  after-seconds : At t (0 + length x + length y) (z ++ v)
  after-seconds = at_right t (0 + length x) y (z ++ v) after-counts

  abbrev blocks : Blocks
  blocks = record { front = front_of level F; timings = seconds_of level F.letters w; next = 0 + length x + length y + length z }

  first : blocks_of t ≡ Ok blocks
  first =
      blocks-are t (counts_of level F) (seconds_of level F.letters w) (leading_of F)
      (counts-block F P level low high) (seconds-fit level F.letters w P.few_letters fit) (leading-block F P)
      (at_left t 0 x (y ++ (z ++ v)) (at_self t)) (at_left t (0 + length x) y (z ++ v) after-counts) (at_left t (0 + length x + length y) z v after-seconds)

  last : reading First t (parts_format (front_of level F)) (0 + length x + length y + length z) ≡ Ok (record { values = parts_of F; next = 0 + length x + length y + length z + length v })
  last =
      reading-is First t (parts_format (front_of level F)) (0 + length x + length y + length z) (parts_of F) (parts-fit F P level)
      (at_right t (0 + length x + length y) z v after-seconds)

  pub text-numbers : numbers_of t ≡ Ok numbers_for
  unfolding numbers_of
  text-numbers =
      ap (onward t) first
      ∙ (ap (ended t blocks) last
      ∙ ended-there t blocks (parts_of F) (0 + length x + length y + length z + length v) (omega (arith, length-append x (y ++ (z ++ v)), length-append y (z ++ v), length-append z v)))

-- what is read fits, and its text is what was read
pub record ReadWhole (t : List ℕ) (v : Numbers) : Type 0 where
  pub front : Fits front_format v.front
  pub seconds : Fits (seconds_format (level_in v.front) (letters_in v.front)) v.timings
  pub parts : Fits (parts_format v.front) v.parts
  pub text : t ≡ blocks_text v.front v.timings ++ printed (parts_format v.front) v.parts

pub numbers-was : (t : List ℕ) (v : Numbers) → numbers_of t ≡ Ok v → ReadWhole t v
unfolding numbers_of
numbers-was t v d = front (blocks_of t) refl d
  where
    end : (b : Blocks) (g : Found) → BlocksFit t b → Read t (parts_format b.front) b.next g → (c : Bool) → eqb g.next (length t) ≡ c
        → cond {A = Result Numbers Refusal} c (Ok (record { front = b.front; timings = b.timings; parts = g.values })) (refused_at OffLayout First g.next) ≡ Ok v → ReadWhole t v
    end b g x y false e k = absurd (never-given k)
    end b g x y true e k =
        let p = blocks_text b.front b.timings in
        let q = printed (parts_format b.front) g.values in
        let stop : g.next ≡ length t = eqb-true g.next (length t) e in
        let at : b.next ≡ 0 + length p = omega (arith, x.next) in
        let a : At t 0 (p ++ q) = at-append t 0 p q x.here (subst (λ (z : ℕ). At t z q) at y.here) in
        let long : length (p ++ q) ≡ length t = omega (arith, length-append p q, x.next, y.next, stop) in
        subst (ReadWhole t) (given-was k) (record { front = x.front; seconds = x.seconds; parts = y.fits; text = at-whole t (p ++ q) a long })

    rest : (b : Blocks) → BlocksFit t b → (z : Result Found Refusal) → reading First t (parts_format b.front) b.next ≡ z → ended t b z ≡ Ok v → ReadWhole t v
    rest b x (Err r) e k = absurd (never-given k)
    rest b x (Ok g) e k = end b g x (reading-was First t (parts_format b.front) b.next g (omega (arith, x.next, x.here.within)) e) (eqb g.next (length t)) refl k

    front : (z : Result Blocks Refusal) → blocks_of t ≡ z → onward t z ≡ Ok v → ReadWhole t v
    front (Err r) e k = absurd (never-given k)
    front (Ok b) e k = rest b (blocks-were t e) (reading First t (parts_format b.front) b.next) refl k
