-- The text of the blocks before the last: what was read is their text, and their text is read. Assumes nothing.
use Rattle.std.specs.Prelude.{Ok}
use mathlib.Core.Path.{◌≡◌, ap, sym, subst, ◌∙◌}
use mathlib.Core.List.{List, ◌++◌}
use Prim.Native.Nat.{ℕ, ◌+◌, ◌<◌}
use native.Mathlib.Omega.{arith}
use lib.ListN.{length, get_or, take, drop, length-append}
use lib.Seq.{take-append_seam, drop-append_seam}
use Rattle.slices.specs.declared.Part.TheVariants.{First}
use Rattle.slices.proofs.Tables.{get_or-first}
use Rattle.numbers.proofs.Standing.{At, at-append}
use Rattle.format.specs.Format.{Found, reading, printed, Fits}
use Rattle.format.proofs.Inverse.{Read, reading-was, reading-is}
use Rattle.format.proofs.Sequences.{fits-seq}
use Rattle.blocks.specs.Text.{counts_format, seconds_format, leading_format, level_in, letters_in, states_in}
use Rattle.blocks.specs.Numbers.{Blocks, blocks_from, blocks_of}
use Rattle.blocks.specs.Values.{front_format}
use Rattle.blocks.proofs.Shapes.{Counts, counts-was}
use Rattle.blocks.proofs.BlocksRead.{following-given, following-was, Were, were}

-- The text, by the numbers: three of the front are the counts.
abbrev pub blocks_text : List ℕ → List ℕ → List ℕ
blocks_text front seconds =
    printed counts_format (take 3 front)
    ++ (printed (seconds_format (level_in front) (letters_in front)) seconds ++ printed (leading_format (letters_in front) (states_in front)) (drop 3 front))

pub record BlocksFit (t : List ℕ) (b : Blocks) : Type 0 where
  pub front : Fits front_format b.front
  pub seconds : Fits (seconds_format (level_in b.front) (letters_in b.front)) b.timings
  pub here : At t 0 (blocks_text b.front b.timings)
  pub next : b.next ≡ length (blocks_text b.front b.timings)

-- counts before other numbers
module _ (counts leading : List ℕ) (c : Counts counts) where
  abbrev front : List ℕ
  front = counts ++ leading

  entry : (i : ℕ) → i < 3 → get_or counts i 0 ≡ get_or front i 0
  entry i h = sym (get_or-first counts leading i (omega (arith, c.three)))

  head : take 3 front ≡ counts
  head = ap (λ (k : ℕ). take k front) (sym c.three) ∙ take-append_seam counts leading

  tail : drop 3 front ≡ leading
  tail = ap (λ (k : ℕ). drop k front) (sym c.three) ∙ drop-append_seam counts leading

  level : get_or counts 0 0 ≡ level_in front
  level = entry 0 (omega arith)

  letters : get_or counts 1 0 ≡ letters_in front
  letters = entry 1 (omega arith)

  states : get_or counts 2 0 ≡ states_in front
  states = entry 2 (omega arith)

-- what was read
module _ (t : List ℕ) {b : Blocks} (e : blocks_of t ≡ Ok b) where
  first : (f : Found) × (reading First t counts_format 0 ≡ Ok f) × (blocks_from t f.values f.next ≡ Ok b)
  unfolding blocks_of
  first = following-was (blocks_from t) (reading First t counts_format 0) e

  abbrev cs : List ℕ
  cs = first.0.values

  w : Were t cs first.0.next b
  w = were t cs first.0.next first.2

  abbrev ss : List ℕ
  ss = w.seconds.values

  abbrev ls : List ℕ
  ls = w.leading.values

  counts-read : Read t counts_format 0 first.0
  counts-read = reading-was First t counts_format 0 first.0 (omega arith) first.1

  counts : Counts cs
  counts = counts-was cs counts-read.fits

  seconds_read : Read t (seconds_format (get_or cs 0 0) (get_or cs 1 0)) first.0.next w.seconds
  seconds_read =
      reading-was First t (seconds_format (get_or cs 0 0) (get_or cs 1 0)) first.0.next w.seconds
      (omega (arith, counts-read.next, counts-read.here.within)) w.seconds_read

  leading_read : Read t (leading_format (get_or cs 1 0) (get_or cs 2 0)) w.seconds.next w.leading
  leading_read =
      reading-was First t (leading_format (get_or cs 1 0) (get_or cs 2 0)) w.seconds.next w.leading
      (omega (arith, seconds_read.next, seconds_read.here.within)) w.leading_read

  abbrev x : List ℕ
  x = printed counts_format cs

  abbrev y : List ℕ
  y = printed (seconds_format (get_or cs 0 0) (get_or cs 1 0)) ss

  abbrev z : List ℕ
  z = printed (leading_format (get_or cs 1 0) (get_or cs 2 0)) ls

  text-is : x ++ (y ++ z) ≡ blocks_text (cs ++ ls) ss
  text-is = λ i.
      printed counts_format (sym (head cs ls counts) i)
      ++ (printed (seconds_format (level cs ls counts i) (letters cs ls counts i)) ss ++ printed (leading_format (letters cs ls counts i) (states cs ls counts i)) (sym (tail cs ls counts) i))

  there : At t 0 (x ++ (y ++ z))
  there =
      at-append t 0 x (y ++ z) counts-read.here
      (subst (λ (p : ℕ). At t p (y ++ z)) counts-read.next
      (at-append t first.0.next y z seconds_read.here (subst (λ (p : ℕ). At t p z) seconds_read.next leading_read.here)))

  pub blocks-were : BlocksFit t b
  unfolding front_format
  blocks-were = subst (BlocksFit t) w.said (record {
    front = fits-seq counts_format (λ c. leading_format (get_or c 1 0) (get_or c 2 0)) cs ls counts-read.fits leading_read.fits;
    seconds = subst (λ (l : ℕ). Fits (seconds_format l (letters_in (cs ++ ls))) ss) (level cs ls counts) (subst (λ (s : ℕ). Fits (seconds_format (get_or cs 0 0) s) ss) (letters cs ls counts) seconds_read.fits);
    here = subst (At t 0) text-is there;
    next = omega (arith, leading_read.next, seconds_read.next, counts-read.next, length-append x (y ++ z), length-append y z) ∙ ap length text-is;
  })

-- what is there is read
module _ (t counts seconds leading : List ℕ) where
  abbrev pub first-text : List ℕ
  first-text = printed counts_format counts

  abbrev pub second-text : List ℕ
  second-text = printed (seconds_format (get_or counts 0 0) (get_or counts 1 0)) seconds

  abbrev pub third-text : List ℕ
  third-text = printed (leading_format (get_or counts 1 0) (get_or counts 2 0)) leading

  pub blocks-are : Fits counts_format counts → Fits (seconds_format (get_or counts 0 0) (get_or counts 1 0)) seconds → Fits (leading_format (get_or counts 1 0) (get_or counts 2 0)) leading
      → At t 0 first-text → At t (0 + length first-text) second-text → At t (0 + length first-text + length second-text) third-text
      → blocks_of t ≡ Ok (record { front = counts ++ leading; timings = seconds; next = 0 + length first-text + length second-text + length third-text })
  unfolding blocks_of blocks_from
  blocks-are fc fs fl ax ay az =
      following-given (blocks_from t) (reading-is First t counts_format 0 counts fc ax)
      ∙ (following-given _ (reading-is First t (seconds_format (get_or counts 0 0) (get_or counts 1 0)) (0 + length first-text) seconds fs ay)
      ∙ following-given _ (reading-is First t (leading_format (get_or counts 1 0) (get_or counts 2 0)) (0 + length first-text + length second-text) leading fl az))
