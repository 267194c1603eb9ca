-- The cart of texts that are read is refused only for scenes that the sheet has not; and of the texts of shows that are lassos over the letters of the
-- sheet what is decided are the verdicts on these very shows. Assumes nothing.
use Rattle.slices.specs.declared.Reason.TheVariants.{TooLittleRoom, FileTooLong}
use Rattle.std.specs.Prelude.{Result, Ok}
use Rattle.slices.specs.declared.Refusal.{Refusal}
use mathlib.Core.Path.{◌≡◌, refl, ap, sym, subst, ◌∙◌}
use mathlib.Core.List.{List, [], ◌∷◌}
use Prim.Native.Nat.{ℕ, ◌≤◌}
use native.Mathlib.Omega.{arith}
use lib.ListN.{length}
use borrow.Author.Tests.{le-ltb}
use Rattle.slices.specs.declared.Part.TheVariants.{First, Second, Out}
use Rattle.slices.specs.Refusals.{Fault, sound, ◌then◌, short, unless}
use Rattle.slices.proofs.Refusals.{passed, then-left, then-right, when-passes}
use Rattle.fdfa.specs.Family.{Words, Lasso}
use Rattle.fdfa.proofs.Letters.{lasso-more}
use Rattle.packed.specs.Layout.{letter_count, decode, Valid}
use Rattle.packed.specs.Faults.{sheet_fault}
use Rattle.sheet_forms.specs.Forms.{sheet_from}
use Rattle.lasso_text.specs.Text.{lasso_text_of}
use Rattle.lasso_text.specs.Reading.{words_in}
use Rattle.show_files.specs.Shown.{shown}
use Rattle.show_files.proofs.Openings.{both-few}
use Rattle.show_files.proofs.Laws.{lasso-shown, lasso-room}
use Rattle.carts.specs.Layout as layout
use Rattle.carts.specs.Layout.{cart_bytes, ShortParts, Cartable, Lassos}
use Rattle.carts.specs.Reading.{count_of}
use Rattle.carts.specs.Faults.{shows_fault, cart_fault, load_fault}
use Rattle.carts.specs.Loads.{load_by, load_of}
use Rattle.carts.proofs.Bytes.{bytes-sound}
use Rattle.carts.proofs.Laws.{lassos-judged}
use Rattle.console.specs.Files.{after}
use Rattle.cart_files.specs.Decided.{first_fault, text_test, too_long_fault, texts_fault, shows_in, cart_of, of_sheet, decided}
use Rattle.cart_files.proofs.Lists.{then-sound, shows-count}

-- texts that are read
short-parts : (ts : List (List ℕ)) → texts_fault ts ≡ sound → ShortParts (shows_in ts)
unfolding first_fault shows_in
short-parts [] e = layout.ShortParts.done
short-parts (t ∷ ts) e =
    let few = both-few t (then-left (text_test t) (texts_fault ts) e) in
    layout.ShortParts.more {w = words_in (shown t)} (omega (arith, few.0)) (omega (arith, few.1)) (short-parts ts (then-right (text_test t) (texts_fault ts) e))

enough : (n : ℕ) → short Out n n ≡ sound
enough n = when-passes TooLittleRoom Out n (le-ltb n n (omega arith))

module _ (ts : List (List ℕ)) (some : 1 ≤ length ts) (few : length ts ≤ 64) (read : texts_fault ts ≡ sound) where
  pub texts-cartable : Cartable (shows_in ts)
  texts-cartable = record { some = omega (arith, shows-count ts); few = omega (arith, shows-count ts); parts = short-parts ts read }

  -- Neither the layout nor the room is refused.
  pub only-scenes : (sheet : List ℕ) → sheet_fault First sheet ≡ sound
      → load_fault sheet (cart_of ts) (length (cart_of ts)) ≡ shows_fault (letter_count sheet) (cart_of ts) 1 (count_of (cart_of ts))
  unfolding cart_fault
  only-scenes sheet good =
      passed _ good
      ∙ (ap (λ (f : Fault). cart_fault (letter_count sheet) (cart_of ts) then f) (enough (length (cart_of ts)))
      ∙ (then-sound (cart_fault (letter_count sheet) (cart_of ts)) ∙ passed _ (bytes-sound (shows_in ts) texts-cartable)))

  -- The shows are lassos over the letters of the sheet.
  module _ (b sheet : List ℕ) (is : sheet_from First b ≡ Ok sheet) (valid : Valid sheet) (lassos : Lassos (letter_count sheet) (shows_in ts)) where
    loads : load_of sheet (cart_of ts) (length (cart_of ts)) ≡ Ok (load_by (decode sheet) (shows_in ts) (length (cart_of ts)))
    loads =
        lassos-judged sheet valid (shows_in ts) texts-cartable lassos (length (cart_of ts))
        ∙ ap (λ (f : Fault). unless f (load_by (decode sheet) (shows_in ts) (length (cart_of ts)))) (enough (length (cart_of ts)))

    pub texts-decided : length b ≤ 65536 → too_long_fault ts ≡ sound → decided b ts ≡ Ok (load_by (decode sheet) (shows_in ts) (length (cart_of ts)))
    unfolding decided
    texts-decided h l =
        ap (λ (f : Fault). after f (of_sheet (sheet_from First b) ts)) (passed _ (when-passes FileTooLong First 65536 (le-ltb 65536 (length b) h)) ∙ l)
        ∙ (ap (λ (x : Result (List ℕ) Refusal). of_sheet x ts) is ∙ (ap (λ (f : Fault). after f (load_of sheet (cart_of ts) (length (cart_of ts)))) read ∙ loads))

-- Shows over s letters whose texts the program takes.
pub data TakenShows (s : ℕ) : List Words → Type 0 where
  done : TakenShows s []
  more : {w : Words} {ws : List Words} → Lasso s w.prefix w.period → length w.prefix ≤ 4096 → length w.period ≤ 4096
      → length (lasso_text_of w.prefix w.period) ≤ 65536 → TakenShows s ws → TakenShows s (w ∷ ws)

unfoldable pub texts_of : List Words → List (List ℕ)
texts_of [] = []
texts_of (w ∷ ws) = lasso_text_of w.prefix w.period ∷ texts_of ws

module _ (s : ℕ) (few : s ≤ 32) where
  shown-are : (ws : List Words) → TakenShows s ws → shows_in (texts_of ws) ≡ ws
  unfolding shows_in texts_of
  shown-are [] done = refl
  shown-are (w ∷ ws) (more r h k l rest) = λ i. lasso-shown w.prefix w.period (lasso-more few r) i ∷ shown-are ws rest i

  shown_read : (ws : List Words) → TakenShows s ws → texts_fault (texts_of ws) ≡ sound
  unfolding first_fault texts_of
  shown_read [] done = refl
  shown_read (w ∷ ws) (more r h k l rest) = passed _ (lasso-room w.prefix w.period (lasso-more few r) 4096 4096 h k) ∙ shown_read ws rest

  shown-short : (ws : List Words) → TakenShows s ws → too_long_fault (texts_of ws) ≡ sound
  unfolding first_fault texts_of
  shown-short [] done = refl
  shown-short (w ∷ ws) (more r h k l rest) = passed _ (when-passes FileTooLong Second 65536 (le-ltb 65536 _ l)) ∙ shown-short ws rest

  shown-lassos : (ws : List Words) → TakenShows s ws → Lassos s ws
  shown-lassos [] done = layout.Lassos.done
  shown-lassos (w ∷ ws) (more r h k l rest) = layout.Lassos.more {w = w} r (shown-lassos ws rest)

-- The texts of such shows make the cart of these shows, where the sheet accepts each, and else the first that it rejects.
pub shows-decided : (b sheet : List ℕ) → length b ≤ 65536 → sheet_from First b ≡ Ok sheet → Valid sheet → (ws : List Words) → 1 ≤ length ws → length ws ≤ 64 → TakenShows (letter_count sheet) ws
    → (cart_of (texts_of ws) ≡ cart_bytes ws) × (decided b (texts_of ws) ≡ Ok (load_by (decode sheet) ws (length (cart_bytes ws))))
shows-decided b sheet h is valid ws some few shows = (
  ap cart_bytes are,
  texts-decided (texts_of ws) (omega (arith, count)) (omega (arith, count)) (shown_read s low ws shows) b sheet is valid (subst (Lassos s) (sym are) (shown-lassos s low ws shows)) h
      (shown-short s low ws shows)
      ∙ ap (λ (l : List Words). Ok (load_by (decode sheet) l (length (cart_bytes l)))) are,
)
  where
    s : ℕ
    s = letter_count sheet

    low : letter_count sheet ≤ 32
    low = valid.header.few_letters

    are : shows_in (texts_of ws) ≡ ws
    are = shown-are (letter_count sheet) low ws shows

    count : length (texts_of ws) ≡ length ws
    count = sym (shows-count (texts_of ws)) ∙ ap length are
