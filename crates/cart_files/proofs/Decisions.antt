-- What the code answers is what is decided of the sheet's file and of the texts that came. Assumes nothing.
use Rattle.std.specs.Prelude.{Result, Ok, Err}
use mathlib.Core.Path.{◌≡◌, refl, ap, sym, ◌∙◌}
use mathlib.Core.List.{List}
use Prim.Native.Nat.{ℕ}
use lib.ListN.{length, take}
use Rattle.slices.specs.declared.Part.TheVariants.{First}
use Rattle.slices.specs.declared.Refusal.{Refusal}
use Rattle.slices.specs.Refusals.{Fault, sound, fault}
use Rattle.slices.proofs.Refusals.{passed, failed, faulty}
use Rattle.sheet_forms.specs.Forms.{sheet_from}
use Rattle.carts.specs.declared.Loading.{Loading}
use Rattle.carts.specs.Loads.{load_of}
use Rattle.console.specs.Files.{length_fault, after}
use Rattle.cart_files.specs.declared.Kept.{Kept}
use Rattle.cart_files.specs.declared.Kept.TheVariants.{Nothing, Text, Long}
use Rattle.cart_files.specs.declared.Collected.{Collected}
use Rattle.cart_files.specs.Decided.{too_long_fault, texts_fault, cart_of, of_sheet, decided}
use Rattle.cart_files.specs.Gathered.{long_in, text_in, Gathered, of_cart, of_short, of_long}

-- the sheet
module _ (x : Result (List ℕ) Refusal) (cart : List ℕ) (k : Kept) where
  pub sheet-read : {b : List ℕ} {l : Result Loading Refusal} → x ≡ Ok b → l ≡ of_cart b cart k → l ≡ of_short x cart k
  sheet-read e d = d ∙ ap (λ (y : Result (List ℕ) Refusal). of_short y cart k) (sym e)

-- the texts, by what is kept of them
module _ (ts : List (List ℕ)) {cart : List ℕ} {held : Collected} (g : Gathered ts cart held) where
  shows : (b : List ℕ) (k : Kept) → held.kept ≡ k → too_long_fault ts ≡ sound
      → of_cart b (take held.length cart) k ≡ after (texts_fault ts) (load_of b (cart_of ts) (length (cart_of ts)))
  shows b Nothing e l =
      let none : texts_fault ts ≡ sound = sym (g.text l) ∙ ap text_in e in
      ap (λ (c : List ℕ). load_of b c (length c)) (g.cells l none) ∙ ap (λ (f : Fault). after f (load_of b (cart_of ts) (length (cart_of ts)))) (sym none)
  shows b (Text r) e l = ap (λ (f : Fault). after f (load_of b (cart_of ts) (length (cart_of ts)))) (sym (ap text_in e) ∙ g.text l)
  shows b (Long r) e l = absurd (faulty (sym (ap long_in e) ∙ (g.long ∙ l)))

  after-sheet : (x : Result (List ℕ) Refusal) (k : Kept) → held.kept ≡ k → too_long_fault ts ≡ sound → of_short x (take held.length cart) k ≡ of_sheet x ts
  after-sheet (Err r) k e l = refl
  after-sheet (Ok b) k e l = shows b k e l

  texts : (x : Result (List ℕ) Refusal) (k : Kept) → held.kept ≡ k → of_long x (take held.length cart) k ≡ after (too_long_fault ts) (of_sheet x ts)
  texts x Nothing e = let l = sym g.long ∙ ap long_in e in after-sheet x Nothing e l ∙ ap (λ (f : Fault). after f (of_sheet x ts)) (sym l)
  texts x (Text r) e = let l = sym g.long ∙ ap long_in e in after-sheet x (Text r) e l ∙ ap (λ (f : Fault). after f (of_sheet x ts)) (sym l)
  texts x (Long r) e = ap (λ (f : Fault). after f (of_sheet x ts)) (sym (ap long_in e) ∙ g.long)

  -- the sheet's length
  module _ (b : List ℕ) where
    pub decided-long : {q : Refusal} → fault q ≡ length_fault First (length b) → Err q ≡ decided b ts
    unfolding decided
    decided-long e = ap (λ (f : Fault). after f (of_sheet (sheet_from First b) ts)) (sym (failed (too_long_fault ts) (sym e)))

    pub decided-short : {r : Result Loading Refusal} → sound ≡ length_fault First (length b) → r ≡ of_long (sheet_from First b) (take held.length cart) held.kept → r ≡ decided b ts
    unfolding decided
    decided-short e d =
        d
        ∙ (texts (sheet_from First b) held.kept refl
        ∙ ap (λ (f : Fault). after f (of_sheet (sheet_from First b) ts)) (sym (passed (too_long_fault ts) (sym e))))
