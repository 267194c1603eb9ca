-- Loading a cart: the order of refusals; loaded exactly when every show is accepted, else rejected with the index of the first that is not.
-- Assumes nothing.
use Rattle.std.specs.Prelude.{Result, Ok, Err}
use mathlib.Core.Path.{◌≡◌, refl, ap, sym, subst, ◌∙◌}
use mathlib.Core.Bool.{Bool, true, false, cond}
use mathlib.Core.List.{List, [], ◌∷◌, ◌++◌}
use Prim.Native.Nat.{ℕ, suc, ◌≤◌, ◌<◌}
use native.Mathlib.Omega.{arith}
use lib.Dec.{eqb}
use lib.ListN.{length, take, drop, length-append}
use lib.Seq.{take-append_seam, drop-append_seam}
use borrow.Author.Tests.{eq-eqb, ne_eqb, eqb-true, eqb-false}
use Rattle.slices.specs.declared.Part.TheVariants.{First, Out}
use Rattle.slices.specs.declared.Refusal.{Refusal}
use Rattle.slices.specs.Refusals.{sound, fault, short, unless}
use Rattle.slices.specs.Filling.{written}
use Rattle.slices.proofs.Refusals.{passed, failed, gives, was-given}
use Rattle.fdfa.specs.Family.{Fdfa, Words}
use Rattle.fdfa.specs.Acceptance.{accepts}
use Rattle.packed.specs.Layout.{letter_count, decode, Valid}
use Rattle.packed.specs.Faults.{sheet_fault}
use Rattle.packed.proofs.Soundness.{valid-sound}
use Rattle.carts.specs.declared.Loading.{Loading}
use Rattle.carts.specs.declared.Loading.TheVariants.{Loaded, Rejected}
use Rattle.carts.specs.Layout.{cart_bytes, Cartable, Lassos}
use Rattle.carts.specs.Reading.{count_of, end_from, shows_of}
use Rattle.carts.specs.Faults.{layout_fault, show_fault, cart_fault, load_fault}
use Rattle.carts.specs.Loads.{first_rejected_of, load_by, load_of, out_after, CartLoaded, AllAccepted, FirstRejected}
use Rattle.carts.specs.Loads as loads
use Rattle.carts.proofs.Answers.{loaded-room}
use Rattle.carts.proofs.Bytes.{bytes-shown}
use Rattle.carts.proofs.Lassos.{show-refused, lassos-cart}

-- The order of refusals.
module _ (sheet b : List ℕ) (room : ℕ) where
  -- for carts and rooms of every kind
  pub sheet-first : {r : Refusal} → sheet_fault First sheet ≡ fault r → load_fault sheet b room ≡ fault r
  sheet-first e = failed _ e

  module _ (good : sheet_fault First sheet ≡ sound) where
    -- for shows and rooms of every kind
    pub layout-second : {r : Refusal} → layout_fault b ≡ fault r → load_fault sheet b room ≡ fault r
    unfolding cart_fault
    layout-second e = passed _ good ∙ failed _ (failed _ e)

    module _ (laid : layout_fault b ≡ sound) where
      -- show i, once those before it are good, whatever those behind it are, and for rooms of every kind
      pub show-third : (i : ℕ) {r : Refusal} → i < count_of b → ((k : ℕ) → k < i → show_fault (letter_count sheet) b (end_from b 1 k) ≡ sound)
          → show_fault (letter_count sheet) b (end_from b 1 i) ≡ fault r → load_fault sheet b room ≡ fault r
      unfolding cart_fault
      show-third i h before e = passed _ good ∙ failed _ (passed _ laid ∙ show-refused (letter_count sheet) b (count_of b) 1 i h before e)

    pub room-fourth : cart_fault (letter_count sheet) b ≡ sound → load_fault sheet b room ≡ short Out room (length b)
    room-fourth e = passed _ good ∙ passed _ e

-- the shows before the first that is rejected
module _ (F : Fdfa) where
  abbrev accepted : Words → Bool
  accepted w = accepts F w.prefix w.period

  first-accepted : (w : Words) (ws : List Words) → accepted w ≡ true → first_rejected_of F (w ∷ ws) ≡ suc (first_rejected_of F ws)
  unfolding first_rejected_of
  first-accepted w ws e = rw e

  first-rejected : (w : Words) (ws : List Words) → accepted w ≡ false → first_rejected_of F (w ∷ ws) ≡ 0
  unfolding first_rejected_of
  first-rejected w ws e = rw e

  none : first_rejected_of F [] ≡ 0
  unfolding first_rejected_of
  none = refl

  all-counted : {ws : List Words} → AllAccepted F ws → first_rejected_of F ws ≡ length ws
  all-counted loads.AllAccepted.done = none
  all-counted (loads.AllAccepted.more {w} {ws} e a) = first-accepted w ws e ∙ ap suc (all-counted a)

  counted-all : (ws : List Words) → first_rejected_of F ws ≡ length ws → AllAccepted F ws
  counted-all [] e = loads.AllAccepted.done
  counted-all (w ∷ ws) e = by (accepted w) refl (counted-all ws)
    where
      by : (x : Bool) → accepted w ≡ x → (first_rejected_of F ws ≡ length ws → AllAccepted F ws) → AllAccepted F (w ∷ ws)
      by true d ih = loads.AllAccepted.more d (ih (omega (arith, first-accepted w ws d, e)))
      by false d ih = absurd (omega (arith, first-rejected w ws d, e))

  counted-first : (ws : List Words) → (first_rejected_of F ws ≡ length ws → ⊥) → FirstRejected F ws (first_rejected_of F ws)
  counted-first [] e = absurd (e none)
  counted-first (w ∷ ws) e = by (accepted w) refl (counted-first ws)
    where
      more : accepted w ≡ true → FirstRejected F ws (first_rejected_of F ws) → FirstRejected F (w ∷ ws) (first_rejected_of F (w ∷ ws))
      more d f = record {
        before = w ∷ f.before;
        show = f.show;
        behind = f.behind;
        whole = ap (λ (l : List Words). w ∷ l) f.whole;
        index = first-accepted w ws d ∙ ap suc f.index;
        all = loads.AllAccepted.more d f.all;
        rejects = f.rejects;
      }

      by : (x : Bool) → accepted w ≡ x → ((first_rejected_of F ws ≡ length ws → ⊥) → FirstRejected F ws (first_rejected_of F ws)) → FirstRejected F (w ∷ ws) (first_rejected_of F (w ∷ ws))
      by true d ih = more d (ih (λ c. e (first-accepted w ws d ∙ ap suc c)))
      by false d ih = record { before = []; show = w; behind = ws; whole = refl; index = first-rejected w ws d; all = loads.AllAccepted.done; rejects = d }

  first_counted : {before : List Words} (w : Words) (behind : List Words) → AllAccepted F before → accepted w ≡ false → first_rejected_of F (before ++ (w ∷ behind)) ≡ length before
  first_counted w behind loads.AllAccepted.done e = first-rejected w behind e
  first_counted w behind (loads.AllAccepted.more {w = x} {ws = xs} d a) e = first-accepted x (xs ++ (w ∷ behind)) d ∙ ap suc (first_counted w behind a e)

-- the answer that is given
module _ (F : Fdfa) (ws : List Words) (size : ℕ) where
  judged-all : AllAccepted F ws → load_by F ws size ≡ Loaded size
  judged-all a = ap (λ (t : Bool). cond t (Loaded size) (Rejected (first_rejected_of F ws))) (eq-eqb _ (length ws) (all-counted F a))

  judged-first : {i : ℕ} → FirstRejected F ws i → load_by F ws size ≡ Rejected i
  judged-first {i} f =
      ap (λ (t : Bool). cond t (Loaded size) (Rejected (first_rejected_of F ws))) (ne_eqb _ (length ws) some) ∙ ap Rejected (is ∙ sym f.index)
    where
      is : first_rejected_of F ws ≡ length f.before
      is = ap (first_rejected_of F) f.whole ∙ first_counted F f.show f.behind f.all f.rejects

      some : first_rejected_of F ws ≡ length ws → ⊥
      some e = omega (arith, is, e, ap length f.whole, length-append f.before (f.show ∷ f.behind))

abbrev IsLoaded : Loading → Type 0
IsLoaded (Loaded n) = Unit {0}
IsLoaded (Rejected i) = ⊥

never-loaded : {i n : ℕ} → Rejected i ≡ Loaded n → ⊥
never-loaded e = subst IsLoaded (sym e) tt

loaded-was : {m n : ℕ} → Loaded m ≡ Loaded n → m ≡ n
loaded-was e = cc

rejected-was : {m n : ℕ} → Rejected m ≡ Rejected n → m ≡ n
rejected-was e = cc

module _ (sheet b : List ℕ) (room : ℕ) where
  abbrev F : Fdfa
  F = decode sheet

  abbrev ws : List Words
  ws = shows_of b

  -- a cart that is not refused: loaded exactly when every show is accepted
  pub all-loaded : load_fault sheet b room ≡ sound → AllAccepted F ws → load_of sheet b room ≡ Ok (Loaded (length b))
  all-loaded e a = sym (gives _ e) ∙ ap Ok (judged-all F ws (length b) a)

  pub loaded-all : (n : ℕ) → load_of sheet b room ≡ Ok (Loaded n) → (n ≡ length b) × AllAccepted F ws
  loaded-all n e = by (eqb (first_rejected_of F ws) (length ws)) refl
    where
      is : load_by F ws (length b) ≡ Loaded n
      is = sym (was-given (load_fault sheet b room) _ (sym e)).1

      by : (t : Bool) → eqb (first_rejected_of F ws) (length ws) ≡ t → (n ≡ length b) × AllAccepted F ws
      by true d = (
        sym (loaded-was (sym (ap (λ (t : Bool). cond t (Loaded (length b)) (Rejected (first_rejected_of F ws))) d) ∙ is)),
        counted-all F ws (eqb-true _ (length ws) d),
      )
      by false d = absurd (never-loaded (sym (ap (λ (t : Bool). cond t (Loaded (length b)) (Rejected (first_rejected_of F ws))) d) ∙ is))

  -- and else rejected with the index of the first that is not
  pub first-is-rejected : load_fault sheet b room ≡ sound → (i : ℕ) → FirstRejected F ws i → load_of sheet b room ≡ Ok (Rejected i)
  first-is-rejected e i f = sym (gives _ e) ∙ ap Ok (judged-first F ws (length b) f)

  pub rejected-is-first : (i : ℕ) → load_of sheet b room ≡ Ok (Rejected i) → FirstRejected F ws i
  rejected-is-first i e = by (eqb (first_rejected_of F ws) (length ws)) refl
    where
      is : load_by F ws (length b) ≡ Rejected i
      is = sym (was-given (load_fault sheet b room) _ (sym e)).1

      by : (t : Bool) → eqb (first_rejected_of F ws) (length ws) ≡ t → FirstRejected F ws i
      by true d = absurd (never-loaded (sym is ∙ ap (λ (t : Bool). cond t (Loaded (length b)) (Rejected (first_rejected_of F ws))) d))
      by false d =
          subst (FirstRejected F ws) (rejected-was (sym (ap (λ (t : Bool). cond t (Loaded (length b)) (Rejected (first_rejected_of F ws))) d) ∙ is))
          (counted-first F ws (eqb-false _ (length ws) d))

-- Of the cart of 1 to 64 lassos over the letters of a valid sheet only the room is judged, and then come the verdicts on these very lassos.
module _ (sheet : List ℕ) (valid : Valid sheet) (ws : List Words) (fits : Cartable ws) (lassos : Lassos (letter_count sheet) ws) (room : ℕ) where
  pub lassos-room : load_fault sheet (cart_bytes ws) room ≡ short Out room (length (cart_bytes ws))
  lassos-room = room-fourth sheet (cart_bytes ws) room (valid-sound First sheet valid) (lassos-cart (letter_count sheet) ws fits lassos)

  pub lassos-judged : load_of sheet (cart_bytes ws) room ≡ unless (short Out room (length (cart_bytes ws))) (load_by (decode sheet) ws (length (cart_bytes ws)))
  lassos-judged = λ i. unless (lassos-room i) (load_by (decode sheet) (bytes-shown ws fits i) (length (cart_bytes ws)))

-- The out slice: where the cart is loaded its bytes are the first, and those behind them stay; else nothing changes.
module _ (sheet b old out : List ℕ) (r : Result Loading Refusal) (l : CartLoaded sheet b old out r) where
  pub loaded-cells : (n : ℕ) → r ≡ Ok (Loaded n) → (length b ≤ length old) × (take (length b) out ≡ b) × (drop (length b) out ≡ drop (length b) old)
  unfolding written
  loaded-cells n e = (
    loaded-room sheet b old r l.says e,
    ap (take (length b)) cells ∙ take-append_seam b (drop (length b) old),
    ap (drop (length b)) cells ∙ drop-append_seam b (drop (length b) old),
  )
    where
      cells : out ≡ b ++ drop (length b) old
      cells = l.cells ∙ ap (λ (x : Result Loading Refusal). out_after x b old) (sym l.says ∙ e)

  pub rejected-cells : (i : ℕ) → r ≡ Ok (Rejected i) → out ≡ old
  rejected-cells i e = l.cells ∙ ap (λ (x : Result Loading Refusal). out_after x b old) (sym l.says ∙ e)

  pub refused-cells : (q : Refusal) → r ≡ Err q → out ≡ old
  refused-cells q e = l.cells ∙ ap (λ (x : Result Loading Refusal). out_after x b old) (sym l.says ∙ e)
