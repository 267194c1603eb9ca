-- What is said of a cart, from what the code knows: of the verdicts on its shows, of the room, of the out slice. Assumes nothing.
use Rattle.slices.specs.declared.Reason.TheVariants.{TooLittleRoom}
use Rattle.std.specs.Prelude.{Result, Ok}
use mathlib.Core.Path.{◌≡◌, ap, sym, ◌∙◌}
use mathlib.Core.Bool.{Bool, true, false, cond}
use mathlib.Core.List.{List}
use Prim.Native.Nat.{ℕ, suc, ◌+◌, ◌-◌, ◌≤◌, ◌<◌}
use native.Mathlib.Omega.{arith}
use lib.ListN.{length}
use borrow.Author.Tests.{eq-eqb, ne_eqb, ltb-false}
use Rattle.slices.specs.declared.Part.TheVariants.{First, Out}
use Rattle.slices.specs.declared.Refusal.{Refusal}
use Rattle.slices.specs.Refusals.{sound, ◌then◌, short}
use Rattle.slices.proofs.Refusals.{then-left, then-right, when-sound, was-given}
use Rattle.fdfa.specs.Family.{Fdfa, Words}
use Rattle.fdfa.specs.Acceptance.{accepts}
use Rattle.packed.specs.Layout.{letter_count}
use Rattle.packed.specs.Faults.{sheet_fault}
use Rattle.packed.proofs.Soundness.{sound-valid}
use Rattle.membership.specs.Verdict.{lasso_fault}
use Rattle.membership.proofs.Judging.{valid-lasso}
use Rattle.carts.specs.declared.Loading.{Loading}
use Rattle.carts.specs.declared.Loading.TheVariants.{Loaded, Rejected}
use Rattle.carts.specs.Reading.{end_at, show_at, shows_from}
use Rattle.carts.specs.Faults.{show_fault, shows_fault, cart_fault, load_fault}
use Rattle.carts.specs.Loads.{first_rejected_of, load_by, load_of}
use Rattle.carts.specs.Steps.{GoodShows}
use Rattle.carts.proofs.Onward.{end-rises, end-next, fault-next, rejected-next, rejected-last}
use Rattle.carts.proofs.Shows.{show-lasso}

-- the first of good shows lies within the cart and gets a verdict, and the others are good
module _ {sheet b : List ℕ} {at i count : ℕ} (g : GoodShows sheet b at (count - i)) (h : i < count) where
  pub next-within : end_at b at ≤ length b
  next-within = omega (arith, end-rises b (end_at b at) (count - (i + 1)), end-next b at h, g.exact)

  both : show_fault (letter_count sheet) b at then shows_fault (letter_count sheet) b (end_at b at) (count - (i + 1)) ≡ sound
  both = sym (fault-next b at (letter_count sheet) h) ∙ g.shows_good

  pub next-judged : lasso_fault sheet (show_at b at).prefix (show_at b at).period ≡ sound
  next-judged =
      valid-lasso sheet (show_at b at).prefix (show_at b at).period (sound-valid First sheet g.sheet_good)
      (show-lasso (letter_count sheet) b at next-within (then-left (show_fault (letter_count sheet) b at) _ both))

  pub next-good : GoodShows sheet b (end_at b at) (count - (i + 1))
  next-good = record {
    sheet_good = g.sheet_good;
    exact = sym (end-next b at h) ∙ g.exact;
    shows_good = then-right (show_fault (letter_count sheet) b at) _ both;
  }

-- the shows before the first that is rejected, one after the other: i of them were accepted
module _ (F : Fdfa) (b : List ℕ) (at i count : ℕ) {first : ℕ} (inv : i + first_rejected_of F (shows_from b at (count - i)) ≡ first) where
  module _ (h : i < count) {t : Bool} (is : t ≡ accepts F (show_at b at).prefix (show_at b at).period) where
    judged-is : (x : Bool) → t ≡ x → first_rejected_of F (shows_from b at (count - i)) ≡ cond x (suc (first_rejected_of F (shows_from b (end_at b at) (count - (i + 1))))) 0
    judged-is x e =
        rejected-next b at F h
        ∙ ap (λ (y : Bool). cond y (suc (first_rejected_of F (shows_from b (end_at b at) (count - (i + 1))))) 0) (sym is ∙ e)

    pub rejected-here : t ≡ false → i ≡ first
    rejected-here e = omega (arith, judged-is false e, inv)

    pub accepted-here : t ≡ true → i + 1 + first_rejected_of F (shows_from b (end_at b at) (count - (i + 1))) ≡ first
    accepted-here e = omega (arith, judged-is true e, inv)

  pub accepted-all : i ≤ count → count ≤ i → count ≡ first
  accepted-all k h = omega (arith, rejected-last b at F h, inv)

-- loaded where every show is accepted, else rejected
module _ (F : Fdfa) (ws : List Words) (size : ℕ) {i : ℕ} (is : i ≡ first_rejected_of F ws) where
  pub is-loaded : i ≡ length ws → Loaded size ≡ load_by F ws size
  is-loaded e = sym (ap (λ (t : Bool). cond t (Loaded size) (Rejected (first_rejected_of F ws))) (eq-eqb _ (length ws) (sym is ∙ e)))

  pub is-rejected : (i ≡ length ws → ⊥) → Rejected i ≡ load_by F ws size
  is-rejected e =
      ap Rejected is ∙ sym (ap (λ (t : Bool). cond t (Loaded size) (Rejected (first_rejected_of F ws))) (ne_eqb _ (length ws) (λ d. e (is ∙ d))))

-- the out slice
module _ (sheet b old : List ℕ) (answer : Result Loading Refusal) (says : answer ≡ load_of sheet b (length old)) where
  pub loaded-room : {n : ℕ} → answer ≡ Ok (Loaded n) → length b ≤ length old
  loaded-room {n} e =
      ltb-false (length old) (length b)
      (when-sound _ TooLittleRoom Out (length b)
      (then-right (cart_fault (letter_count sheet) b) (short Out (length old) (length b))
      (then-right (sheet_fault First sheet) (cart_fault (letter_count sheet) b then short Out (length old) (length b)) fine)))
    where
      fine : load_fault sheet b (length old) ≡ sound
      fine = (was-given (load_fault sheet b (length old)) _ (sym e ∙ says)).0
