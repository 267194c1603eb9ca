-- Accepting states as the loop reads them. Assumes nothing.
use Rattle.std.specs.Prelude.{Result, Ok, Err}
use mathlib.Core.Path.{◌≡◌, refl, ap, sym, subst, ◌∙◌}
use mathlib.Core.Bool.{Bool, true, false, cond, ◌||◌}
use mathlib.Core.List.{List, [], ◌∷◌, ◌++◌}
use Prim.Native.Nat.{ℕ, ◌+◌, ◌-◌, ◌≤◌, ◌<◌}
use native.Mathlib.Omega.{arith}
use lib.Dec.{eqb}
use lib.ListN.{length, get_or, set, length-set}
use lib.Seq.{get_or-set_same, get_or-set_other}
use native.Mathlib.Decide.{ℕ_discrete}
use borrow.Author.Tests.{eq-eqb, ne_eqb}
use Rattle.slices.specs.declared.Part.TheVariants.{First}
use Rattle.slices.specs.declared.Refusal.{Refusal}
use Rattle.slices.proofs.Refusals.{never-given, given-was}
use Rattle.slices.proofs.Tables.{get_or-second}
use Rattle.format.specs.declared.Extent.{Extent}
use Rattle.format.specs.Format.{Found, stands, reading, literal}
use Rattle.format.specs.Lines.{repeated, extent}
use Rattle.format.proofs.Inverse.{Read, reading-was}
use Rattle.format.proofs.Going.{Going, going-none, going_more, going-all, going-refused}
use Rattle.format.proofs.Chained.{chained-none, chained-next}
use Rattle.format.proofs.Led.{led-was}
use Rattle.buchi_import.specs.Reading.{rising, accepting_state, accepting_states, after_last, is_in}
use Rattle.buchi_import.specs.Steps.{Noted, AcceptingRead}
use Rattle.buchi_import.proofs.Accepting.{Rising, rising-was, accepting-begin}

noted-none : (old : List ℕ) → Noted old [] old
unfolding is_in
noted-none old = record { same = refl; cells = λ p h. refl }

-- a state noted where there is room for it, and where there is none
is_one : (p v : ℕ) → is_in p (v ∷ []) ≡ eqb v p
unfolding is_in
is_one p v = by (eqb v p)
  where
    by : (b : Bool) → b || false ≡ b
    by true = refl
    by false = refl

pub noted_one : (old : List ℕ) (v : ℕ) → v < length old → Noted old (v ∷ []) (set old v 1)
noted_one old v h = record { same = length-set old v 1; cells = λ p l. by p l (ℕ_discrete v p) ∙ ap (λ (b : Bool). cond b 1 (get_or old p 0)) (sym (is_one p v)) }
  where
    by : (p : ℕ) → p < length old → Dec (v ≡ p) → get_or (set old v 1) p 0 ≡ cond (eqb v p) 1 (get_or old p 0)
    by p l (yes e) =
        ap (λ (i : ℕ). get_or (set old v 1) i 0) (sym e) ∙ (get_or-set_same old v 1 0 h ∙ sym (ap (λ (b : Bool). cond b 1 (get_or old p 0)) (eq-eqb v p e)))
    by p l (no e) = get_or-set_other old v p 1 0 (λ d. e (sym d)) ∙ sym (ap (λ (b : Bool). cond b 1 (get_or old p 0)) (ne_eqb v p e))

pub noted-past : (old : List ℕ) (v : ℕ) → length old ≤ v → Noted old (v ∷ []) old
noted-past old v h = record { same = refl; cells = λ p l. sym (ap (λ (b : Bool). cond b 1 (get_or old p 0)) (is_one p v ∙ ne_eqb v p (λ e. omega arith))) }

is-in-last : (p : ℕ) (vs : List ℕ) (v : ℕ) → is_in p (vs ++ (v ∷ [])) ≡ is_in p (v ∷ []) || is_in p vs
unfolding is_in
is-in-last p [] v = or_same (eqb v p || false)
  where
    or_same : (b : Bool) → b ≡ b || false
    or_same true = refl
    or_same false = refl
is-in-last p (x ∷ vs) v = ap (λ (b : Bool). eqb x p || b) (is-in-last p vs v) ∙ swap (eqb x p) (eqb v p || false) (is_in p vs)
  where
    swap : (a b c : Bool) → a || (b || c) ≡ b || (a || c)
    swap true true c = refl
    swap true false c = refl
    swap false b c = refl

noted_more : {old mid new : List ℕ} {vs : List ℕ} {v : ℕ} → Noted old vs mid → Noted mid (v ∷ []) new → Noted old (vs ++ (v ∷ [])) new
noted_more {old} {mid} {new} {vs} {v} a b = record { same = b.same ∙ a.same; cells = λ p h. b.cells p (omega (arith, a.same)) ∙ by p h (is_in p (v ∷ [])) refl }
  where
    by : (p : ℕ) → p < length old → (x : Bool) → is_in p (v ∷ []) ≡ x → cond (is_in p (v ∷ [])) 1 (get_or mid p 0) ≡ cond (is_in p (vs ++ (v ∷ []))) 1 (get_or old p 0)
    by p h x e = ap (λ (y : Bool). cond y 1 (get_or mid p 0)) e ∙ (end x ∙ ap (λ (y : Bool). cond y 1 (get_or old p 0)) (ap (λ (y : Bool). y || is_in p vs) (sym e) ∙ sym (is-in-last p vs v)))
      where
        end : (y : Bool) → cond y 1 (get_or mid p 0) ≡ cond (y || is_in p vs) 1 (get_or old p 0)
        end true = refl
        end false = a.cells p h

-- k accepting states were read, to the place p; the next is from `low` on, and those are noted.
pub record Noting (limit : ℕ) (t : List ℕ) (at : ℕ) (old new : List ℕ) (p k low : ℕ) : Type 0 where
  pub values : List ℕ
  pub going : Going First t 91 (accepting_states limit) at k p values
  pub above : low ≡ after_last k values
  pub noted : Noted old values new

pub noting-none : (limit : ℕ) (t : List ℕ) (at : ℕ) (old : List ℕ) → at ≤ length t → Noting limit t at old old at 0 0
unfolding accepting_states
noting-none limit t at old h = record {
  values = [];
  going = going-none First t 91 (accepting_states limit) at h (chained-none First t (λ i vs. accepting_state limit (after_last i vs)) at);
  above = refl;
  noted = noted-none old;
}

module _ {limit : ℕ} {t : List ℕ} {at : ℕ} {old new : List ℕ} {p k low : ℕ} (h : at ≤ length t) (s : Noting limit t at old new p k low) where
  rises : Rising limit k s.values
  rises = rising-was limit k s.values (reading-was First t (accepting_states limit k) at _ h s.going.says).fits

  module _ {v e : ℕ} (d : reading First t (accepting_state limit low) p ≡ Ok (record { values = v ∷ []; next = e })) where
    here : reading First t (accepting_state limit (after_last k s.values)) p ≡ Ok (record { values = v ∷ []; next = e })
    here = ap (λ (n : ℕ). reading First t (accepting_state limit n) p) (sym s.above) ∙ d

    line : Read t (accepting_state limit (after_last k s.values)) p (record { values = v ∷ []; next = e })
    line = reading-was First t (accepting_state limit (after_last k s.values)) p _ s.going.inside here

    ahead : p < e
    ahead = let b = accepting-begin limit k s.values (v ∷ []) line.fits in omega (arith, line.next, ap length b.1)

    says : reading First t (accepting_states limit (k + 1)) at ≡ Ok (record { values = s.values ++ (v ∷ []); next = e })
    unfolding accepting_states
    says = chained-next First t (λ i vs. accepting_state limit (after_last i vs)) at k s.going.says here

    last : get_or (s.values ++ (v ∷ [])) (k + 1 - 1) 0 ≡ v
    last = let z : k + 1 - 1 ≡ k + 0 = omega arith in ap (λ (i : ℕ). get_or (s.values ++ (v ∷ [])) i 0) z ∙ get_or-second s.values (v ∷ []) k 0 rises.long

    pub state-small : v < 1000
    unfolding accepting_state
    state-small =
        let r = led-was (91 ∷ []) (rising (after_last k s.values) limit) 93 (λ vs. literal (10 ∷ [])) (v ∷ []) line.fits in
        let e : v ≡ r.number = ap (λ (l : List ℕ). get_or l 0 0) r.whole in
        omega (arith, e, r.takes.small)

    pub noting-more : {next : List ℕ} → stands t 91 p ≡ true → Noted new (v ∷ []) next → Noting limit t at old next e (k + 1) (v + 1)
    noting-more g x = record {
      values = s.values ++ (v ∷ []);
      going = going_more s.going g says ahead (omega (arith, line.next, line.here.within));
      above = sym (ap (λ (b : Bool). cond b 0 (get_or (s.values ++ (v ∷ [])) (k + 1 - 1) 0 + 1)) (ne_eqb (k + 1) 0 (λ z. omega arith)) ∙ ap (λ (n : ℕ). n + 1) last);
      noted = noted_more s.noted x;
    }

  module _ {r : Result Extent Refusal} where
    pub noting-all : stands t 91 p ≡ false → r ≡ Ok (record { count = k; next = p }) → AcceptingRead (repeated First t 91 (accepting_states limit) at) old new r
    noting-all g d = record {
      says = d ∙ (ap (λ (n : ℕ). Ok (record { count = n; next = p })) (sym rises.long) ∙ ap extent (sym all));
      same = s.noted.same;
      cells = λ w q. subst (λ (z : Found). Noted old z.values new) (given-was (sym all ∙ q)) s.noted;
    }
      where
        all : repeated First t 91 (accepting_states limit) at ≡ Ok (record { values = s.values; next = p })
        all = going-all s.going g

    pub noting-refused : {x : Refusal} {end : List ℕ} → stands t 91 p ≡ true → reading First t (accepting_state limit low) p ≡ Err x → r ≡ Err x → length end ≡ length old → AcceptingRead (repeated First t 91 (accepting_states limit) at) old end r
    unfolding accepting_states
    noting-refused {x} g e d l = record { says = d ∙ ap extent (sym all); same = l; cells = λ w q. absurd (never-given (sym all ∙ q)) }
      where
        all : repeated First t 91 (accepting_states limit) at ≡ Err x
        all = going-refused s.going g (chained-next First t (λ i vs. accepting_state limit (after_last i vs)) at k s.going.says (ap (λ (n : ℕ). reading First t (accepting_state limit n) p) (sym s.above) ∙ e))
