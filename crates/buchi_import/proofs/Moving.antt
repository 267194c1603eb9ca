-- Transitions as the loop reads them. Assumes nothing.
use Rattle.std.specs.Prelude.{Result, Ok, Err}
use mathlib.Core.Path.{◌≡◌, refl, ap, sym, subst, ◌∙◌}
use mathlib.Core.Bool.{Bool, true, false, cond}
use mathlib.Core.List.{List, [], ◌∷◌, ◌++◌}
use Prim.Native.Nat.{ℕ, suc, ◌+◌, ◌*◌, ◌/◌, ◌≤◌, ◌<◌}
use native.Mathlib.Omega.{arith}
use native.Mathlib.Numerals.{add-one}
use native.Mathlib.Nat.{mul-div_cancel_left}
use lib.Dec.{eqb}
use lib.ListN.{length, get_or}
use borrow.Author.Tests.{eqb-true, eqb-false}
use Rattle.slices.specs.declared.Part.TheVariants.{First}
use Rattle.slices.specs.declared.Refusal.{Refusal}
use Rattle.slices.proofs.Refusals.{never-given, given-was}
use Rattle.slices.specs.Tables.{tab}
use Rattle.slices.proofs.Tables.{length-tab, tab-same}
use Rattle.fdfa.specs.Inclusion.{count_below}
use Rattle.numbers.specs.Storing.{Stored}
use Rattle.numbers.proofs.Stores.{stored-none-tab, stored-entry, stored-as, stored-length}
use Rattle.format.specs.Format.{Found, stands, reading}
use Rattle.format.specs.Lines.{repeated}
use Rattle.format.proofs.Inverse.{Read, reading-was}
use Rattle.format.proofs.Going.{Going, going-none, going_more, going-all, going-refused}
use Rattle.format.proofs.Chained.{chained-none, chained-next}
use Rattle.buchi_import.specs.declared.Moves.{Moves}
use Rattle.buchi_import.specs.Reading.{transition, transitions, of_start, move_count, letters_in}
use Rattle.buchi_import.specs.Steps.{moves_of, targets_in, MovesRead}
use Rattle.buchi_import.proofs.Transitions.{kept, last-target, one_more, as_many, Shape, shape, moves-begin}

-- one transition more is counted if its state is 0
first_more : (m : ℕ) (vs : List ℕ) → length vs ≡ 3 * m → (a q r : ℕ) → of_start (m + 1) (vs ++ (a ∷ q ∷ r ∷ [])) ≡ cond (eqb q 0) (of_start m vs + 1) (of_start m vs)
first_more m vs long a q r = ap (λ (k : ℕ). of_start k (vs ++ (a ∷ q ∷ r ∷ []))) (add-one m) ∙ by (eqb q 0) refl
  where
    by : (b : Bool) → eqb q 0 ≡ b → of_start (suc m) (vs ++ (a ∷ q ∷ r ∷ [])) ≡ cond b (of_start m vs + 1) (of_start m vs)
    by true e = one_more vs m a q r long (eqb-true q 0 e) ∙ sym (add-one (of_start m vs))
    by false e = as_many vs m a q r long (eqb-false q 0 e)

pub move-count : (m : ℕ) (vs : List ℕ) → length vs ≡ 3 * m → move_count vs ≡ m
move-count m vs e = ap (λ (n : ℕ). n / 3) e ∙ mul-div_cancel_left m {n = 3} (omega arith)

-- m transitions were read, to the place p, c of them of state 0; where each leads is stored.
pub record Moving (limit : ℕ) (t : List ℕ) (at : ℕ) (old new : List ℕ) (p m c : ℕ) : Type 0 where
  pub values : List ℕ
  pub going : Going First t 115 (transitions limit) at m p values
  pub first : c ≡ of_start m values
  pub stored : Stored old 0 (tab m (λ i. get_or values (3 * i + 2) 0)) new m

pub moving-none : (limit : ℕ) (t : List ℕ) (at : ℕ) (old : List ℕ) → at ≤ length t → Moving limit t at old old at 0 0
unfolding transitions count_below
moving-none limit t at old h = record {
  values = [];
  going = going-none First t 115 (transitions limit) at h (chained-none First t (λ i vs. transition limit i (of_start i vs)) at);
  first = refl;
  stored = stored-none-tab old 0 (λ i. get_or [] (3 * i + 2) 0);
}

module _ {limit : ℕ} {t : List ℕ} {at : ℕ} {old new : List ℕ} {p m c : ℕ} (h : at ≤ length t) (s : Moving limit t at old new p m c) where
  turns : Shape limit m s.values
  turns = shape limit m s.values (reading-was First t (transitions limit m) at _ h s.going.says).fits

  pub moving-few : (m ≤ 16 * c) × (c ≤ 32)
  moving-few = (omega (arith, turns.few_moves, s.first), omega (arith, turns.few_letters, s.first))

  module _ {a q r e : ℕ} (d : reading First t (transition limit m c) p ≡ Ok (record { values = a ∷ q ∷ r ∷ []; next = e })) where
    abbrev more : List ℕ
    more = s.values ++ (a ∷ q ∷ r ∷ [])

    here : reading First t (transition limit m (of_start m s.values)) p ≡ Ok (record { values = a ∷ q ∷ r ∷ []; next = e })
    here = ap (λ (k : ℕ). reading First t (transition limit m k) p) (sym s.first) ∙ d

    line : Read t (transition limit m (of_start m s.values)) p (record { values = a ∷ q ∷ r ∷ []; next = e })
    line = reading-was First t (transition limit m (of_start m s.values)) p _ s.going.inside here

    ahead : p < e
    ahead = let b = moves-begin limit m s.values (a ∷ q ∷ r ∷ []) line.fits in omega (arith, line.next, ap length b.1)

    says : reading First t (transitions limit (m + 1)) at ≡ Ok (record { values = more; next = e })
    unfolding transitions
    says = chained-next First t (λ i vs. transition limit i (of_start i vs)) at m s.going.says here

    pub move-small : r < 1000
    move-small =
        let w = reading-was First t (transitions limit (m + 1)) at _ h says in
        subst (λ (x : ℕ). x < 1000) (last-target s.values m a q r turns.long) ((shape limit (m + 1) more w.fits).small m (omega arith))

    pub moving-more : {next : List ℕ} {k f : ℕ} → stands t 115 p ≡ true → Stored new m (r ∷ []) next k → f ≡ cond (eqb q 0) (c + 1) c → Moving limit t at old next e k f
    moving-more {next} {k} {f} g x z = subst (λ (n : ℕ). Moving limit t at old next e n f) (sym x.next) (record {
      values = more;
      going = going_more s.going g says ahead (omega (arith, line.next, line.here.within));
      first = z ∙ (ap (λ (n : ℕ). cond (eqb q 0) (n + 1) n) s.first ∙ sym (first_more m s.values turns.long a q r));
      stored = record {
        cells = (stored-entry m to (stored-as (tab-same m _ to (λ i l. sym (kept s.values m a q r turns.long (3 * i + 2) (omega arith)))) s.stored) (stored-as (λ i. sym (last-target s.values m a q r turns.long) i ∷ []) x)).cells;
        next = omega (arith, length-tab (m + 1) to);
      };
    })
      where
        to : ℕ → ℕ
        to i = get_or more (3 * i + 2) 0

  count : m ≡ move_count s.values
  count = sym (move-count m s.values turns.long)

  letters : c ≡ letters_in s.values
  letters = s.first ∙ ap (λ (k : ℕ). of_start k s.values) count

  module _ {r : Result Moves Refusal} where
    pub moving-all : stands t 115 p ≡ false → r ≡ Ok (record { count = m; of_start = c; next = p }) → MovesRead (repeated First t 115 (transitions limit) at) old new r
    moving-all g d = record {
      says = d ∙ ((λ i. Ok (record { count = count i; of_start = letters i; next = p })) ∙ ap moves_of (sym all));
      same = stored-length s.stored;
      cells = λ w k. subst (λ (z : Found). Stored old 0 (targets_in z.values) new (move_count z.values)) (given-was (sym all ∙ k)) (subst (λ (n : ℕ). Stored old 0 (tab n (λ i. get_or s.values (3 * i + 2) 0)) new n) count s.stored);
    }
      where
        all : repeated First t 115 (transitions limit) at ≡ Ok (record { values = s.values; next = p })
        all = going-all s.going g

    pub moving-refused : {x : Refusal} {end : List ℕ} → stands t 115 p ≡ true → reading First t (transition limit m c) p ≡ Err x → r ≡ Err x → length end ≡ length old → MovesRead (repeated First t 115 (transitions limit) at) old end r
    unfolding transitions
    moving-refused {x} g e d l = record { says = d ∙ ap moves_of (sym all); same = l; cells = λ w k. absurd (never-given (sym all ∙ k)) }
      where
        all : repeated First t 115 (transitions limit) at ≡ Err x
        all = going-refused s.going g (chained-next First t (λ i vs. transition limit i (of_start i vs)) at m s.going.says (ap (λ (k : ℕ). reading First t (transition limit m k) p) (sym s.first) ∙ e))
