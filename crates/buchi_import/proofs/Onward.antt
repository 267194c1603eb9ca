-- Reading as the code goes: part by part, and what was read where nothing is refused. Assumes nothing.
use Rattle.slices.specs.declared.Reason.TheVariants.{OffLayout, NoneAccepting}
use Rattle.std.specs.Prelude.{Result, Ok, Err}
use mathlib.Core.Path.{◌≡◌, refl, ap, sym, subst, ◌∙◌}
use mathlib.Core.Bool.{Bool, true, false, cond, not}
use mathlib.Core.List.{List}
use Prim.Native.Nat.{ℕ, ◌%◌, ◌≤◌}
use native.Mathlib.Omega.{arith}
use lib.Dec.{eqb}
use lib.ListN.{length}
use borrow.Author.Tests.{eqb-true, eqb-false, eq-eqb, ne_eqb}
use Rattle.slices.specs.declared.Part.TheVariants.{First}
use Rattle.slices.specs.declared.Refusal.{Refusal}
use Rattle.slices.proofs.Refusals.{never-given, mapped-given, mapped-refused}
use Rattle.slices.proofs.Tests.{and_left, and_right, both, not-of, of-not}
use Rattle.numbers.specs.Storing.{Stored}
use Rattle.format.specs.declared.Extent.{Extent}
use Rattle.format.specs.Format.{Found, reading, literal}
use Rattle.format.specs.Lines.{repeated}
use Rattle.format.specs.Steps.{placed}
use Rattle.format.proofs.Inverse.{reading-was}
use Rattle.format.proofs.Steps.{placed-refused, placed-given}
use Rattle.format.proofs.Lined.{lines-refused, lines-counted, Closed, closing-was}
use Rattle.buchi_import.specs.declared.Moves.{Moves}
use Rattle.buchi_import.specs.declared.Drawn.{Drawn}
use Rattle.buchi_import.specs.Text.{start_line}
use Rattle.buchi_import.specs.Reading.{Numbers, transitions, accepting_states, move_count, letters_in, ended, whole, moved, started, numbers_below}
use Rattle.buchi_import.specs.Steps.{sizes_of, targets_in, Noted, MovesRead, AcceptingRead, RestRead, TextRead}

-- as many transitions for each state, and some
whole-was : (vs : List ℕ) → whole vs ≡ true → (move_count vs ≡ 0 → ⊥) × (move_count vs % letters_in vs ≡ 0)
whole-was vs e =
    let some : Bool = not (eqb (move_count vs) 0) in
    let even : Bool = eqb (move_count vs % letters_in vs) 0 in
    (eqb-false (move_count vs) 0 (of-not (eqb (move_count vs) 0) (and_left some even e)), eqb-true (move_count vs % letters_in vs) 0 (and_right some even e))

whole_is : (vs : List ℕ) → (move_count vs ≡ 0 → ⊥) → move_count vs % letters_in vs ≡ 0 → whole vs ≡ true
whole_is vs h e = both (not (eqb (move_count vs) 0)) (eqb (move_count vs % letters_in vs) 0) (not-of (eqb (move_count vs) 0) (ne_eqb (move_count vs) 0 h)) (eq-eqb (move_count vs % letters_in vs) 0 e)

-- where the text ends, and whether it has accepting states
module _ (t ms vs : List ℕ) (at : ℕ) where
  pub ended-other : (at ≡ length t → ⊥) → ended t ms (Ok (record { values = vs; next = at })) ≡ Err (record { reason = OffLayout; part = First; place = at })
  ended-other h = rw (ne_eqb at (length t) h)

  pub ended-none : at ≡ length t → length vs ≡ 0 → ended t ms (Ok (record { values = vs; next = at })) ≡ Err (record { reason = NoneAccepting; part = First; place = length t })
  ended-none h e = rw (eq-eqb at (length t) h, eq-eqb (length vs) 0 e)

  pub ended-all : at ≡ length t → (length vs ≡ 0 → ⊥) → ended t ms (Ok (record { values = vs; next = at })) ≡ Ok (record { moves = ms; finals = vs })
  ended-all h e = rw (eq-eqb at (length t) h, ne_eqb (length vs) 0 e)

-- What was read where the accepting states are x.
abbrev pub Ended : List ℕ → List ℕ → Result Found Refusal → Numbers → Type 0
Ended t ms x w = Closed t (λ (fs : List ℕ). record { moves = ms; finals = fs }) x w

-- after the transitions
module _ (limit : ℕ) (t ms : List ℕ) (at : ℕ) where
  abbrev rest : Result Numbers Refusal
  rest = moved limit t (Ok (record { values = ms; next = at }))

  by_whole : (b : Bool) → whole ms ≡ b → rest ≡ cond b (ended t ms (repeated First t 91 (accepting_states limit) at)) (Err (record { reason = OffLayout; part = First; place = at }))
  by_whole b e = ap (λ (x : Bool). cond x (ended t ms (repeated First t 91 (accepting_states limit) at)) (Err (record { reason = OffLayout; part = First; place = at }))) e

  pub moved_none : move_count ms ≡ 0 → moved limit t (Ok (record { values = ms; next = at })) ≡ Err (record { reason = OffLayout; part = First; place = at })
  moved_none e = by_whole false (rw (eq-eqb (move_count ms) 0 e))

  pub moved-part : (move_count ms ≡ 0 → ⊥) → (move_count ms % letters_in ms ≡ 0 → ⊥) → moved limit t (Ok (record { values = ms; next = at })) ≡ Err (record { reason = OffLayout; part = First; place = at })
  moved-part h e = by_whole false (rw (ne_eqb (move_count ms) 0 h, ne_eqb (move_count ms % letters_in ms) 0 e))

  pub moved_on : (move_count ms ≡ 0 → ⊥) → move_count ms % letters_in ms ≡ 0 → moved limit t (Ok (record { values = ms; next = at })) ≡ ended t ms (repeated First t 91 (accepting_states limit) at)
  moved_on h e = by_whole true (whole_is ms h e)

  -- the transitions are those before, and the accepting states are what was found
  pub moved-was : (w : Numbers) → moved limit t (Ok (record { values = ms; next = at })) ≡ Ok w → Ended t ms (repeated First t 91 (accepting_states limit) at) w
  moved-was w e = by (whole ms) refl
    where
      by : (b : Bool) → whole ms ≡ b → Ended t ms (repeated First t 91 (accepting_states limit) at) w
      by true d = closing-was First t NoneAccepting (λ (fs : List ℕ). record { moves = ms; finals = fs }) _ (sym (by_whole true d) ∙ e)
      by false d = absurd (never-given (sym (by_whole false d) ∙ e))

  pub moved-whole : (w : Numbers) → moved limit t (Ok (record { values = ms; next = at })) ≡ Ok w → (move_count ms ≡ 0 → ⊥) × (move_count ms % letters_in ms ≡ 0)
  moved-whole w e = by (whole ms) refl
    where
      by : (b : Bool) → whole ms ≡ b → (move_count ms ≡ 0 → ⊥) × (move_count ms % letters_in ms ≡ 0)
      by true d = whole-was ms d
      by false d = absurd (never-given (sym (by_whole false d) ∙ e))

-- the rest of a text
module _ (limit : ℕ) (t : List ℕ) (at m c : ℕ) where
  on : (m ≡ 0 → ⊥) → m % c ≡ 0 → (ms : List ℕ) → move_count ms ≡ m → letters_in ms ≡ c → moved limit t (Ok (record { values = ms; next = at })) ≡ ended t ms (repeated First t 91 (accepting_states limit) at)
  on some even ms h k = moved_on limit t ms at (λ z. some (sym h ∙ z)) ((λ i. h i % k i) ∙ even)

module _ (limit : ℕ) (t : List ℕ) (at m c : ℕ) {old new : List ℕ} {r : Result Drawn Refusal} where
  pub rest-refused : {x : Refusal} → length new ≡ length old → r ≡ Err x
      → ((ms : List ℕ) → move_count ms ≡ m → letters_in ms ≡ c → moved limit t (Ok (record { values = ms; next = at })) ≡ Err x) → RestRead limit t at m c old new r
  rest-refused l d e = record {
    says = λ ms h k. d ∙ ap sizes_of (sym (e ms h k));
    same = l;
    cells = λ ms w h k z. absurd (never-given (sym (e ms h k) ∙ z));
  }

  module _ {x : Result Extent Refusal} (d : AcceptingRead (repeated First t 91 (accepting_states limit) at) old new x) (some : m ≡ 0 → ⊥) (even : m % c ≡ 0) where
    pub rest-lost : {y : Refusal} → x ≡ Err y → r ≡ Err y → RestRead limit t at m c old new r
    rest-lost e f = rest-refused d.same f (λ ms h k. on limit t at m c some even ms h k ∙ ap (ended t ms) (lines-refused (repeated First t 91 (accepting_states limit) at) (sym d.says ∙ e)))

    pub rest_read : {n e : ℕ} → x ≡ Ok (record { count = n; next = e })
        → ((ms vs : List ℕ) → move_count ms ≡ m → letters_in ms ≡ c → length vs ≡ n → r ≡ sizes_of (ended t ms (Ok (record { values = vs; next = e })))) → RestRead limit t at m c old new r
    rest_read {n} {e} z f = record {
      says = λ ms h k. f ms w.0.values h k w.2 ∙ ap sizes_of (sym (on limit t at m c some even ms h k ∙ ap (ended t ms) (w.1 ∙ ap (λ (i : ℕ). Ok (record { values = w.0.values; next = i })) w.3)));
      same = d.same;
      cells = λ ms u h k q.
          let g = moved-was limit t ms at u q in
          subst (λ (v : Numbers). Noted old v.finals new) (sym g.answer) (d.cells g.found g.says);
    }
      where
        w : (w : Found) × (repeated First t 91 (accepting_states limit) at ≡ Ok w) × (length w.values ≡ n) × (w.next ≡ e)
        w = lines-counted (repeated First t 91 (accepting_states limit) at) (sym d.says ∙ z)

-- the whole text
module _ (limit : ℕ) (t : List ℕ) {ts ts' ms ms' : List ℕ} {r : Result Drawn Refusal} where
  pub text-refused : {x : Refusal} → r ≡ Err x → numbers_below limit t ≡ Err x → TextRead (numbers_below limit t) ts ts' ms ms' r
  text-refused d e = record { says = d ∙ ap sizes_of (sym e); targets = λ w k. absurd (never-given (sym e ∙ k)); finals = λ w k. absurd (never-given (sym e ∙ k)) }

  pub text-read : {at m c : ℕ} (w : Found) → numbers_below limit t ≡ moved limit t (Ok w) → w.next ≡ at → move_count w.values ≡ m → letters_in w.values ≡ c
      → Stored ts 0 (targets_in w.values) ts' (move_count w.values) → RestRead limit t at m c ms ms' r → TextRead (numbers_below limit t) ts ts' ms ms' r
  text-read {at} w e n h k s d = record {
    says = d.says w.values h k ∙ ap sizes_of (sym all);
    targets = λ u q. let g = moved-was limit t w.values at u (sym all ∙ q) in subst (λ (v : Numbers). Stored ts 0 (targets_in v.moves) ts' (move_count v.moves)) (sym g.answer) s;
    finals = λ u q. d.cells w.values u h k (sym all ∙ q);
  }
    where
      all : numbers_below limit t ≡ moved limit t (Ok (record { values = w.values; next = at }))
      all = e ∙ ap (λ (i : ℕ). moved limit t (Ok (record { values = w.values; next = i }))) n

-- the line of the start
module _ (limit : ℕ) (t : List ℕ) {x : Result ℕ Refusal} (d : x ≡ placed (reading First t (literal start_line) 0)) where
  pub start-refused : {r : Refusal} → x ≡ Err r → numbers_below limit t ≡ Err r
  unfolding numbers_below
  start-refused e = ap (started limit t) (placed-refused (reading First t (literal start_line) 0) (sym d ∙ e))

  pub start-read : {e : ℕ} → x ≡ Ok e → (numbers_below limit t ≡ moved limit t (repeated First t 115 (transitions limit) e)) × (e ≤ length t)
  unfolding numbers_below
  start-read {e} n =
      let g = placed-given (reading First t (literal start_line) 0) (sym d ∙ n) in
      let r = reading-was First t (literal start_line) 0 g.0 (omega arith) g.1 in (
        ap (started limit t) g.1 ∙ ap (λ (k : ℕ). moved limit t (repeated First t 115 (transitions limit) k)) g.2,
        omega (arith, r.next, r.here.within, g.2),
      )

-- the transitions, from what is said of them
abbrev counts : Found → Moves
counts w = record { count = move_count w.values; of_start = letters_in w.values; next = w.next }

module _ (limit : ℕ) (t : List ℕ) (at : ℕ) {old new : List ℕ} {x : Result Moves Refusal} (d : MovesRead (repeated First t 115 (transitions limit) at) old new x) where
  pub moves-refused : {r : Refusal} → x ≡ Err r → moved limit t (repeated First t 115 (transitions limit) at) ≡ Err r
  moves-refused e = ap (moved limit t) (mapped-refused counts (repeated First t 115 (transitions limit) at) (sym d.says ∙ e))

  pub moves_read : {m c p : ℕ} → x ≡ Ok (record { count = m; of_start = c; next = p })
      → (w : Found) × (repeated First t 115 (transitions limit) at ≡ Ok w) × (move_count w.values ≡ m) × (letters_in w.values ≡ c) × (w.next ≡ p)
  moves_read e =
      let g = mapped-given counts (repeated First t 115 (transitions limit) at) (sym d.says ∙ e) in
      (g.0, g.1, ap (λ (z : Moves). z.count) g.2, ap (λ (z : Moves). z.of_start) g.2, ap (λ (z : Moves). z.next) g.2)
