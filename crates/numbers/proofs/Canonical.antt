-- A number is read exactly where its digits stand. Assumes nothing.
use Rattle.std.specs.Prelude.{Result, Ok, Err}
use mathlib.Core.Path.{◌≡◌, refl, ap, sym, subst, ◌∙◌}
use mathlib.Core.Bool.{Bool, true, false, cond, not, ◌||◌, ◌&&◌, true≢false}
use mathlib.Core.List.{List, [], ◌∷◌, ◌++◌}
use Prim.Native.Nat.{ℕ, zero, suc, ◌+◌, ◌*◌, ◌-◌, ◌/◌, ◌%◌, ◌≤◌, ◌<◌}
use native.Mathlib.Omega.{arith}
use native.Mathlib.Decide.{dec_lt}
use lib.Dec.{eqb, ltb, leb}
use lib.ListN.{length, get_or, length-append}
use borrow.Author.Tests.{eq-eqb, ne_eqb, leb-false}
use Rattle.slices.specs.declared.Part.{Part}
use Rattle.slices.specs.declared.Refusal.{Refusal}
use Rattle.slices.specs.Scans.{outside, first_outside_of}
use Rattle.slices.proofs.Extremes.{least-is}
use Rattle.slices.proofs.Scans.{not-outside}
use Rattle.slices.proofs.Tables.{get_or-first, get_or-second}
use Rattle.numbers.specs.declared.Number.{Number}
use Rattle.numbers.specs.Digits.{digits_of, field}
use Rattle.numbers.specs.Numerals.{run_of, value_of, malformed, misread, number_at_value}
use Rattle.numbers.proofs.Digits.{digits-one, digits-two, digits-three}
use Rattle.numbers.proofs.Runs.{run-bound, run-digits, run_ends, well-formed, number-good}
use Rattle.numbers.proofs.Standing.{At, at_one, at-two, at-three}

-- A number v was read at a place: its digits stand there, and no digit follows them.
pub record NumberRead (t : List ℕ) (at v after : ℕ) : Type 0 where
  pub small : v < 1000
  pub here : At t at (digits_of v)
  pub next : after ≡ at + length (digits_of v)
  pub ends : after < length t → outside 48 58 (get_or t after 0) ≡ true

-- a run of more than one digit that is not malformed begins with no zero
no_zero : (r x : ℕ) → malformed r x ≡ false → 2 ≤ r → x ≡ 48 → ⊥
no_zero r x e h d = true≢false (sym by ∙ e)
  where
    by : malformed r x ≡ true
    by = last (eqb r 0) (ltb 3 r) (not (eqb r 1) && eqb x 48) both
      where
        last : (a b c : Bool) → c ≡ true → a || (b || c) ≡ true
        last true b c f = refl
        last false true c f = refl
        last false false c f = f

        both : not (eqb r 1) && eqb x 48 ≡ true
        both = let n : r ≡ 1 → ⊥ = λ f. omega arith in rw (ne_eqb r 1 n, eq-eqb x 48 d)

module _ (t : List ℕ) (at : ℕ) (inside : at < length t) (good : malformed (run_of t at) (get_or t at 0) ≡ false) where
  bound : at + run_of t at ≤ length t
  bound = run-bound t at (omega arith)

  abbrev x : ℕ → ℕ
  x i = get_or t (at + i) 0

  first : get_or t at 0 ≡ x 0
  first = let e : at ≡ at + 0 = omega arith in ap (λ (k : ℕ). get_or t k 0) e

  lead : 2 ≤ run_of t at → x 0 ≡ 48 → ⊥
  lead h e = no_zero (run_of t at) (get_or t at 0) good h (first ∙ e)

  standing : (r : ℕ) → run_of t at ≡ r → 1 ≤ r → r ≤ 3 → NumberRead t at (value_of t at r) (at + run_of t at)
  unfolding value_of
  standing zero e l h = absurd (omega arith)
  standing (suc zero) e l h =
      record { small = omega (arith, d0); here = subst (At t at) (sym ds) (at_one t at (48 + v) (omega (arith, bound)) (omega (arith, d0))); next = ap (λ (k : ℕ). at + k) (e ∙ ap length (sym ds)); ends = run_ends t at }
    where
      v : ℕ
      v = 0 * 10 + (x 0 - 48)

      d0 : (48 ≤ x 0) × (x 0 < 58)
      d0 = run-digits t at 0 (omega arith)

      ds : digits_of v ≡ (48 + v) ∷ []
      ds = digits-one v (omega (arith, d0))
  standing (suc (suc zero)) e l h =
      record { small = omega (arith, d0, d1); here = subst (At t at) (sym ds) (at-two t at (48 + v / 10) (48 + v % 10) (omega (arith, bound)) (omega (arith, d0, d1)) (omega (arith, d0, d1))); next = ap (λ (k : ℕ). at + k) (e ∙ ap length (sym ds)); ends = run_ends t at }
    where
      v : ℕ
      v = (0 * 10 + (x 0 - 48)) * 10 + (x 1 - 48)

      d0 : (48 ≤ x 0) × (x 0 < 58)
      d0 = run-digits t at 0 (omega arith)

      d1 : (48 ≤ x 1) × (x 1 < 58)
      d1 = run-digits t at 1 (omega arith)

      no : x 0 ≡ 48 → ⊥
      no = lead (omega arith)

      ds : digits_of v ≡ (48 + v / 10) ∷ (48 + v % 10) ∷ []
      ds = digits-two v (omega (arith, d0, d1, no)) (omega (arith, d0, d1))
  standing (suc (suc (suc zero))) e l h =
      record { small = omega (arith, d0, d1, d2); here = subst (At t at) (sym ds) (at-three t at (48 + v / 100) (48 + v / 10 % 10) (48 + v % 10) (omega (arith, bound)) (omega (arith, d0, d1, d2)) (omega (arith, d0, d1, d2)) (omega (arith, d0, d1, d2))); next = ap (λ (k : ℕ). at + k) (e ∙ ap length (sym ds)); ends = run_ends t at }
    where
      v : ℕ
      v = ((0 * 10 + (x 0 - 48)) * 10 + (x 1 - 48)) * 10 + (x 2 - 48)

      d0 : (48 ≤ x 0) × (x 0 < 58)
      d0 = run-digits t at 0 (omega arith)

      d1 : (48 ≤ x 1) × (x 1 < 58)
      d1 = run-digits t at 1 (omega arith)

      d2 : (48 ≤ x 2) × (x 2 < 58)
      d2 = run-digits t at 2 (omega arith)

      no : x 0 ≡ 48 → ⊥
      no = lead (omega arith)

      ds : digits_of v ≡ (48 + v / 100) ∷ (48 + v / 10 % 10) ∷ (48 + v % 10) ∷ []
      ds = digits-three v (omega (arith, d0, d1, d2, no)) (omega (arith, d0, d1, d2))
  standing (suc (suc (suc (suc r)))) e l h = absurd (omega arith)

-- what was read stands there
abbrev IsRefused : Result Number Refusal → Type 0
IsRefused (Err r) = Unit {0}
IsRefused (Ok n) = ⊥

pub number-was : (part : Part) (t : List ℕ) (at v next : ℕ) → number_at_value part t at ≡ Ok (record { value = v; next = next }) → NumberRead t at v next
unfolding number_at_value
number-was part t at v next e = by (leb (length t) at) refl (malformed (run_of t at) (get_or t at 0)) refl e
  where
    by : (a : Bool) → leb (length t) at ≡ a → (b : Bool) → malformed (run_of t at) (get_or t at 0) ≡ b
        → cond a (misread part (length t)) (cond b (misread part at) (Ok (record { value = value_of t at (run_of t at); next = at + run_of t at }))) ≡ Ok (record { value = v; next = next }) → NumberRead t at v next
    by true p b q d = absurd (subst IsRefused d tt)
    by false p true q d = absurd (subst IsRefused d tt)
    by false p false q d =
        let w = well-formed (run_of t at) (get_or t at 0) q in
        let whole : ◌≡◌ {A = Number} (record { value = value_of t at (run_of t at); next = at + run_of t at }) (record { value = v; next = next }) = cc in
        let same : value_of t at (run_of t at) ≡ v = ap (λ (n : Number). n.value) whole in
        let then : at + run_of t at ≡ next = ap (λ (n : Number). n.next) whole in
        subst (λ (k : ℕ). NumberRead t at v k) then (subst (λ (k : ℕ). NumberRead t at k (at + run_of t at)) same (standing t at (leb-false (length t) at p) q (run_of t at) refl w.0 w.1))

-- where it was refused: from its place on, within the text
abbrev refused_place : Result Number Refusal → ℕ
refused_place (Ok n) = 0
refused_place (Err r) = r.place

pub refused-within : (part : Part) (t : List ℕ) (at : ℕ) (r : Refusal) → number_at_value part t at ≡ Err r → at ≤ length t → (at ≤ r.place) × (r.place ≤ length t)
unfolding number_at_value
refused-within part t at r e h = by (leb (length t) at) (malformed (run_of t at) (get_or t at 0)) e
  where
    by : (a b : Bool) → cond a (misread part (length t)) (cond b (misread part at) (Ok (record { value = value_of t at (run_of t at); next = at + run_of t at }))) ≡ Err r → (at ≤ r.place) × (r.place ≤ length t)
    by true b d = let p : length t ≡ r.place = ap refused_place d in (omega arith, omega arith)
    by false true d = let p : at ≡ r.place = ap refused_place d in (omega arith, omega arith)
    by false false d = absurd (subst IsRefused (sym d) tt)

-- every digit of a number is one
abbrev Digits : List ℕ → Type 0
Digits l = (k : ℕ) → k < length l → (48 ≤ get_or l k 0) × (get_or l k 0 < 58)

digits_are : (v : ℕ) → v < 1000 → Digits (digits_of v)
digits_are v h = by (dec_lt v 10) (dec_lt v 100)
  where
    one : v < 10 → Digits ((48 + v) ∷ [])
    one l zero k = (omega arith, omega arith)
    one l (suc i) k = absurd (omega arith)

    two : v < 100 → Digits ((48 + v / 10) ∷ (48 + v % 10) ∷ [])
    two l zero k = (omega arith, omega arith)
    two l (suc zero) k = (omega arith, omega arith)
    two l (suc (suc i)) k = absurd (omega arith)

    three : Digits ((48 + v / 100) ∷ (48 + v / 10 % 10) ∷ (48 + v % 10) ∷ [])
    three zero k = (omega arith, omega arith)
    three (suc zero) k = (omega arith, omega arith)
    three (suc (suc zero)) k = (omega arith, omega arith)
    three (suc (suc (suc i))) k = absurd (omega arith)

    by : Dec (v < 10) → Dec (v < 100) → Digits (digits_of v)
    by (yes l) m = subst Digits (sym (digits-one v l)) (one l)
    by (no l) (yes m) = subst Digits (sym (digits-two v (omega arith) m)) (two m)
    by (no l) (no m) = subst Digits (sym (digits-three v (omega arith) h)) three

module _ (part : Part) (t : List ℕ) (at v end : ℕ) (small : v < 1000) (stop : outside 48 58 end ≡ true) (here : At t at (field v end)) where
  field-long : length (field v end) ≡ length (digits_of v) + 1
  field-long = length-append (digits_of v) (end ∷ [])

  last : get_or t (at + length (digits_of v)) 0 ≡ end
  last =
      let z : length (digits_of v) ≡ length (digits_of v) + 0 = omega arith in
      here.same (length (digits_of v)) (omega (arith, field-long))
      ∙ (ap (λ (k : ℕ). get_or (field v end) k 0) z ∙ get_or-second (digits_of v) (end ∷ []) (length (digits_of v)) 0 refl)

  run_is : run_of t at ≡ length (digits_of v)
  unfolding run_of first_outside_of
  run_is = least-is (length t - at) (λ i. outside 48 58 (get_or t (at + i) 0)) (length (digits_of v)) (omega (arith, here.within, field-long)) before passes
    where
      before : (k : ℕ) → k < length (digits_of v) → outside 48 58 (get_or t (at + k) 0) ≡ true → ⊥
      before k h e =
          let s : get_or t (at + k) 0 ≡ get_or (digits_of v) k 0 = here.same k (omega (arith, field-long)) ∙ get_or-first (digits_of v) (end ∷ []) k h in
          let d = digits_are v small k h in
          true≢false (sym e ∙ not-outside 48 58 (get_or t (at + k) 0) (omega (arith, s, d)) (omega (arith, s, d)))

      passes : outside 48 58 (get_or t (at + length (digits_of v)) 0) ≡ true
      passes = ap (outside 48 58) last ∙ stop

  inside : at < length t
  inside = omega (arith, here.within, field-long)

  finish : malformed (length (digits_of v)) (get_or t at 0) ≡ false → value_of t at (length (digits_of v)) ≡ v → number_at_value part t at ≡ Ok (record { value = v; next = (at + length (digits_of v)) })
  finish e d =
      number-good part t at inside (ap (λ (r : ℕ). malformed r (get_or t at 0)) run_is ∙ e)
      ∙ (λ i. Ok (record { value = (ap (value_of t at) run_is ∙ d) i; next = at + run_is i }))

  digits-here : (l : List ℕ) → digits_of v ≡ l → At t at (l ++ (end ∷ []))
  digits-here l e = subst (λ (x : List ℕ). At t at (x ++ (end ∷ []))) e here

  none : at ≡ at + 0
  none = omega arith

  pub number_is : number_at_value part t at ≡ Ok (record { value = v; next = (at + length (digits_of v)) })
  unfolding value_of
  number_is = by (dec_lt v 10) (dec_lt v 100)
    where
      by : Dec (v < 10) → Dec (v < 100) → number_at_value part t at ≡ Ok (record { value = v; next = (at + length (digits_of v)) })
      by (yes l) m =
          let ds = digits-one v l in
          let a = digits-here ((48 + v) ∷ []) ds in
          let x0 : get_or t (at + 0) 0 ≡ 48 + v = a.same 0 (omega arith) in
          let one : value_of t at 1 ≡ v = omega (arith, x0) in
          finish (ap (λ (r : List ℕ). malformed (length r) (get_or t at 0)) ds) (ap (λ (r : List ℕ). value_of t at (length r)) ds ∙ one)
      by (no l) (yes m) =
          let ds = digits-two v (omega arith) m in
          let a = digits-here ((48 + v / 10) ∷ (48 + v % 10) ∷ []) ds in
          let x0 : get_or t (at + 0) 0 ≡ 48 + v / 10 = a.same 0 (omega arith) in
          let x1 : get_or t (at + 1) 0 ≡ 48 + v % 10 = a.same 1 (omega arith) in
          let two : value_of t at 2 ≡ v = omega (arith, x0, x1) in
          let n : get_or t at 0 ≡ 48 → ⊥ = λ e. omega (arith, x0, ap (λ (k : ℕ). get_or t k 0) none) in
          let f : malformed 2 (get_or t at 0) ≡ false = rw (ne_eqb (get_or t at 0) 48 n) in
          finish (ap (λ (r : List ℕ). malformed (length r) (get_or t at 0)) ds ∙ f) (ap (λ (r : List ℕ). value_of t at (length r)) ds ∙ two)
      by (no l) (no m) =
          let ds = digits-three v (omega arith) small in
          let a = digits-here ((48 + v / 100) ∷ (48 + v / 10 % 10) ∷ (48 + v % 10) ∷ []) ds in
          let x0 : get_or t (at + 0) 0 ≡ 48 + v / 100 = a.same 0 (omega arith) in
          let x1 : get_or t (at + 1) 0 ≡ 48 + v / 10 % 10 = a.same 1 (omega arith) in
          let x2 : get_or t (at + 2) 0 ≡ 48 + v % 10 = a.same 2 (omega arith) in
          let three : value_of t at 3 ≡ v = omega (arith, x0, x1, x2) in
          let n : get_or t at 0 ≡ 48 → ⊥ = λ e. omega (arith, x0, ap (λ (k : ℕ). get_or t k 0) none) in
          let f : malformed 3 (get_or t at 0) ≡ false = rw (ne_eqb (get_or t at 0) 48 n) in
          finish (ap (λ (r : List ℕ). malformed (length r) (get_or t at 0)) ds ∙ f) (ap (λ (r : List ℕ). value_of t at (length r)) ds ∙ three)
