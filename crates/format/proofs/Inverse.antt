-- A format's reader and printer are inverse: what is read is the text of the numbers found, and the text of numbers that fit is
-- read. Assumes nothing.
use Rattle.slices.specs.declared.Reason.TheVariants.{OffLayout}
use Rattle.std.specs.Prelude.{Result, Ok, Err}
use Rattle.slices.specs.declared.Refusal.{Refusal}
use mathlib.Core.Path.{◌≡◌, refl, ap, ap₂, sym, subst, ◌∙◌}
use mathlib.Core.Bool.{Bool, true, false, cond, ◌&&◌}
use mathlib.Core.List.{List, [], ◌∷◌, ◌++◌}
use Prim.Native.Nat.{ℕ, suc, ◌+◌, ◌≤◌}
use native.Mathlib.Omega.{arith}
use lib.Dec.{eqb, ltb}
use lib.ListN.{length, get_or, length-append}
use borrow.Author.Tests.{ltb-true, lt-ltb, le-ltb, eqb-true, eq-eqb, ne_eqb}
use Rattle.slices.specs.declared.Part.{Part}
use Rattle.slices.proofs.Refusals.{never-given, given-was}
use Rattle.slices.specs.Scans.{outside}
use Rattle.slices.proofs.Scans.{inside, not-outside}
use Rattle.slices.proofs.Tests.{and_left, and_right, both}
use Rattle.numbers.specs.declared.Number.{Number}
use Rattle.numbers.specs.Digits.{digits_of, field}
use Rattle.numbers.specs.Numerals.{number_at_value}
use Rattle.numbers.proofs.Canonical.{NumberRead, number_is, number-was}
use Rattle.numbers.proofs.Standing.{At, at-nil, at_one, at-append, at_left, at_right}
use Rattle.format.specs.Format.{Format, done, byte, num, Found, after, refused_at, stands, judged, reading, printed, Takes, Fits}
use Rattle.format.proofs.Results.{after_was}

-- a byte that stands there
pub standing : (t : List ℕ) (c at : ℕ) → stands t c at ≡ true → At t at (c ∷ [])
standing t c at e =
    let z : at + 0 ≡ at = omega arith in
    at_one t at c (omega (arith, ltb-true at (length t) (and_left (ltb at (length t)) (eqb (get_or t at 0) c) e)))
    (ap (λ (k : ℕ). get_or t k 0) z ∙ eqb-true (get_or t at 0) c (and_right (ltb at (length t)) (eqb (get_or t at 0) c) e))

pub stands-there : (t x : List ℕ) (c at : ℕ) → At t at (c ∷ x) → stands t c at ≡ true
stands-there t x c at a =
    let z : at ≡ at + 0 = omega arith in
    both (ltb at (length t)) (eqb (get_or t at 0) c) (lt-ltb at (length t) (omega (arith, a.within)))
    (eq-eqb (get_or t at 0) c (ap (λ (k : ℕ). get_or t k 0) z ∙ a.same 0 (omega arith)))

-- a byte does not stand where another does, nor at the end
pub stands-other : (t x : List ℕ) (c d at : ℕ) → At t at (d ∷ x) → (d ≡ c → ⊥) → stands t c at ≡ false
stands-other t x c d at a h =
    let z : at ≡ at + 0 = omega arith in
    let e : get_or t at 0 ≡ d = ap (λ (k : ℕ). get_or t k 0) z ∙ a.same 0 (omega arith) in
    ap (λ (b : Bool). ltb at (length t) && b) (ne_eqb (get_or t at 0) c (λ q. h (sym e ∙ q))) ∙ never (ltb at (length t))
  where
    never : (b : Bool) → b && false ≡ false
    never true = refl
    never false = refl

pub stands-past : (t : List ℕ) (c at : ℕ) → length t ≤ at → stands t c at ≡ false
stands-past t c at h = ap (λ (b : Bool). b && eqb (get_or t at 0) c) (le-ltb at (length t) h)

-- What was read: numbers that fit, and their text stands there.
pub record Read (t : List ℕ) (f : Format) (at : ℕ) (w : Found) : Type 0 where
  pub fits : Fits f w.values
  pub here : At t at (printed f w.values)
  pub next : w.next ≡ at + length (printed f w.values)

module _ (part : Part) (t : List ℕ) where
  pub reading-was : (f : Format) (at : ℕ) (w : Found) → at ≤ length t → reading part t f at ≡ Ok w → Read t f at w
  unfolding reading printed Fits
  reading-was done at w h d = subst (Read t done at) (given-was d) (record { fits = tt; here = at-nil t at h; next = omega arith })
  reading-was (byte c f) at w h d = by (stands t c at) refl d (reading-was f (at + 1) w)
    where
      by : (b : Bool) → stands t c at ≡ b → cond b (reading part t f (at + 1)) (refused_at OffLayout part at) ≡ Ok w
          → (at + 1 ≤ length t → reading part t f (at + 1) ≡ Ok w → Read t f (at + 1) w) → Read t (byte c f) at w
      by false e k ih = absurd (never-given k)
      by true e k ih =
          let one = standing t c at e in
          let r = ih one.within k in
          record {
            fits = r.fits;
            here = at-append t at (c ∷ []) (printed f w.values) one r.here;
            next = omega (arith, r.next);
          }
  reading-was (num c end f) at w h d = by (number_at_value part t at) refl d (λ v n g. reading-was (f v) n g)
    where
      go : ℕ → ℕ → Result Found Refusal
      go v n = after (v ∷ []) (reading part t (f v) n)

      good : (v n : ℕ) → NumberRead t at v n → outside (c v).low (c v).limit v ≡ false → stands t end n ≡ true → ((g : Found) → n + 1 ≤ length t → reading part t (f v) (n + 1) ≡ Ok g → Read t (f v) (n + 1) g)
          → go v (n + 1) ≡ Ok w → Read t (num c end f) at w
      good v n x o s ih k =
          let one = standing t end n s in
          let a = after_was (v ∷ []) (reading part t (f v) (n + 1)) k in
          let r = ih a.0 one.within a.1 in
          let i = inside (c v).low (c v).limit v o in
          let z : n ≡ n + 0 = omega arith in
          let e : get_or t n 0 ≡ end = ap (λ (m : ℕ). get_or t m 0) z ∙ one.same 0 (omega arith) in
          let takes : Takes (c v) end v = record { low = i.0; high = i.1; small = x.small; ends = ap (outside 48 58) (sym e) ∙ x.ends (omega (arith, one.within)) } in
          let rest = at-append t n (end ∷ []) (printed (f v) a.0.values) one r.here in
          let both = at-append t at (digits_of v) (end ∷ printed (f v) a.0.values) x.here (subst (λ (p : ℕ). At t p (end ∷ printed (f v) a.0.values)) x.next rest) in
          let long : w.next ≡ at + length (digits_of v ++ (end ∷ printed (f v) a.0.values)) = omega (arith, a.3, r.next, x.next, length-append (digits_of v) (end ∷ printed (f v) a.0.values)) in
          subst (λ (l : List ℕ). Read t (num c end f) at (record { values = l; next = w.next })) (sym a.2) (record { fits = (takes, r.fits); here = both; next = long })

      ranged : (v n : ℕ) → NumberRead t at v n → (o : Bool) → outside (c v).low (c v).limit v ≡ o → (b : Bool) → stands t end n ≡ b
          → ((g : Found) → n + 1 ≤ length t → reading part t (f v) (n + 1) ≡ Ok g → Read t (f v) (n + 1) g)
          → cond o (refused_at (c v).reason part at) (cond b (go v (n + 1)) (refused_at OffLayout part n)) ≡ Ok w → Read t (num c end f) at w
      ranged v n x true o b e ih k = absurd (never-given k)
      ranged v n x false o false e ih k = absurd (never-given k)
      ranged v n x false o true e ih k = good v n x o e ih k

      by : (x : Result Number Refusal) → number_at_value part t at ≡ x → judged part t c end at x go ≡ Ok w → ((v n : ℕ) (g : Found) → n ≤ length t → reading part t (f v) n ≡ Ok g → Read t (f v) n g) → Read t (num c end f) at w
      by (Err r) e k ih = absurd (never-given k)
      by (Ok m) e k ih =
          let v = m.value in
          let n = m.next in
          ranged v n (number-was part t at v n e) (outside (c v).low (c v).limit v) refl (stands t end n) refl (λ g. ih v (n + 1) g) k

  pub reading-is : (f : Format) (at : ℕ) (vs : List ℕ) → Fits f vs → At t at (printed f vs) → reading part t f at ≡ Ok (record { values = vs; next = at + length (printed f vs) })
  unfolding reading printed Fits
  reading-is done at [] h a = let z : at ≡ at + 0 = omega arith in ap (λ (n : ℕ). Ok (record { values = []; next = n })) z
  reading-is done at (v ∷ vs) h a = absurd h
  reading-is (byte c f) at vs h a =
      let e : at + 1 + length (printed f vs) ≡ at + suc (length (printed f vs)) = omega arith in
      ap (λ (b : Bool). cond b (reading part t f (at + 1)) (refused_at OffLayout part at)) (stands-there t (printed f vs) c at a)
      ∙ (reading-is f (at + 1) vs h (at_right t at (c ∷ []) (printed f vs) a) ∙ ap (λ (n : ℕ). Ok (record { values = vs; next = n })) e)
  reading-is (num c end f) at [] h a = absurd h
  reading-is (num c end f) at (v ∷ vs) h a =
      ap (λ (x : Result Number Refusal). judged part t c end at x (λ v next. after (v ∷ []) (reading part t (f v) next))) (number_is part t at v end h.0.small h.0.ends reason)
      ∙ (ap₂ (λ (o b : Bool). cond o (refused_at (c v).reason part at) (cond b (after (v ∷ []) (reading part t (f v) (n + 1))) (refused_at OffLayout part n))) (not-outside (c v).low (c v).limit v h.0.low h.0.high) (stands-there t x end n rest)
      ∙ (ap (after (v ∷ [])) (reading-is (f v) (n + 1) vs h.1 (at_right t n (end ∷ []) x rest)) ∙ ap (λ (k : ℕ). Ok (record { values = v ∷ vs; next = k })) long))
    where
      x : List ℕ
      x = printed (f v) vs

      n : ℕ
      n = at + length (digits_of v)

      rest : At t n (end ∷ x)
      rest = at_right t at (digits_of v) (end ∷ x) a

      reason : At t at (field v end)
      reason = at-append t at (digits_of v) (end ∷ []) (at_left t at (digits_of v) (end ∷ x) a) (at_left t n (end ∷ []) x rest)

      long : n + 1 + length x ≡ at + length (digits_of v ++ (end ∷ x))
      long = omega (arith, length-append (digits_of v) (end ∷ x))
