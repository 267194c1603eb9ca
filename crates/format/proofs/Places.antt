-- The place of a refusal is the definition's; these laws bound it: it lies at or after the place where reading began, and of two formats
-- in a row the second is refused no earlier than where the first ended. Assumes nothing.
use Rattle.slices.specs.declared.Reason.{Reason}
use Rattle.slices.specs.declared.Reason.TheVariants.{OffLayout}
use Rattle.std.specs.Prelude.{Result, Ok, Err}
use mathlib.Core.Path.{◌≡◌, refl, ap, sym, subst, ◌∙◌}
use mathlib.Core.Bool.{Bool, true, false, cond}
use mathlib.Core.List.{List, [], ◌∷◌}
use Prim.Native.Nat.{ℕ, ◌+◌, ◌≤◌}
use native.Mathlib.Omega.{arith}
use lib.ListN.{length}
use Rattle.slices.specs.declared.Part.{Part}
use Rattle.slices.specs.declared.Refusal.{Refusal}
use Rattle.slices.proofs.Refusals.{never-given, refused-was}
use Rattle.slices.specs.Scans.{outside}
use Rattle.numbers.specs.declared.Number.{Number}
use Rattle.numbers.specs.Numerals.{number_at_value}
use Rattle.numbers.proofs.Canonical.{NumberRead, number-was, refused-within}
use Rattle.format.specs.Format.{Format, done, byte, num, Found, after, refused_at, stands, judged, reading, seq}
use Rattle.format.proofs.Results.{chain}
use Rattle.format.proofs.Sequences.{onward, reading-seq}
use Rattle.format.proofs.Inverse.{standing, reading-was}

-- The place of a refusal lies from a place on, within the text.
abbrev pub From : List ℕ → ℕ → Refusal → Type 0
From t at r = (at ≤ r.place) × (r.place ≤ length t)

module _ (part : Part) (t : List ℕ) where
  here : (k : Reason) (at : ℕ) {r : Refusal} → at ≤ length t → refused_at {A = Found} k part at ≡ Err r → From t at r
  here k at h e = subst (From t at) (refused-was e) (omega arith, h)

  after-refused : (d : List ℕ) (x : Result Found Refusal) {r : Refusal} → after d x ≡ Err r → x ≡ Err r
  after-refused d (Ok w) e = absurd (never-given (sym e))
  after-refused d (Err s) e = e

  pub refused-from : (f : Format) (at : ℕ) (r : Refusal) → at ≤ length t → reading part t f at ≡ Err r → From t at r
  unfolding reading
  refused-from done at r h d = absurd (never-given (sym d))
  refused-from (byte c f) at r h d = by (stands t c at) refl d (refused-from f (at + 1) r)
    where
      by : (b : Bool) → stands t c at ≡ b → cond b (reading part t f (at + 1)) (refused_at OffLayout part at) ≡ Err r → (at + 1 ≤ length t → reading part t f (at + 1) ≡ Err r → From t (at + 1) r) → From t at r
      by false e k ih = here OffLayout at h k
      by true e k ih = let p = ih (standing t c at e).within k in (omega (arith, p.0), p.1)
  refused-from (num c end f) at r h d = by (number_at_value part t at) refl d (λ v n. refused-from (f v) n r)
    where
      go : ℕ → ℕ → Result Found Refusal
      go v n = after (v ∷ []) (reading part t (f v) n)

      ranged : (v n : ℕ) → NumberRead t at v n → (o : Bool) → (b : Bool) → stands t end n ≡ b → (n + 1 ≤ length t → reading part t (f v) (n + 1) ≡ Err r → From t (n + 1) r)
          → cond o (refused_at (c v).reason part at) (cond b (go v (n + 1)) (refused_at OffLayout part n)) ≡ Err r → From t at r
      ranged v n x true b e ih k = here (c v).reason at h k
      ranged v n x false false e ih k =
          let p = here OffLayout n (omega (arith, x.next, x.here.within)) k in (omega (arith, p.0, x.next), p.1)
      ranged v n x false true e ih k =
          let p = ih (standing t end n e).within (after-refused (v ∷ []) (reading part t (f v) (n + 1)) k) in (omega (arith, p.0, x.next), p.1)

      by : (x : Result Number Refusal) → number_at_value part t at ≡ x → judged part t c end at x go ≡ Err r → ((v n : ℕ) → n ≤ length t → reading part t (f v) n ≡ Err r → From t n r) → From t at r
      by (Err s) e k ih = subst (From t at) (refused-was k) (refused-within part t at s e h)
      by (Ok m) e k ih =
          let v = m.value in
          let n = m.next in
          ranged v n (number-was part t at v n e) (outside (c v).low (c v).limit v) (stands t end n) refl (ih v (n + 1)) k

  -- of two formats in a row, the second is refused no earlier than where the first ended
  pub second-refused : (f : Format) (g : List ℕ → Format) (at : ℕ) (w : Found) (r : Refusal) → at ≤ length t → reading part t f at ≡ Ok w → reading part t (seq f g) at ≡ Err r → From t w.next r
  second-refused f g at w r h e d =
      let x = reading-was part t f at w h e in
      refused-from (g w.values) w.next r (omega (arith, x.next, x.here.within))
      (after-refused w.values _ (ap (λ (z : Result Found Refusal). chain z (onward part t g)) (sym e) ∙ (sym (reading-seq part t f g at) ∙ d)))
