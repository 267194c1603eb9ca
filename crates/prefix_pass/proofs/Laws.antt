-- The call for a pass: however a prefix is cut, taken up from what it holds it comes to the same; it gives the leading state after the
-- prefix exactly when every letter is known, else the position of the first unknown one. Assumes nothing.
use Rattle.std.specs.Prelude.{Result, Ok}
use Rattle.slices.specs.declared.Refusal.{Refusal}
use mathlib.Core.Path.{◌≡◌, refl, ap, sym, ◌∙◌}
use mathlib.Core.List.{List, [], ◌∷◌, ◌++◌, append-nil, append_assoc}
use Prim.Native.Nat.{ℕ, ◌+◌, ◌≤◌}
use native.Mathlib.Omega.{arith}
use lib.ListN.{length}
use Rattle.slices.specs.declared.Part.TheVariants.{First}
use Rattle.slices.specs.Capped.{capped}
use Rattle.slices.specs.Refusals.{Fault, sound, fault, unless}
use Rattle.slices.proofs.Capped.{capped_is}
use Rattle.slices.proofs.Refusals.{gives, given-was, was-given}
use Rattle.fdfa.specs.Words.{Over}
use Rattle.fdfa.specs.Family.{walk}
use Rattle.fdfa.specs.Pass.{Pass, reached, unknown, start, pass_over, joined, FirstUnknown}
use Rattle.fdfa.proofs.Pass.{pass-append, pass-failed, pass-known, pass-unknown, known-pass, unknown-pass, reached-was, unknown-was, never-reached}
use Rattle.packed.specs.Layout.{letter_count, state_count, decode, Valid}
use Rattle.packed.specs.Faults.{sheet_fault}
use Rattle.packed.proofs.Soundness.{sound-valid, valid-sound}
use Rattle.prefix_pass.specs.Parts.{held_in_value, told, passed_of, passed_next, passed_parts}
use Rattle.prefix_pass.specs.Steps.{Within}
use Rattle.prefix_pass.proofs.Telling.{told-on, held-within, within_held, within-told, pass-within}

-- what is told was held
told-reached : (p : Pass) {q j : ℕ} → told p ≡ reached q j → (i : ℕ) × (p ≡ reached q i) × (j ≡ capped i)
told-reached (reached r i) e = let d = reached-was e in (i, ap (λ (q : ℕ). reached q i) d.0, sym d.1)
told-reached (unknown i) e = absurd (never-reached e)

told-unknown : (p : Pass) {j : ℕ} → told p ≡ unknown j → (i : ℕ) × (p ≡ unknown i) × (j ≡ capped i)
told-unknown (reached r i) e = absurd (never-reached (sym e))
told-unknown (unknown i) e = (i, refl, sym (unknown-was e))

-- from the start: the state after the prefix exactly when every letter is known, else the position of the first unknown one
module _ (s : ℕ) (f : ℕ → ℕ → ℕ) (u : List ℕ) where
  pub reached-known : {q i : ℕ} → told (pass_over s f start u) ≡ reached q i → Over s u × (q ≡ walk f 0 u) × (i ≡ capped (length u))
  reached-known {q} {i} e =
      let t = told-reached (pass_over s f start u) e in
      let k = known-pass s f 0 0 u t.1 in
      let all : t.0 ≡ length u = omega (arith, k.2) in
      (k.0, k.1, t.2 ∙ ap capped all)

  known-reached : Over s u → told (pass_over s f start u) ≡ reached (walk f 0 u) (capped (length u))
  known-reached o =
      let all : 0 + length u ≡ length u = omega arith in
      ap told (pass-known s f 0 0 o) ∙ ap (λ (n : ℕ). reached (walk f 0 u) (capped n)) all

  unknown-first : {i : ℕ} → told (pass_over s f start u) ≡ unknown i → (k : ℕ) × FirstUnknown s u k × (i ≡ capped k)
  unknown-first e =
      let t = told-unknown (pass_over s f start u) e in
      let k = unknown-pass s f 0 0 u t.1 in
      let here : t.0 ≡ k.0 = omega (arith, k.2) in
      (k.0, k.1, t.2 ∙ ap capped here)

  first-unknown : (k : ℕ) → FirstUnknown s u k → told (pass_over s f start u) ≡ unknown (capped k)
  first-unknown k h =
      let here : 0 + k ≡ k = omega arith in
      ap told (pass-unknown s f 0 0 u k h) ∙ ap (λ (n : ℕ). unknown (capped n)) here

  -- of a slice, which has fewer letters than a number can tell, the position itself
  pub unknown-here : length u ≤ 18446744073709551615 → {i : ℕ} → told (pass_over s f start u) ≡ unknown i → FirstUnknown s u i
  unknown-here short {i} e =
      let k = unknown-first e in
      let same : i ≡ k.0 = k.2 ∙ capped_is k.0 (omega (arith, k.1.within, short)) in
      rw same k.1

module _ (b : List ℕ) where
  -- of a call that is not refused the sheet is valid
  valid : (p : Pass) (w : List ℕ) {h : Pass} → passed_of b p w ≡ Ok h → Valid b
  valid p w e = sound-valid First b (was-given _ _ (sym e)).0

  -- going on over w after u is going over u and w, from any held value
  pub cut : (p : Pass) (u w : List ℕ) {h : Pass} → passed_of b p u ≡ Ok h → passed_of b h w ≡ passed_of b p (u ++ w)
  cut p u w {h} e = ap (unless (sheet_fault First b)) (on ∙ (told-on s f x w ∙ ap told (sym (pass-append s f (held_in_value n p) u w))))
    where
      s : ℕ
      s = letter_count b

      n : ℕ
      n = state_count b

      f : ℕ → ℕ → ℕ
      f = (decode b).step

      x : Pass
      x = pass_over s f (held_in_value n p) u

      own : h ≡ told x
      own = (was-given (sheet_fault First b) (told x) (sym e)).1

      inside : Within n (told x)
      inside = within-told n x (pass-within (valid p u e).leads (held_in_value n p) u (within_held n p))

      on : told (pass_over s f (held_in_value n h) w) ≡ told (pass_over s f (told x) w)
      on = ap (λ (y : Pass). told (pass_over s f y w)) (ap (held_in_value n) own ∙ held-within n (told x) inside)

  next : (p : Pass) (u w : List ℕ) → passed_next b (passed_of b p u) w ≡ passed_of b p (u ++ w)
  next p u w = by (sheet_fault First b) refl
    where
      by : (x : Fault) → sheet_fault First b ≡ x → passed_next b (passed_of b p u) w ≡ passed_of b p (u ++ w)
      by sound e = let g = sym (gives _ e) in ap (λ (y : Result Pass Refusal). passed_next b y w) g ∙ cut p u w g
      by (fault r) e = rw e

  -- so every way of cutting the prefix comes to the same
  pub cuts : (p : Pass) (w : List ℕ) (ws : List (List ℕ)) → passed_parts b (passed_of b p w) ws ≡ passed_of b p (w ++ joined ws)
  cuts p w [] = ap (passed_of b p) (sym (append-nil w))
  cuts p w (x ∷ ws) =
      ap (λ (y : Result Pass Refusal). passed_parts b y ws) (next p w x)
      ∙ (cuts p (w ++ x) ws ∙ ap (passed_of b p) (append_assoc w x (joined ws)))

  -- a pass that has failed stays so
  pub stays-failed : Valid b → (i : ℕ) → i ≤ 18446744073709551615 → (w : List ℕ) → passed_of b (unknown i) w ≡ Ok (unknown i)
  stays-failed v i h w =
      sym (gives _ (valid-sound First b v))
      ∙ ap Ok (ap told (pass-failed (letter_count b) (decode b).step i w) ∙ ap unknown (capped_is i h))

  -- the call over a whole prefix, from the start
  module _ (u : List ℕ) where
    from_start : Valid b → passed_of b start u ≡ Ok (told (pass_over (letter_count b) (decode b).step start u))
    from_start v =
        sym (gives _ (valid-sound First b v))
        ∙ ap (λ (p : Pass). Ok (told (pass_over (letter_count b) (decode b).step p u))) (held-within (state_count b) start v.header.some_states)

    pub prefix-reached : Valid b → Over (letter_count b) u → passed_of b start u ≡ Ok (reached (walk (decode b).step 0 u) (capped (length u)))
    prefix-reached v o = from_start v ∙ ap Ok (known-reached (letter_count b) (decode b).step u o)

    pub reached-prefix : {q i : ℕ} → passed_of b start u ≡ Ok (reached q i) → Valid b × Over (letter_count b) u × (q ≡ walk (decode b).step 0 u) × (i ≡ capped (length u))
    reached-prefix e =
        let v = valid start u e in
        let k = reached-known (letter_count b) (decode b).step u (given-was (sym (from_start v) ∙ e)) in
        (v, k.0, k.1, k.2)

    pub prefix-unknown : Valid b → (k : ℕ) → FirstUnknown (letter_count b) u k → passed_of b start u ≡ Ok (unknown (capped k))
    prefix-unknown v k h = from_start v ∙ ap Ok (first-unknown (letter_count b) (decode b).step u k h)

    pub unknown-prefix : {i : ℕ} → passed_of b start u ≡ Ok (unknown i) → Valid b × ((k : ℕ) × FirstUnknown (letter_count b) u k × (i ≡ capped k))
    unknown-prefix e =
        let v = valid start u e in
        (v, unknown-first (letter_count b) (decode b).step u (given-was (sym (from_start v) ∙ e)))

  -- and the calls over its parts, however it is cut
  module _ (w : List ℕ) (ws : List (List ℕ)) where
    abbrev whole : List ℕ
    whole = w ++ joined ws

    pub parts-reached : Valid b → Over (letter_count b) whole → passed_parts b (passed_of b start w) ws ≡ Ok (reached (walk (decode b).step 0 whole) (capped (length whole)))
    parts-reached v o = cuts start w ws ∙ prefix-reached whole v o

    pub reached-parts : {q i : ℕ} → passed_parts b (passed_of b start w) ws ≡ Ok (reached q i)
        → Valid b × Over (letter_count b) whole × (q ≡ walk (decode b).step 0 whole) × (i ≡ capped (length whole))
    reached-parts e = reached-prefix whole (sym (cuts start w ws) ∙ e)

    pub parts-unknown : Valid b → (k : ℕ) → FirstUnknown (letter_count b) whole k → passed_parts b (passed_of b start w) ws ≡ Ok (unknown (capped k))
    parts-unknown v k h = cuts start w ws ∙ prefix-unknown whole v k h

    pub unknown-parts : {i : ℕ} → passed_parts b (passed_of b start w) ws ≡ Ok (unknown i) → Valid b × ((k : ℕ) × FirstUnknown (letter_count b) whole k × (i ≡ capped k))
    unknown-parts e = unknown-prefix whole (sym (cuts start w ws) ∙ e)
