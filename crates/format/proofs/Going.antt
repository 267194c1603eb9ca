-- Repetition without a known count, as a loop reads it: over the format g m of m steps. Assumes nothing.
use Rattle.std.specs.Prelude.{Ok, Err}
use mathlib.Core.Path.{◌≡◌, ap, sym, ◌∙◌}
use mathlib.Core.Bool.{true, false, not, true≢false}
use mathlib.Core.List.{List, []}
use Prim.Native.Nat.{ℕ, ◌+◌, ◌≤◌, ◌<◌}
use native.Mathlib.Omega.{arith}
use native.Mathlib.Decide.{ℕ_discrete}
use lib.ListN.{length}
use Rattle.slices.specs.declared.Part.{Part}
use Rattle.slices.specs.declared.Refusal.{Refusal}
use Rattle.slices.proofs.Extremes.{least-is}
use Rattle.format.specs.Format.{Format, stands, reading}
use Rattle.format.specs.Lines.{stops, repeats, repeated}

-- i steps were read, to the place p; at no count before did it stop.
pub record Going (part : Part) (t : List ℕ) (c : ℕ) (g : ℕ → Format) (at i p : ℕ) (vs : List ℕ) : Type 0 where
  pub says : reading part t (g i) at ≡ Ok (record { values = vs; next = p })
  pub inside : p ≤ length t
  pub ahead : at + i ≤ p
  pub before : (j : ℕ) → j < i → stops t c (reading part t (g j) at) ≡ true → ⊥

module _ (part : Part) (t : List ℕ) (c : ℕ) (g : ℕ → Format) (at : ℕ) where
  pub going-none : at ≤ length t → reading part t (g 0) at ≡ Ok (record { values = []; next = at }) → Going part t c g at 0 at []
  going-none h e = record { says = e; inside = h; ahead = omega arith; before = λ j l. absurd (omega arith) }

  -- m is the first count at which it stops
  pub repeated-here : (m : ℕ) → m < length t + 2 → ((j : ℕ) → j < m → stops t c (reading part t (g j) at) ≡ true → ⊥)
      → stops t c (reading part t (g m) at) ≡ true → repeated part t c g at ≡ reading part t (g m) at
  unfolding repeated repeats
  repeated-here m h b e = ap (λ (k : ℕ). reading part t (g k) at) (least-is (length t + 2) _ m h b e)

module _ {part : Part} {t : List ℕ} {c : ℕ} {g : ℕ → Format} {at i p : ℕ} {vs : List ℕ} (s : Going part t c g at i p vs) where
  -- the next one begins, so that no count up to here is the last
  goes : stands t c p ≡ true → (j : ℕ) → j < i + 1 → stops t c (reading part t (g j) at) ≡ true → ⊥
  goes b j l e = by (ℕ_discrete j i)
    where
      by : Dec (j ≡ i) → ⊥
      by (yes q) = true≢false (sym e ∙ (ap (λ (k : ℕ). stops t c (reading part t (g k) at)) q ∙ (ap (stops t c) s.says ∙ ap not b)))
      by (no q) = s.before j (omega arith) e

  pub going_more : {e : ℕ} {ws : List ℕ} → stands t c p ≡ true → reading part t (g (i + 1)) at ≡ Ok (record { values = ws; next = e }) → p < e → e ≤ length t → Going part t c g at (i + 1) e ws
  going_more b d l h = record { says = d; inside = h; ahead = omega (arith, s.ahead); before = goes b }

  -- where the next one does not begin
  pub going-all : stands t c p ≡ false → repeated part t c g at ≡ Ok (record { values = vs; next = p })
  going-all b = repeated-here part t c g at i (omega (arith, s.ahead, s.inside)) s.before (ap (stops t c) s.says ∙ ap not b) ∙ s.says

  pub going-refused : {x : Refusal} → stands t c p ≡ true → reading part t (g (i + 1)) at ≡ Err x → repeated part t c g at ≡ Err x
  going-refused b e = repeated-here part t c g at (i + 1) (omega (arith, s.ahead, s.inside)) (goes b) (ap (stops t c) e) ∙ e
