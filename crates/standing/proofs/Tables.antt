-- The tables of two valid sheets can be walked where they lie. Assumes nothing.
use mathlib.Core.Path.{◌≡◌, refl, subst}
use mathlib.Core.List.{List}
use Prim.Native.Nat.{ℕ, ◌+◌, ◌*◌, ◌≤◌, ◌<◌}
use native.Mathlib.Omega.{arith}
use lib.Arith.{digits_lt}
use lib.ListN.{length}
use Rattle.fdfa.specs.Words.{Over}
use Rattle.fdfa.specs.Family.{Closed}
use Rattle.fdfa.proofs.Words.{walk-closed, over-take, over-letter}
use Rattle.packed.specs.Layout.{letter_count, state_count, size_of, leading_at, progress_at_value, table_step, Valid}
use Rattle.packed.proofs.Reading.{lead-fits, part_of}
use Rattle.pairing.specs.declared.Beside.{Beside}
use Rattle.pairing.specs.Pairs.{Alike, leads_of, progress_of}
use Rattle.standing.specs.Walks.{WalksWithin}

walkable : (b : List ℕ) (at s m : ℕ) → at + m * s ≤ length b → Closed s m (table_step b at s) → 0 < m → {w : List ℕ} → Over s w → WalksWithin b at s w
walkable b at s m fits closed some o = record {
  inside = λ i h. omega (arith, digits_lt (walk-closed closed some (over-take i o)) (over-letter o i h));
}

-- of one sheet, s being its letters
module _ (b : List ℕ) (v : Valid b) {s : ℕ} (letters : s ≡ letter_count b) {w : List ℕ} (o : Over s w) where
  lead-walkable : WalksWithin b (leading_at b) s w
  lead-walkable =
      rw letters (walkable b (leading_at b) (letter_count b) (state_count b) (lead-fits b v) v.leads v.header.some_states (subst (λ (s : ℕ). Over s w) letters o))

  progress-walkable : {q : ℕ} → q < state_count b → WalksWithin b (progress_at_value b q) s w
  progress-walkable {q} h =
      rw letters
      (walkable b (progress_at_value b q) (letter_count b) (size_of b q) (omega (arith, (part_of b v q h).within)) (v.progresses q h) (v.header.some_size q h) (subst (λ (s : ℕ). Over s w) letters o))

-- of both
module _ {b c : List ℕ} (A : Alike b c) {w : List ℕ} (o : Over (letter_count b) w) where
  abbrev Both : Beside → Type 0
  Both t = WalksWithin b t.first t.letters w × WalksWithin c t.second t.letters w

  pub leads-walkable : {t : Beside} → t ≡ leads_of b c → Both t
  leads-walkable e = rw e (lead-walkable b A.first refl o, lead-walkable c A.second A.letters o)

  pub progress-both : {t : Beside} {p q : ℕ} → t ≡ progress_of b c p q → p < state_count b → q < state_count c → Both t
  progress-both e h l = rw e (progress-walkable b A.first refl o h, progress-walkable c A.second A.letters o l)
