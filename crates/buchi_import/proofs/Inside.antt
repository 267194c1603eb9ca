-- Transitions that were read end within the text, and are at most 16 for each letter. Assumes nothing.
use Rattle.std.specs.Prelude.{Ok}
use mathlib.Core.Path.{◌≡◌, ap}
use mathlib.Core.List.{List}
use Prim.Native.Nat.{ℕ, ◌*◌, ◌≤◌}
use native.Mathlib.Omega.{arith}
use lib.ListN.{length}
use Rattle.slices.specs.declared.Part.TheVariants.{First}
use Rattle.format.specs.Format.{Found}
use Rattle.format.specs.Lines.{repeats, repeated}
use Rattle.format.proofs.Inverse.{Read}
use Rattle.format.proofs.Chained.{chained-was}
use Rattle.buchi_import.specs.Reading.{transition, transitions, of_start, move_count, letters_in}
use Rattle.buchi_import.proofs.Transitions.{Shape, shape, moves-begin}
use Rattle.buchi_import.proofs.Moving.{move-count}

module _ (limit : ℕ) (t : List ℕ) (at : ℕ) (h : at ≤ length t) (w : Found) (e : repeated First t 115 (transitions limit) at ≡ Ok w) where
  m : ℕ
  m = repeats First t 115 (transitions limit) at

  was : Read t (transitions limit m) at w
  unfolding m transitions
  was = chained-was (λ i vs. transition limit i (of_start i vs)) 115 (moves-begin limit) t at First w h e

  turns : Shape limit m w.values
  turns = shape limit m w.values was.fits

  pub moves-within : (w.next ≤ length t) × (move_count w.values ≤ 16 * letters_in w.values)
  moves-within =
      let c : move_count w.values ≡ m = move-count m w.values turns.long in
      (omega (arith, was.next, was.here.within), omega (arith, turns.few_moves, c, ap (λ (k : ℕ). of_start k w.values) c))
