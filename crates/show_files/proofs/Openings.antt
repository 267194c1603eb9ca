-- A text that is read has at most 4,096 opening lines, and as many loop lines. Assumes nothing.
use Rattle.slices.specs.declared.Reason.TheVariants.{TooLittleRoom}
use Rattle.std.specs.Prelude.{Result}
use Rattle.slices.specs.declared.Refusal.{Refusal}
use mathlib.Core.Path.{◌≡◌, refl, ap, ◌∙◌}
use mathlib.Core.List.{List}
use Prim.Native.Nat.{ℕ, ◌≤◌}
use native.Mathlib.Omega.{arith}
use lib.Dec.{ltb}
use lib.ListN.{length}
use borrow.Author.Tests.{ltb-false}
use Rattle.slices.specs.declared.Part.TheVariants.{Opening, Loop}
use Rattle.slices.specs.Refusals.{Fault, sound, fault, ◌then◌, when, unless}
use Rattle.slices.proofs.Refusals.{then-left, then-right, when-sound}
use Rattle.lasso_text.specs.Reading.{words_in, text_fault, read_fault, sizes_of}
use Rattle.lasso_text.specs.declared.Lengths.{Lengths}
use Rattle.show_files.specs.Shown.{shown, prefix_in, openings}

module _ (t : List ℕ) where
  m : ℕ
  m = length (words_in (shown t)).prefix

  n : ℕ
  n = length (words_in (shown t)).period

  opening : Fault
  opening = when (ltb 4096 m) TooLittleRoom Opening m

  loop : Fault
  loop = when (ltb 4096 n) TooLittleRoom Loop n

  -- both parts
  pub both-few : read_fault (shown t) 4096 4096 ≡ sound → (length (words_in (shown t)).prefix ≤ 4096) × (length (words_in (shown t)).period ≤ 4096)
  unfolding m n opening loop
  both-few e =
      let d = then-right (text_fault (shown t)) (opening then loop) e in (
        ltb-false 4096 m (when-sound (ltb 4096 m) TooLittleRoom Opening m (then-left opening loop d)),
        ltb-false 4096 n (when-sound (ltb 4096 n) TooLittleRoom Loop n (then-right opening loop d)),
      )

  few : (f : Fault) → read_fault (shown t) 4096 4096 ≡ f → prefix_in (unless f (sizes_of (words_in (shown t)))) ≤ 4096
  few sound e = (both-few e).0
  few (fault r) e = omega arith

  -- what the code counts
  pub counted : {n : ℕ} (r : Result Lengths Refusal) → n ≡ prefix_in r → r ≡ unless (read_fault (shown t) 4096 4096) (sizes_of (words_in (shown t)))
      → (n ≡ openings t) × (n ≤ 4096)
  counted r e h =
      let d = e ∙ ap prefix_in h in
      (d, omega (arith, d, few (read_fault (shown t) 4096 4096) refl))
