-- `running_sheet::writing::put_start` meets its contract. Assumes nothing.
use mathlib.Core.Path.{◌≡◌, refl, ap, sym, ◌∙◌}
use mathlib.Core.List.{List, ◌++◌, append_assoc}
use Prim.Native.Nat.{ℕ, ◌+◌, ◌≤◌}
use native.Mathlib.Omega.{arith}
use lib.ListN.{length, take, drop}
use lib.Seq.{drop-drop, sets, sets-eq}
use borrow.Rule.Slice.PartMut.{put_mid}
use Rattle.running_sheet.proofs.writing.put_start.Goals as goal

-- a part that was lent and is x now
copied : (old : List ℕ) (at : ℕ) {k : ℕ} {x y : List ℕ} → y ≡ x → k ≡ length x → at + length x ≤ length old → put_mid at k old y ≡ sets old at x
copied old at {k} {x} {y} d e h =
    (λ i. take at old ++ (d i ++ (drop-drop k at old ∙ ap (λ (n : ℕ). drop (at + n) old) e) i))
    ∙ (sym (append_assoc (take at old) x _) ∙ sym (sets-eq x old at h))

pub returns : goal.returns
returns c = record { cells = copied c.args.out.now c.args.at c.copy_from_slice.ensures.after (omega arith) c.requires; next = refl }
