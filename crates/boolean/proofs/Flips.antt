-- The part of a leading state with its marks flipped is its part in the complement. Assumes nothing.
use mathlib.Core.Path.{◌≡◌, refl, ap, ap₂, sym, ◌∙◌}
use mathlib.Core.Bool.{Bool, not}
use mathlib.Core.List.{List, ◌++◌, append-nil, append_assoc}
use Prim.Native.Nat.{ℕ, ◌+◌, ◌*◌, ◌-◌, ◌<◌}
use native.Mathlib.Omega.{arith}
use lib.Dec.{eqb}
use lib.ListN.{length, take, drop, length-append}
use lib.Seq.{take_at, drop_at}
use Rattle.fdfa.specs.Family.{Fdfa}
use Rattle.fdfa.specs.Boolean.{complement}
use Rattle.slices.specs.Filling.{written}
use Rattle.slices.proofs.Filling.{Begun, written-again, rows_next}
use Rattle.slices.specs.Tables.{tab, rows, table}
use Rattle.packed.specs.Layout.{letter_count, state_count, size_of, progress_at_value, decode, mark, front_bytes, part_bytes, Valid}
use Rattle.slices.proofs.Tables.{get_or-tab, tab-same, sum_same, length-rows, length-table}
use Rattle.packed.proofs.Packing.{mark-says, part_length, length_part, length_front, part-of-bytes}
use Rattle.boolean.specs.Operations.{complement_bytes}
use Rattle.boolean.specs.Pieces.{flipped_mark, flipped_part}

flipped-bytes : (F : Fdfa) (q : ℕ) → flipped_part (part_bytes F q) (F.size q * F.letters) ≡ part_bytes (complement F) q
flipped-bytes F q =
    ap₂ (λ (x y : List ℕ). x ++ y) (take_at next marks (F.size q * F.letters) long)
    (ap₂ (λ (m : ℕ) (l : List ℕ). tab m (flipped_mark l)) count (drop_at next marks (F.size q * F.letters) long)
    ∙ tab-same (F.size q) (flipped_mark marks) (λ p. mark (not (F.accepting q p))) (λ p h. ap (λ (x : ℕ). mark (not (eqb x 1))) (get_or-tab (F.size q) _ p h) ∙ ap (λ (t : Bool). mark (not t)) (mark-says (F.accepting q p))))
  where
    next : List ℕ
    next = table (F.size q) F.letters (F.progress q)

    marks : List ℕ
    marks = tab (F.size q) (λ p. mark (F.accepting q p))

    long : length next ≡ F.size q * F.letters
    long = length-table (F.size q) F.letters (F.progress q)

    count : length (part_bytes F q) - F.size q * F.letters ≡ F.size q
    count = omega (arith, length_part F q, part_length (F.size q) F.letters)

-- as the part is lent from the sheet
pub flipped-part : (b : List ℕ) → Valid b → {q at end k s : ℕ} → q < state_count b → at ≡ progress_at_value b q → k ≡ size_of b q → s ≡ letter_count b → end ≡ at + k * s + k
    → flipped_part (take (end - at) (drop at b)) (k * s) ≡ part_bytes (complement (decode b)) q
flipped-part b v {q} {at} {end} {k} {s} h ea ek es ee =
    ap₂ flipped_part (ap (λ (m : ℕ). take m (drop at b)) long ∙ ((λ i. take (ek i * es i + ek i) (drop (ea i) b)) ∙ part-of-bytes b v q h)) (λ i. ek i * es i)
    ∙ flipped-bytes (decode b) q
  where
    long : end - at ≡ k * s + k
    long = omega arith

-- the complement as far as the parts of q leading states
abbrev pub done : List ℕ → ℕ → List ℕ
done b q = front_bytes (complement (decode b)) ++ rows q (part_bytes (complement (decode b)))

pub done-length : (b : List ℕ) (q : ℕ) → length (done b q) ≡ progress_at_value b q
unfolding progress_at_value
done-length b q =
    length-append (front_bytes (decode b)) (rows q (part_bytes (complement (decode b))))
    ∙ ap₂ (λ (x y : ℕ). x + y) (length_front (decode b))
    (length-rows q (part_bytes (complement (decode b))) ∙ sum_same q _ _ (λ r h. length_part (complement (decode b)) r))

pub done_next : (b : List ℕ) (q : ℕ) → done b q ++ part_bytes (complement (decode b)) q ≡ done b (q + 1)
done_next b q =
    append_assoc (front_bytes (decode b)) (rows q (part_bytes (complement (decode b)))) (part_bytes (complement (decode b)) q)
    ∙ ap (λ (l : List ℕ). front_bytes (decode b) ++ l) (rows_next (part_bytes (complement (decode b))) q)

pub done_first : (b : List ℕ) → front_bytes (complement (decode b)) ≡ done b 0
unfolding rows
done_first b = sym (append-nil (front_bytes (decode b)))

-- a slice that holds the first cells is filled with them already
pub begun-again : {d out : List ℕ} (old : List ℕ) → out ≡ written d old → Begun d out out
begun-again {d} {out} old e = record { cells = e ∙ (sym (written-again d d old (omega arith)) ∙ ap (written d) (sym e)); same = refl }

-- the complement is as long as the sheet
pub complement-length : (b : List ℕ) → Valid b → length (complement_bytes b) ≡ length b
complement-length b v = done-length b (state_count b) ∙ sym v.exact
