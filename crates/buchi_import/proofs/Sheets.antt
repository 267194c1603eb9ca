-- The packed sheet of an automaton's family: how long it is, what its cells say, and that automata that are the same have one. Assumes nothing.
use mathlib.Core.Path.{◌≡◌, ap₂, ◌∙◌}
use Prim.Native.Nat.{ℕ, ◌+◌, ◌*◌, ◌≤◌}
use native.Mathlib.Omega.{arith}
use native.Mathlib.Nat.{mul-le-mul}
use lib.ListN.{length, length-append}
use Rattle.slices.specs.Tables.{rows}
use Rattle.slices.proofs.Tables.{sum_same, sum-even, length-rows}
use Rattle.fdfa.specs.Buchi.{Dba, CompleteDba, SameDba, from_buchi}
use Rattle.fdfa.proofs.BuchiPairs.{buchi-agrees}
use Rattle.packed.specs.Layout.{front_bytes, part_bytes, pack}
use Rattle.packed.proofs.Bounds.{few-both, part-few}
use Rattle.packed.proofs.Packing.{length_front, length_part, pack-same}

-- products of the counts
pub few_moves : {n s : ℕ} → n ≤ 16 → s ≤ 32 → n * s ≤ 512
few_moves p q = mul-le-mul p q

pub few_pairs : {n s : ℕ} → n ≤ 16 → s ≤ 32 → 2 * n * s ≤ 1024
few_pairs {n} {s} p q = few-both (omega arith) q

pub few-part : {n s : ℕ} → n ≤ 16 → s ≤ 32 → 2 * n * (s + 1) ≤ 1056
few-part {n} {s} p q = part-few (omega arith) q

pub few-parts : {q n s : ℕ} → q ≤ 16 → n ≤ 16 → s ≤ 32 → q * (2 * n * (s + 1)) ≤ 16896
few-parts {q} {n} {s} h p l = mul-le-mul h (few-part {n = n} {s = s} p l)

-- how long the parts are, and the whole
pub parts-long : (D : Dba) (q : ℕ) → length (rows q (part_bytes (from_buchi D))) ≡ q * (2 * D.states * (D.letters + 1))
parts-long D q =
    length-rows q (part_bytes (from_buchi D))
    ∙ (sum_same q (λ r. length (part_bytes (from_buchi D) r)) (λ r. 2 * D.states * (D.letters + 1)) (λ r h. length_part (from_buchi D) r) ∙ sum-even q (2 * D.states * (D.letters + 1)))

pub sheet-long : (s n : ℕ) (D : Dba) → D.letters ≡ s → D.states ≡ n → length (pack (from_buchi D)) ≡ 2 + n + n * s + n * (2 * n * (s + 1))
sheet-long s n D e d =
    length-append (front_bytes (from_buchi D)) (rows D.states (part_bytes (from_buchi D)))
    ∙ (ap₂ (λ (x y : ℕ). x + y) (length_front (from_buchi D)) (parts-long D D.states) ∙ (λ i. 2 + d i + d i * e i + d i * (2 * d i * (e i + 1))))

-- automata that are the same have one packed form
pub same-pack : (D E : Dba) → CompleteDba D → SameDba D E → pack (from_buchi D) ≡ pack (from_buchi E)
same-pack D E complete same = pack-same (from_buchi D) (from_buchi E) (buchi-agrees D complete E same)
