-- `buchi_import::filling::put_sheet` meets its contract. Assumes nothing.
use mathlib.Core.Path.{◌≡◌, sym}
use mathlib.Core.List.{List, [], ◌∷◌, ◌++◌}
use Prim.Native.Nat.{ℕ, ◌+◌, ◌*◌, ◌≤◌}
use native.Mathlib.Omega.{arith}
use lib.ListN.{length, get_or}
use Rattle.slices.specs.Tables.{tab, rows, table}
use Rattle.slices.proofs.Tables.{length-tab, table-tab}
use Rattle.fdfa.specs.Buchi.{from_buchi}
use Rattle.packed.specs.Layout.{front_bytes, part_bytes}
use Rattle.numbers.proofs.Stores.{stored-then, stored-as}
use Rattle.buchi_import.specs.Steps.{automaton_in, Stocked}
use Rattle.buchi_import.proofs.Sheets.{few_moves}
use Rattle.buchi_import.proofs.filling.put_sheet.Goals as goal

few : (s n : ℕ) (ts fs : List ℕ) → Stocked s n ts fs → n * s ≤ 512
few s n ts fs h = few_moves h.few_states h.few_letters

-- where the sizes end
sized : (n x y z : ℕ) → n ≤ 16 → x ≡ 1 → y ≡ x + 1 → z ≡ y + length (tab n (λ q. 2 * n)) → z ≤ 18
sized n x y z h a b d = omega (arith, length-tab n (λ q. 2 * n))

pub put_leading-d-requires : goal.put_leading-d-requires
put_leading-d-requires c =
    let h = c.requires in
    (h.moves, few _ _ _ _ h, omega (arith, sized c.args.n _ _ _ h.few_states c.put-a.ensures.next c.put-b.ensures.next c.put_sizes-c.ensures.next), λ i l. omega (arith, h.targets i l, h.few_states))

pub put_parts-requires : goal.put_parts-requires
put_parts-requires c =
    (c.requires, omega (arith, c.put_leading-d.ensures.next, length-tab (c.args.n * c.args.s) (λ i. get_or c.args.targets.now i 0), few _ _ _ _ c.requires, sized c.args.n _ _ _ c.requires.few_states c.put-a.ensures.next c.put-b.ensures.next c.put_sizes-c.ensures.next))

pub returns : goal.returns
returns c =
    let s = c.args.s in
    let n = c.args.n in
    let f = from_buchi (automaton_in s n c.args.targets.now c.args.finals.now) in
    let two = stored-then (s ∷ []) (n ∷ []) c.put-a.ensures c.put-b.ensures in
    let steps = stored-as (sym (table-tab n s (λ i. get_or c.args.targets.now i 0))) c.put_leading-d.ensures in
    stored-then (front_bytes f) (rows n (part_bytes f))
    (stored-then ((s ∷ n ∷ []) ++ tab n f.size) (table n s f.step) (stored-then (s ∷ n ∷ []) (tab n f.size) two c.put_sizes-c.ensures) steps)
    c.put_parts.ensures
