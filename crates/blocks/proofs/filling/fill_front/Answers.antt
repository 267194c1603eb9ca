-- `blocks::filling::fill_front` meets its contract. Assumes nothing.
use mathlib.Core.Path.{◌≡◌, refl}
use mathlib.Core.List.{List, [], ◌∷◌, ◌++◌}
use Prim.Native.Nat.{ℕ, ◌+◌, ◌*◌, ◌≤◌}
use native.Mathlib.Omega.{arith}
use lib.ListN.{length, get_or, set}
use Rattle.slices.specs.Tables.{tab, table}
use Rattle.slices.proofs.Tables.{length-tab}
use Rattle.packed.specs.Layout.{front_bytes}
use Rattle.numbers.proofs.Stores.{stored-then, stored-as, stored-length}
use Rattle.blocks.specs.Text.{letters_in, states_in}
use Rattle.blocks.specs.Numbers.{family_of}
use Rattle.blocks.specs.Values.{Readable}
use Rattle.blocks.proofs.Measures.{front-few}
use Rattle.blocks.proofs.Gathered.{front-size, front-is, pair-stored, pair-length}
use Rattle.blocks.proofs.filling.fill_front.Goals as goal

module _ {front parts : List ℕ} {s n : ℕ} (h : Readable front parts × (s ≡ letters_in front) × (n ≡ states_in front)) where
  few : (s ≤ 32) × (n ≤ 32) × (n * s ≤ 1024)
  few = front-few front parts h.0 s n h.1 h.2

  -- the room that is there after the first two cells
  room : (out : List ℕ) → length (front_bytes (family_of front parts)) ≤ length out → 2 + n + n * s ≤ length (set (set out 0 s) 1 n)
  room out l = omega (arith, front-size front parts h.0 s h.1 n h.2, pair-length out s n)

pub gather-w-requires-clause-at_bound : goal.gather-w-requires-clause-at_bound
gather-w-requires-clause-at_bound c =
    let f = few c.requires.readable in
    (omega arith, omega (arith, f), omega (arith, f), omega (arith, room c.requires.readable c.args.out.now c.requires.parts_in_bounds))

pub fill_table-requires-clause-at_bound : goal.fill_table-requires-clause-at_bound
fill_table-requires-clause-at_bound c =
    let sizes : ℕ → ℕ = λ q. get_or c.args.front.now (4 + q * (c.args.s + 2)) 0 in
    let f = few c.requires.readable in (
      omega arith,
      omega arith,
      f.0,
      f.1,
      omega (
        arith,
        room c.requires.readable c.args.out.now c.requires.parts_in_bounds,
        stored-length c.gather-w.ensures,
        c.gather-w.ensures.next,
        length-tab c.args.n sizes,
      ),
    )

pub returns : goal.returns
returns c =
    let sizes : ℕ → ℕ = λ q. get_or c.args.front.now (4 + q * (c.args.s + 2)) 0 in
    let steps : ℕ → ℕ → ℕ = λ q a. get_or c.args.front.now (3 + (q * (c.args.s + 2) + (2 + a))) 0 in
    let two = pair-stored c.args.out.now {s = c.args.s} {n = c.args.n} refl refl in
    stored-as (front-is c.args.front.now c.args.parts.now c.requires.readable.0 c.args.s c.requires.readable.1 c.args.n c.requires.readable.2)
    (stored-then ((c.args.s ∷ c.args.n ∷ []) ++ tab c.args.n sizes) (table c.args.n c.args.s steps)
    (stored-then (c.args.s ∷ c.args.n ∷ []) (tab c.args.n sizes) two c.gather-w.ensures) c.fill_table.ensures)
