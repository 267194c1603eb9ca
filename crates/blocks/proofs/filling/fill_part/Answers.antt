-- `blocks::filling::fill_part` meets its contract. Assumes nothing.
use mathlib.Core.Path.{sym, subst}
use Prim.Native.Nat.{ℕ, ◌+◌, ◌*◌, ◌<◌}
use native.Mathlib.Omega.{arith}
use lib.ListN.{get_or}
use Rattle.slices.specs.Tables.{tab, table}
use Rattle.slices.proofs.Tables.{length-table, tab-same}
use Rattle.packed.proofs.Packing.{part_length}
use Rattle.numbers.proofs.Stores.{stored-then, stored-as, stored-length}
use Rattle.blocks.proofs.Gathered.{column-entry, column-within}
use Rattle.blocks.proofs.filling.fill_part.Goals as goal

pub fill_table-w-requires : goal.fill_table-w-requires
fill_table-w-requires c =
    record {
      at_bound = (c.requires.at_bound.0, omega arith, c.requires.at_bound.1, c.requires.at_bound.2, omega (arith, c.requires.at_bound.3, part_length c.args.k c.args.s));
      head_in_bounds = c.requires.at_bound.4;
      by_index = c.requires.by_index;
    }

pub gather-requires : goal.gather-requires
gather-requires c =
    let next : ℕ → ℕ → ℕ =
    λ p a. get_or c.args.parts.now (c.args.at + (p * (c.args.s + 3) + (3 + a))) 0 in
    record {
      at_bound = (
        omega (arith, c.requires.at_bound.0),
        omega (arith, c.requires.at_bound.1),
        omega (arith, c.requires.at_bound.2),
        omega (arith, c.requires.at_bound.3, part_length c.args.k c.args.s, c.fill_table-w.ensures.next, length-table c.args.k c.args.s next, stored-length c.fill_table-w.ensures),
      );
      by_index = λ i h. (
        column-within c.args.parts.now c.args.at 2 (c.args.s + 3) c.args.k i h (omega arith) c.requires.at_bound.4,
        subst (λ (x : ℕ). x < 256) (sym (column-entry c.args.parts.now c.args.at 2 (c.args.s + 3) i)) (c.requires.by_index_2 i h),
      );
    }

pub returns : goal.returns
returns c =
    let next : ℕ → ℕ → ℕ =
    λ p a. get_or c.args.parts.now (c.args.at + (p * (c.args.s + 3) + (3 + a))) 0 in
    let marks : ℕ → ℕ =
    λ p. get_or c.args.parts.now (c.args.at + (p * (c.args.s + 3) + 2)) 0 in
    stored-then (table c.args.k c.args.s next) (tab c.args.k marks) c.fill_table-w.ensures
    (stored-as (tab-same c.args.k (λ i. get_or c.args.parts.now (c.args.at + 2 + i * (c.args.s + 3)) 0) marks (λ i h. column-entry c.args.parts.now c.args.at 2 (c.args.s + 3) i)) c.gather.ensures)
