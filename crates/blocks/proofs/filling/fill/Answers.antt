-- `blocks::filling::fill` meets its contract. Assumes nothing.
use native.Mathlib.Omega.{arith}
use Rattle.slices.specs.Tables.{rows}
use Rattle.packed.specs.Layout.{front_bytes, part_bytes}
use Rattle.numbers.proofs.Stores.{stored-then, stored-length}
use Rattle.blocks.specs.Text.{states_in}
use Rattle.blocks.specs.Numbers.{family_of}
use Rattle.blocks.proofs.Measures.{bytes-split}
use Rattle.blocks.proofs.filling.fill.Goals as goal

pub fill_front-w-requires : goal.fill_front-w-requires
fill_front-w-requires c =
    record { readable = c.requires.readable; parts_in_bounds = omega (arith, bytes-split c.args.front.now c.args.parts.now, c.requires.parts_in_bounds) }

pub fill_parts-requires : goal.fill_parts-requires
fill_parts-requires c =
    record { readable = c.requires.readable; parts_in_bounds = omega (arith, bytes-split c.args.front.now c.args.parts.now, c.requires.parts_in_bounds, stored-length c.fill_front-w.ensures, c.fill_front-w.ensures.next) }

pub returns : goal.returns
returns c =
    let F = family_of c.args.front.now c.args.parts.now in
    stored-then (front_bytes F) (rows (states_in c.args.front.now) (part_bytes F)) c.fill_front-w.ensures c.fill_parts.ensures
