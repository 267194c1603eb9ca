-- The loop of `slices::halving::halves`.
use Rattle.std.specs.Iterator.Adapters.{enumerate_source, enumerate_count}
use Rattle.std.specs.Slice.Iter.{chunks_exact_rest, chunks_exact_size}
use Rattle.slices.proofs.Halved.{Paired}
use Rattle.slices.proofs.halving.halves.Given as goal

abbrev pub invariant-loop-i : goal.invariant-loop-i
invariant-loop-i l =
    let pairs = enumerate_source l.i-iterator in
    Paired l.bytes l.initial.cells l.cells (enumerate_count l.i-iterator) (chunks_exact_size pairs) (chunks_exact_rest pairs)
