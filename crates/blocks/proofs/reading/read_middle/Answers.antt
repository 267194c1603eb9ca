-- `blocks::reading::read_middle` meets its contract. Assumes nothing.
use Rattle.slices.proofs.Refusals.{handed}
use mathlib.Core.Path.{◌≡◌, ◌∙◌}
use mathlib.Core.List.{List}
use Prim.Native.Nat.{ℕ}
use native.Mathlib.Omega.{arith}
use lib.ListN.{get_or, take}
use Rattle.slices.specs.declared.Part.TheVariants.{First}
use Rattle.format.specs.Format.{Fits}
use Rattle.format.proofs.Following.{got}
use Rattle.blocks.specs.Text.{counts_format}
use Rattle.blocks.proofs.Shapes.{Counts, counts-was}
use Rattle.blocks.proofs.BlocksRead.{few, leading-room, first_count, without-seconds, with-leading}
use Rattle.blocks.proofs.reading.read_middle.Goals as goal

-- the three numbers that were read are the counts
record Counted (front : List ℕ) (level s n : ℕ) : Type 0 where
  counts : Counts (take 3 front)
  el : level ≡ get_or (take 3 front) 0 0
  es : s ≡ get_or (take 3 front) 1 0
  en : n ≡ get_or (take 3 front) 2 0

counted : {front : List ℕ} {level s n : ℕ} → Fits counts_format (take 3 front) → level ≡ get_or front 0 0 → s ≡ get_or front 1 0 → n ≡ get_or front 2 0 → Counted front level s n
counted {front} f el es en =
    record {
      counts = counts-was (take 3 front) f;
      el = el ∙ first_count front 0 (omega arith);
      es = es ∙ first_count front 1 (omega arith);
      en = en ∙ first_count front 2 (omega arith);
    }

pub read_seconds-requires : goal.read_seconds-requires
read_seconds-requires c =
    let k = counted c.requires.1 c.from-level.ensures c.from-s.ensures c.from-n.ensures in
    (c.requires.0, (few c.args.text.now c.args.front.now c.args.seconds.now c.args.at k.counts c.requires.2 k.el k.es k.en).0, c.requires.3)

pub read_leading-requires : goal.read_leading-requires
read_leading-requires c =
    let k = counted c.requires.1 c.from-level.ensures c.from-s.ensures c.from-n.ensures in
    let f = few c.args.text.now c.args.front.now c.args.seconds.now c.args.at k.counts c.requires.2 k.el k.es k.en in
    ((got First c.args.text.now _ c.args.at c.read_seconds.ensures c.requires.0 c.in_ok-e.was).inside, f.0, f.1, leading-room c.args.text.now c.args.front.now c.args.seconds.now c.args.at k.counts c.requires.2 k.el k.es k.en)

pub returns-in_err-e : goal.returns-in_err-e
returns-in_err-e c = rw (handed c.from_residual.ensures)
    (let k = counted c.requires.1 c.from-level.ensures c.from-s.ensures c.from-n.ensures in
    without-seconds c.args.text.now c.args.front.now c.args.seconds.now c.args.at k.counts c.requires.2 k.el k.es k.en c.read_seconds.ensures c.in_err-e.was)

pub returns : goal.returns
returns c =
    let k = counted c.requires.1 c.from-level.ensures c.from-s.ensures c.from-n.ensures in
    with-leading c.args.text.now c.args.front.now c.args.seconds.now c.args.at k.counts c.requires.2 k.el k.es k.en (got First c.args.text.now _ c.args.at c.read_seconds.ensures c.requires.0 c.in_ok-e.was) c.read_leading.ensures
