-- `blocks::reading::read_progress` meets its contract. Assumes nothing.
use Rattle.slices.proofs.Refusals.{handed}
use mathlib.Core.Path.{◌≡◌, refl, sym, ◌∙◌}
use mathlib.Core.List.{List}
use Prim.Native.Nat.{ℕ}
use native.Mathlib.Omega.{arith}
use Rattle.slices.specs.declared.Part.TheVariants.{First}
use Rattle.format.specs.Format.{Format, reading, each}
use Rattle.format.proofs.Following.{reads-refused, reads_as, step-refused, step-within, step_given}
use Rattle.blocks.specs.Text.{progress_title, part_format, progress_format, size_in, parts_format}
use Rattle.blocks.proofs.Shapes.{fixed-head, front-was}
use Rattle.blocks.proofs.reading.read_progress.Goals as goal

pub read_head-requires : goal.read_head-requires
read_head-requires c = (c.requires.0, omega (arith, (front-was c.args.front.now c.requires.1).few_letters, c.requires.2))

pub read_parts-requires : goal.read_parts-requires
read_parts-requires c =
    let parts : List ℕ → Format =
    λ vs. each c.args.n (λ q. part_format c.args.s (size_in c.args.front.now q) q) in
    (step-within First c.args.text.now (fixed-head progress_title c.args.s) parts c.args.at c.read_head.ensures c.requires.0 c.in_ok-e.was, c.requires.1, c.requires.2, c.requires.3, c.requires.4)

pub returns-in_err-e : goal.returns-in_err-e
unfolding parts_format
returns-in_err-e c = rw (handed c.from_residual.ensures)
    (let parts : List ℕ → Format =
    λ vs. each c.args.n (λ q. part_format c.args.s (size_in c.args.front.now q) q) in
    let same : reading First c.args.text.now (parts_format c.args.front.now) c.args.at ≡ reading First c.args.text.now (progress_format c.args.s c.args.n (size_in c.args.front.now)) c.args.at =
    λ i. reading First c.args.text.now (progress_format (sym c.requires.2 i) (sym c.requires.3 i) (size_in c.args.front.now)) c.args.at in
    reads-refused refl (same ∙ step-refused First c.args.text.now (fixed-head progress_title c.args.s) parts c.args.at c.read_head.ensures c.in_err-e.was))

pub returns : goal.returns
unfolding parts_format
returns c =
    let parts : List ℕ → Format =
    λ vs. each c.args.n (λ q. part_format c.args.s (size_in c.args.front.now q) q) in
    let same : reading First c.args.text.now (parts_format c.args.front.now) c.args.at ≡ reading First c.args.text.now (progress_format c.args.s c.args.n (size_in c.args.front.now)) c.args.at =
    λ i. reading First c.args.text.now (progress_format (sym c.requires.2 i) (sym c.requires.3 i) (size_in c.args.front.now)) c.args.at in
    reads_as (same ∙ step_given First c.args.text.now (fixed-head progress_title c.args.s) parts c.args.at c.read_head.ensures c.requires.0 c.in_ok-e.was) c.read_parts.ensures
