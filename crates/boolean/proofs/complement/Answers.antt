-- The answers of `boolean::complement`. Assumes nothing.
use Rattle.slices.specs.declared.Reason.TheVariants.{TooLittleRoom}
use mathlib.Core.Path.{ap, sym, ◌∙◌}
use mathlib.Core.List.{List, ◌++◌}
use Prim.Native.Nat.{ℕ}
use native.Mathlib.Omega.{arith}
use lib.ListN.{length, drop}
use lib.Seq.{length-take-le}
use borrow.Author.Tests.{le-ltb}
use Rattle.slices.specs.declared.Part.TheVariants.{First, Out}
use Rattle.slices.proofs.Refusals.{when-passes, passed, was-given}
use Rattle.slices.proofs.Filling.{written-prefix, fill-given}
use Rattle.packed.specs.Faults.{sheet_fault, sizes_of}
use Rattle.packed.proofs.Soundness.{sound-valid}
use Rattle.boolean.specs.Operations.{complement_bytes}
use Rattle.boolean.proofs.Flips.{complement-length}
use Rattle.boolean.proofs.complement.Goals as goal

pub write_complement-requires-clause-valid : goal.write_complement-requires-clause-valid
write_complement-requires-clause-valid c =
    let b = c.args.sheet.now in
    let w = was-given (sheet_fault First b) (sizes_of b) c.in_ok-z.ensures in
    (sound-valid First b w.0, omega (arith, length-take-le (length b) c.args.out.now c.if-out-sheet.false))

pub returns : goal.returns
returns c =
    let b = c.args.sheet.now in
    let out = c.args.out.now in
    let w = was-given (sheet_fault First b) (sizes_of b) c.in_ok-z.ensures in
    let l = complement-length b (sound-valid First b w.0) in
    fill-given (complement_bytes b) (passed _ w.0 ∙ when-passes TooLittleRoom Out _ (le-ltb _ _ c.if-out-sheet.false)) (sym l)
    (ap (λ (x : List ℕ). x ++ drop (length b) out) c.write_complement.ensures ∙ written-prefix (complement_bytes b) out l)
