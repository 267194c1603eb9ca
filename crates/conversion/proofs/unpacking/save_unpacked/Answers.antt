-- `conversion::unpacking::save_unpacked` is safe: seconds that are not refused have at most 65,536 bytes. Assumes nothing.
use Rattle.slices.specs.declared.Reason.TheVariants.{FileTooLong}
use Rattle.std.specs.Prelude.{Result, Ok}
use Rattle.slices.specs.declared.Refusal.{Refusal}
use Rattle.slices.specs.Refusals.{fault_in}
use mathlib.Core.Path.{◌≡◌, ap, sym, ◌∙◌}
use Prim.Native.Nat.{ℕ, ◌≤◌}
use native.Mathlib.Omega.{arith}
use lib.Dec.{ltb}
use borrow.Author.Tests.{ltb-false}
use Rattle.slices.specs.declared.Part.TheVariants.{Second}
use Rattle.slices.proofs.Refusals.{when-sound}
use Rattle.console.specs.Files.{length_fault}
use Rattle.conversion.proofs.unpacking.save_unpacked.Goals as goal

short : {r : Result Unit Refusal} (n : ℕ) → r ≡ Ok tt → fault_in r ≡ length_fault Second n → n ≤ 65536
short n e h = ltb-false 65536 n (when-sound (ltb 65536 n) FileTooLong Second 65536 (sym h ∙ ap fault_in e))

pub save_text-requires : goal.save_text-requires
save_text-requires c =
    omega
    (arith, c.load_seconds-n.ensures.1, short c.load_seconds-n.result c.in-Ok.is c.check_length.ensures)
