-- The sheet's refusal, of part first, before an unknown letter.
use Rattle.slices.specs.declared.Reason.TheVariants.{SheetLength}
use Rattle.std.specs.Prelude.{Err}
use mathlib.Core.Path.{◌≡◌, refl}
use mathlib.Core.List.{[], ◌∷◌}
use Rattle.slices.specs.declared.Part.TheVariants.{First}
use Rattle.packed.specs.Faults.{header_fault, tables_fault, sheet_fault}
use Rattle.fdfa.specs.Pass.{start}
use Rattle.prefix_pass.specs.Parts.{passed_of}

pub refusal : passed_of (2 ∷ []) start (7 ∷ []) ≡ Err (record { reason = SheetLength; part = First; place = 1 })
unfolding sheet_fault header_fault tables_fault
refusal = refl
