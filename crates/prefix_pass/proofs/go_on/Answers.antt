-- `prefix_pass::go_on` meets its contract: the sheet, then the pass by its leading table by letter. Assumes nothing.
use Rattle.std.specs.Prelude.{Ok}
use mathlib.Core.Path.{◌≡◌, ap, sym, subst, ◌∙◌}
use mathlib.Core.List.{List}
use Prim.Native.Nat.{ℕ}
use native.Mathlib.Omega.{arith}
use Rattle.slices.specs.declared.Part.TheVariants.{First}
use Rattle.slices.specs.Refusals.{sound, unless}
use Rattle.slices.proofs.Refusals.{gives, was-given}
use Rattle.fdfa.specs.Pass.{Pass, pass_over}
use Rattle.packed.specs.declared.Sizes.{Sizes}
use Rattle.packed.specs.Layout.{letter_count, state_count, decode, Valid}
use Rattle.packed.specs.Faults.{sheet_fault, sizes_of}
use Rattle.packed.proofs.Soundness.{sound-valid}
use Rattle.prefix_pass.specs.Parts.{pass_says, held_in_value, told}
use Rattle.prefix_pass.specs.Steps.{Within}
use Rattle.prefix_pass.proofs.Telling.{within_held, within_more}
use Rattle.prefix_pass.proofs.Leading.{columns-fit, stepping, leading-pass}
use Rattle.prefix_pass.proofs.go_on.Goals as goal

-- the sheet is good, and its sizes are known
sized : (b : List ℕ) {z : Sizes} → Ok z ≡ unless (sheet_fault First b) (sizes_of b) → (sheet_fault First b ≡ sound) × (z ≡ sizes_of b)
sized b e = was-given (sheet_fault First b) (sizes_of b) e

valid : (b : List ℕ) {z : Sizes} → Ok z ≡ unless (sheet_fault First b) (sizes_of b) → Valid b
valid b e = sound-valid First b (sized b e).0

-- what is held, for this sheet
held : (b : List ℕ) {z : Sizes} (p : Pass) {q : Pass} → Ok z ≡ unless (sheet_fault First b) (sizes_of b) → q ≡ held_in_value z.states p → q ≡ held_in_value (state_count b) p
held b p e d = d ∙ ap (λ (z : Sizes). held_in_value z.states p) (sized b e).1

within : (b : List ℕ) {z : Sizes} (p : Pass) {q : Pass} → Ok z ≡ unless (sheet_fault First b) (sizes_of b) → q ≡ held_in_value z.states p → Within (state_count b) q
within b p e d = subst (Within (state_count b)) (sym (held b p e d)) (within_held (state_count b) p)

pub overflow_add-z : goal.overflow_add-z
overflow_add-z c = omega (arith, ap (λ (z : Sizes). z.states) (sized c.args.sheet.now c.in_ok-z.ensures).1, (valid c.args.sheet.now c.in_ok-z.ensures).header.few_states)

pub columns-table-requires : goal.columns-table-requires
columns-table-requires c = columns-fit _ (valid c.args.sheet.now c.in_ok-z.ensures) (sized c.args.sheet.now c.in_ok-z.ensures).1

pub pass_on-requires : goal.pass_on-requires
pass_on-requires c =
    (stepping _ (valid c.args.sheet.now c.in_ok-z.ensures) (sized c.args.sheet.now c.in_ok-z.ensures).1 c.columns-table.ensures, within_more (valid c.args.sheet.now c.in_ok-z.ensures).header.few_states (pass_says c.held_in.result) (within c.args.sheet.now (pass_says c.args.held) c.in_ok-z.ensures c.held_in.ensures))

pub returns : goal.returns
returns c =
    let b = c.args.sheet.now in
    let w = c.args.part.now in
    ap Ok
    (c.pass_on.ensures
    ∙ (ap told (leading-pass b (valid c.args.sheet.now c.in_ok-z.ensures) (sized c.args.sheet.now c.in_ok-z.ensures).1 c.columns-table.ensures (pass_says c.held_in.result) w (within c.args.sheet.now (pass_says c.args.held) c.in_ok-z.ensures c.held_in.ensures))
    ∙ ap (λ (p : Pass). told (pass_over (letter_count b) (decode b).step p w)) (held c.args.sheet.now (pass_says c.args.held) c.in_ok-z.ensures c.held_in.ensures)))
    ∙ gives _ (sized c.args.sheet.now c.in_ok-z.ensures).0
