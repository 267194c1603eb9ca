-- `packed::checking::check_tables` meets its contract: the length, the leading table, then the rest. Assumes nothing.
use mathlib.Core.Path.{◌≡◌, ap, sym, ◌∙◌}
use mathlib.Core.List.{List}
use Prim.Native.Nat.{ℕ, ◌+◌, ◌*◌, ◌≤◌}
use native.Mathlib.Omega.{arith}
use lib.ListN.{length}
use Rattle.slices.specs.Refusals.{Fault, unless}
use Rattle.slices.proofs.Refusals.{refuses}
use Rattle.packed.specs.declared.Sizes.{Sizes}
use Rattle.packed.specs.Layout.{letter_count, state_count, progress_at_value, sheet_length, Header}
use Rattle.packed.specs.Faults.{sizes_of}
use Rattle.packed.proofs.Bounds.{front-few, front-within}
use Rattle.packed.proofs.Stages.{bad-length, bad-leading, good-leading}
use Rattle.packed.proofs.checking.check_tables.Goals as goal

-- the counts, by the sizes in the code's hands
letters : (b : List ℕ) {z : Sizes} → z ≡ sizes_of b → z.letters ≡ letter_count b
letters b e = ap (λ (z : Sizes). z.letters) e

states : (b : List ℕ) {z : Sizes} → z ≡ sizes_of b → z.states ≡ state_count b
states b e = ap (λ (z : Sizes). z.states) e

-- the length that the counts say
due : (b : List ℕ) {z : Sizes} {m : ℕ} → z ≡ sizes_of b → m ≡ progress_at_value b z.states → m ≡ sheet_length b
due b e d = d ∙ ap (progress_at_value b) (states b e)

few : (b : List ℕ) {z : Sizes} → Header b → z ≡ sizes_of b → (z.states ≤ 32) × (z.states * z.letters ≤ 1024)
few b h e = front-few _ (states b e) (letters b e) h

within : (b : List ℕ) {z : Sizes} → Header b → z ≡ sizes_of b → length b ≡ sheet_length b → (2 + z.states + z.states * z.letters ≤ length b) × (length b ≤ 34850)
within b h e exact = front-within _ h exact (states b e) (letters b e)

pub progress_at-requires : goal.progress_at-requires
progress_at-requires c = (c.requires.0, omega (arith, states c.args.sheet.now c.requires.1))

pub returns-then-len-progress_at : goal.returns-then-len-progress_at
returns-then-len-progress_at c = c.refusal.ensures ∙ refuses _ (bad-length _ _ (λ e. omega (arith, e, c.if-len-progress_at.true, due c.args.sheet.now c.requires.1 c.progress_at.ensures)))

pub overflow_add-from : goal.overflow_add-from
overflow_add-from c = omega (arith, few c.args.sheet.now c.requires.0 c.requires.1)

pub overflow_mul-entries : goal.overflow_mul-entries
overflow_mul-entries c = omega (arith, few c.args.sheet.now c.requires.0 c.requires.1)

pub first_outside-i-requires : goal.first_outside-i-requires
first_outside-i-requires c = (within c.args.sheet.now c.requires.0 c.requires.1 (omega (arith, c.if-len-progress_at.false, due c.args.sheet.now c.requires.1 c.progress_at.ensures))).0

pub overflow_add-from-then-i-entries : goal.overflow_add-from-then-i-entries
overflow_add-from-then-i-entries c = omega (arith, within c.args.sheet.now c.requires.0 c.requires.1 (omega (arith, c.if-len-progress_at.false, due c.args.sheet.now c.requires.1 c.progress_at.ensures)), c.if-i-entries.true)

pub returns-then-i-entries : goal.returns-then-i-entries
returns-then-i-entries c =
    c.refusal-then-i-entries.ensures
    ∙ refuses _ (bad-leading _ _ (omega (arith, c.if-len-progress_at.false, due c.args.sheet.now c.requires.1 c.progress_at.ensures)) (states c.args.sheet.now c.requires.1) (letters c.args.sheet.now c.requires.1) c.first_outside-i.ensures c.if-i-entries.true)

pub check_progress-requires : goal.check_progress-requires
check_progress-requires c =
    (c.requires.0, (omega (arith, c.if-len-progress_at.false, due c.args.sheet.now c.requires.1 c.progress_at.ensures)), c.requires.1)

pub returns : goal.returns
returns c =
    c.check_progress.ensures
    ∙ ap (λ (f : Fault). unless f c.args.z) (sym (good-leading _ _ (omega (arith, c.if-len-progress_at.false, due c.args.sheet.now c.requires.1 c.progress_at.ensures)) (states c.args.sheet.now c.requires.1) (letters c.args.sheet.now c.requires.1) c.first_outside-i.ensures c.if-i-entries.false))
