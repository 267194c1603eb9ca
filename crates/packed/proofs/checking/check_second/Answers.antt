-- `packed::checking::check_second` meets its contract. Assumes nothing.
use Rattle.slices.specs.declared.Reason.TheVariants.{LettersDiffer}
use Rattle.std.specs.Prelude.{Ok, Err}
use mathlib.Core.Path.{◌≡◌, ap, sym, ◌∙◌}
use mathlib.Core.Bool.{not}
use mathlib.Core.List.{List}
use Prim.Native.Nat.{ℕ}
use borrow.Author.Tests.{eq-eqb, ne_eqb}
use Rattle.slices.specs.declared.Part.TheVariants.{Second}
use Rattle.slices.specs.Refusals.{sound, unless}
use Rattle.slices.proofs.Refusals.{handed, when-fails, when-passes, passed, failed, refuses, gives, was-given, was-refused}
use Rattle.packed.specs.declared.Sizes.{Sizes}
use Rattle.packed.specs.Layout.{letter_count}
use Rattle.packed.specs.Faults.{sheet_fault, sizes_of}
use Rattle.packed.proofs.checking.check_second.Goals as goal

-- the second sheet is good, and its letters are those it counts
sized : (b : List ℕ) {y : Sizes} → Ok y ≡ unless (sheet_fault Second b) (sizes_of b) → (sheet_fault Second b ≡ sound) × (y ≡ sizes_of b) × (y.letters ≡ letter_count b)
sized b e = let d = was-given (sheet_fault Second b) (sizes_of b) e in (d.0, d.1, ap (λ (z : Sizes). z.letters) d.1)

pub returns-then-z-y : goal.returns-then-z-y
returns-then-z-y c =
    let b = c.args.second.now in
    let d = sized b c.in_ok-y.ensures in
    ap Err c.refuse.ensures
    ∙ refuses (record { first = c.args.z; second = sizes_of b }) (passed _ d.0 ∙ when-fails LettersDiffer Second 0 (ap not (ne_eqb _ _ (λ e. c.if-z-y.true (e ∙ sym d.2)))))

pub returns-in_err-y : goal.returns-in_err-y
returns-in_err-y c = rw (handed c.from_residual.ensures)
    (let b = c.args.second.now in
    refuses (record { first = c.args.z; second = sizes_of b }) (failed _ (was-refused (sheet_fault Second b) (sizes_of b) c.in_err-y.ensures)))

pub returns : goal.returns
returns c =
    let b = c.args.second.now in
    let d = sized b c.in_ok-y.ensures in
    (λ i. Ok (record { first = c.args.z; second = d.1 i }))
    ∙ gives (record { first = c.args.z; second = sizes_of b }) (passed _ d.0 ∙ when-passes LettersDiffer Second 0 (ap not (eq-eqb _ _ (c.if-z-y.false ∙ d.2))))
