-- What is decided of two files. A comparison is given exactly of the sheets that both are; and of packed files that are short enough the whole is
-- the comparison of their bytes. Assumes nothing.
use Rattle.std.specs.Prelude.{Result, Ok, Err}
use Rattle.slices.specs.declared.Refusal.{Refusal}
use mathlib.Core.Path.{◌≡◌, refl, ap, sym, ◌∙◌}
use mathlib.Core.Bool.{Bool, false}
use mathlib.Core.List.{List}
use Prim.Native.Nat.{ℕ, ◌≤◌}
use lib.ListN.{length}
use Rattle.slices.specs.declared.Part.TheVariants.{First, Second}
use Rattle.slices.specs.Refusals.{Fault, sound, fault, unless}
use Rattle.slices.proofs.Refusals.{passed, failed, refuses, never-given, was-given}
use Rattle.fdfa.specs.Inclusion as model
use Rattle.packed.specs.Layout.{letter_count}
use Rattle.packed.specs.Faults.{sheet_fault, second_fault}
use Rattle.console.specs.Files.{lengths_fault, after}
use Rattle.console.proofs.Lengths.{lengths-good}
use Rattle.compare_files.specs.Decided.{compared, program_fault, compared_in, of_sheets, first_sheet, second_sheet, decided}

-- The sheets of two files that were compared, and nothing is refused.
pub record Were (any : Bool) (b c : List ℕ) (C : model.Comparison) : Type 0 where
  pub short : lengths_fault (length b) (length c) ≡ sound
  pub first : List ℕ
  pub second : List ℕ
  pub is_first : first_sheet any b ≡ Ok first
  pub is_second : second_sheet any c ≡ Ok second
  pub fine : program_fault first second ≡ sound
  pub is : C ≡ compared first second

pub decided-were : (any : Bool) (b c : List ℕ) {C : model.Comparison} → decided any b c ≡ Ok C → Were any b c C
unfolding decided
decided-were any b c {C} e = by (lengths_fault (length b) (length c)) (first_sheet any b) (second_sheet any c) refl refl refl e
  where
    by : (f : Fault) (p q : Result (List ℕ) Refusal) → lengths_fault (length b) (length c) ≡ f → first_sheet any b ≡ p → second_sheet any c ≡ q → after f (of_sheets p q) ≡ Ok C → Were any b c C
    by sound (Ok x) (Ok y) s d g h =
        let w = was-given (program_fault x y) (compared x y) (sym h) in
        record { short = s; first = x; second = y; is_first = d; is_second = g; fine = w.0; is = w.1 }
    by sound (Ok x) (Err r) s d g h = absurd (never-given h)
    by sound (Err r) q s d g h = absurd (never-given h)
    by (fault r) p q s d g h = absurd (never-given h)

-- Without names: as the comparison of the bytes, whatever they are.
module _ (b c : List ℕ) where
  packed-sheets : of_sheets (first_sheet false b) (second_sheet false c) ≡ compared_in b c
  packed-sheets = by (sheet_fault First b) (sheet_fault Second c) refl refl
    where
      by : (f g : Fault) → sheet_fault First b ≡ f → sheet_fault Second c ≡ g → of_sheets (unless f b) (unless g c) ≡ compared_in b c
      by sound sound d e = refl
      by sound (fault r) d e =
          refuses (compared b c) (failed _ (failed _ (passed (second_fault (letter_count b) c) d ∙ failed _ e)))
      by (fault r) g d e = refuses (compared b c) (failed _ (failed _ (failed _ d)))

  pub packed-decided : length b ≤ 65536 → length c ≤ 65536 → decided false b c ≡ compared_in b c
  unfolding decided
  packed-decided h k =
      ap (λ (f : Fault). after f (of_sheets (first_sheet false b) (second_sheet false c))) (lengths-good (length b) (length c) h k)
      ∙ packed-sheets
