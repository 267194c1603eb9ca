-- The counterexample of two sheets is a lasso over at most 32 letters. The four numbers of an answer are where the sheets' own verdicts are given
-- on the lasso that the slices hold; 0 where there is none, and for emptiness, which has no second sheet. Assumes nothing.
use Rattle.std.specs.Prelude.{Ok}
use mathlib.Core.Path.{◌≡◌, refl, ap, subst, ◌∙◌}
use mathlib.Core.List.{List}
use Prim.Native.Nat.{ℕ}
use lib.ListN.{length, take}
use Rattle.slices.specs.declared.Part.TheVariants as part
use Rattle.slices.specs.Refusals.{sound}
use Rattle.slices.proofs.Refusals.{then-left}
use Rattle.fdfa.specs.Family.{Lasso}
use Rattle.fdfa.specs.Acceptance.{verdict}
use Rattle.fdfa.specs.Enumeration.{Witness, lasso}
use Rattle.fdfa.specs.Inclusion.{Counterexample, Answers, nowhere, standing, comparison, emptiness}
use Rattle.fdfa.proofs.Letters.{lasso-more}
use Rattle.fdfa.proofs.Inclusion.{comparison-answers}
use Rattle.fdfa.proofs.Emptiness.{answers-first}
use Rattle.fdfa.proofs.Standing.{given-at, comparison-standing, emptiness-standing}
use Rattle.packed.specs.Layout.{decode}
use Rattle.packed.specs.Faults.{sheet_fault, pair_fault}
use Rattle.packed.proofs.Soundness.{sound-valid, valid-packable}
use Rattle.pairing.proofs.Within.{sound-alike}
use Rattle.standing.specs.declared.Standing.{Standing}
use Rattle.standing.specs.Structs.{standing_of}
use Rattle.inclusion.specs.declared.Comparison.{Comparison}
use Rattle.inclusion.specs.declared.Outcome.TheVariants.{Absent, Found}
use Rattle.inclusion.specs.Calls.{Slices, compare_start, empty_start, Compared, Emptied}
use Rattle.inclusion.proofs.Settling.{for-absent, for-lasso, settled-given, settled-for}

pub missing-lasso : (b c : List ℕ) {u v : List ℕ} → pair_fault b c ≡ sound → (comparison (decode b) (decode c)).witness ≡ lasso u v → Lasso 32 u v
missing-lasso b c e d =
    let A = sound-alike b c e in
    let F = valid-packable b A.first in
    let x = comparison-answers (decode b) (decode c) A.letters F.complete (valid-packable c A.second).complete in
    lasso-more F.few_letters (answers-first (subst (Answers (Counterexample (decode b) (decode c))) d x)).has.lasso

-- where a sheet's verdict is given on the lasso that the slices hold
abbrev pub judged_at : List ℕ → Slices → Comparison → Standing
judged_at b l z = standing_of (given-at (verdict (decode b) (take z.prefix l.opening) (take z.period l.period)))

module _ {b c : List ℕ} {before after : Slices} {z : Comparison} where
  pub missing-standing : Compared b c before after (Ok (Found z)) → (z.first ≡ judged_at b after z) × (z.second ≡ judged_at c after z)
  missing-standing K =
      let C = comparison (decode b) (decode c) in
      let g = settled-given C K.settles refl in
      let A = sound-alike b c (then-left (pair_fault b c) _ (then-left (compare_start b c (length before.work)) _ g.0)) in
      let h = comparison-standing (decode b) (decode c) A.letters (valid-packable b A.first).complete (valid-packable c A.second).complete
      (for-lasso C.witness (settled-for (Ok (Found z)) K.settles)) in
      (ap (λ (n : Comparison). n.first) g.2 ∙ ap standing_of h.0, ap (λ (n : Comparison). n.second) g.2 ∙ ap standing_of h.1)

  pub contained-nowhere : Compared b c before after (Ok (Absent z)) → (z.first ≡ standing_of nowhere) × (z.second ≡ standing_of nowhere)
  contained-nowhere K =
      let C = comparison (decode b) (decode c) in
      let n = (settled-given C K.settles refl).2 in
      let e = for-absent C.witness (settled-for (Ok (Absent z)) K.settles) in
      (ap (λ (n : Comparison). n.first) n ∙ ap (λ (w : Witness). standing_of (standing (decode b) w)) e, ap (λ (n : Comparison). n.second) n ∙ ap (λ (w : Witness). standing_of (standing (decode c) w)) e)

module _ {b : List ℕ} {before after : Slices} {z : Comparison} where
  pub found-standing : Emptied b before after (Ok (Found z)) → (z.first ≡ judged_at b after z) × (z.second ≡ standing_of nowhere)
  found-standing K =
      let C = emptiness (decode b) in
      let g = settled-given C K.settles refl in
      let valid = sound-valid part.First b (then-left (sheet_fault part.First b) _ (then-left (empty_start b (length before.work)) _ g.0)) in
      let h = emptiness-standing (decode b) (valid-packable b valid).complete (for-lasso C.witness (settled-for (Ok (Found z)) K.settles)) in
      (ap (λ (n : Comparison). n.first) g.2 ∙ ap standing_of h, ap (λ (n : Comparison). n.second) g.2)

  pub empty-nowhere : Emptied b before after (Ok (Absent z)) → (z.first ≡ standing_of nowhere) × (z.second ≡ standing_of nowhere)
  empty-nowhere K =
      let C = emptiness (decode b) in
      let n = (settled-given C K.settles refl).2 in
      let e = for-absent C.witness (settled-for (Ok (Absent z)) K.settles) in
      (ap (λ (n : Comparison). n.first) n ∙ ap (λ (w : Witness). standing_of (standing (decode b) w)) e, ap (λ (n : Comparison). n.second) n)
