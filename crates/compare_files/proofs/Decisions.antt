-- What the code answers is what is decided of the files, step by step. Assumes nothing.
use Rattle.slices.specs.declared.Reason.TheVariants.{FoundTooLong}
use Rattle.std.specs.Prelude.{Result, Ok, Err}
use Rattle.slices.specs.Refusals.{fault_in}
use mathlib.Core.Path.{◌≡◌, refl, ap, sym, subst, ◌∙◌}
use mathlib.Core.Bool.{Bool}
use mathlib.Core.List.{List}
use Prim.Native.Nat.{ℕ}
use lib.Dec.{ltb}
use lib.ListN.{length}
use Rattle.slices.specs.declared.Part.TheVariants.{Opening, Loop}
use Rattle.slices.specs.declared.Refusal.{Refusal}
use Rattle.slices.specs.Refusals.{Fault, sound, fault, ◌then◌, when, unless, mapped}
use Rattle.fdfa.specs.Enumeration.{Witness, absent, lasso}
use Rattle.fdfa.specs.Inclusion as model
use Rattle.lasso_search.specs.Lassos.{Lent, room_fault}
use Rattle.inclusion.specs.declared.Outcome.{Outcome}
use Rattle.inclusion.specs.declared.Outcome.TheVariants.{Absent, Found}
use Rattle.inclusion.specs.Outcomes.{answer_of}
use Rattle.inclusion.specs.Calls as calls
use Rattle.inclusion.specs.Calls.{Slices, call_fault, compare_start, Compared}
use Rattle.inclusion.proofs.Settling.{settled-for, settled-given}
use Rattle.console.specs.Files.{lengths_fault}
use Rattle.console.proofs.Lengths.{too_long, short-enough}
use Rattle.compare_files.specs.Decided.{room, compared, program_fault, compared_in, of_sheets, first_sheet, second_sheet, decided, witness_in, Holds, Decides}

-- what is refused for the room of a show depends on the lengths of the slices alone
room_as : (w : Witness) (l m : Lent) → length l.opening ≡ length m.opening → length l.period ≡ length m.period → room_fault w l ≡ room_fault w m
room_as absent l m e d = refl
room_as (lasso u v) l m e d = λ i. when (ltb (e i) (length u)) FoundTooLong Opening (length u) then when (ltb (d i) (length v)) FoundTooLong Loop (length v)

mapped-unless : {A B : Type 0} (g : A → B) (f : Fault) (x : A) → unless f (g x) ≡ mapped g (unless f x)
mapped-unless g sound x = refl
mapped-unless g (fault r) x = refl

-- two packed sheets
module _ (b c : List ℕ) (before after : Slices) (o : length before.opening ≡ 4096) (p : length before.period ≡ 4096) (w : length before.work ≡ 8192) where
  refusal : call_fault (compare_start b c (length before.work)) (compared b c) before ≡ program_fault b c
  refusal = λ i. compare_start b c (w i) then room_as (compared b c).witness (calls.lasso before) (calls.lasso room) o p i

  holds : (r : Result Outcome Refusal) → Compared b c before after r → Holds r after.opening after.period (witness_in (compared_in b c))
  holds (Ok (Absent z)) h = tt
  holds (Ok (Found z)) h =
      let f = settled-for (Ok (Found z)) h.settles in
      let e = sym refusal ∙ (settled-given (compared b c) h.settles refl).0 in
      let d : (compared b c).witness ≡ witness_in (compared_in b c) = ap (λ (x : Fault). witness_in (unless x (compared b c))) (sym e) in
      subst (λ (x : Witness). Holds (Ok (Found z)) after.opening after.period x) d (f.prefix-in, f.period_in, f.prefix, f.period)
  holds (Err q) h = tt

  pub packed-decides : (r : Result Outcome Refusal) → Compared b c before after r → Decides (compared_in b c) after.opening after.period r
  packed-decides r h = record {
    says = h.settles.says ∙ (ap (λ (f : Fault). unless f (answer_of (compared b c))) refusal ∙ mapped-unless answer_of (program_fault b c) (compared b c));
    holds = holds r h;
  }

pub decides-as : {x y : Result model.Comparison Refusal} {o p : List ℕ} {r : Result Outcome Refusal} → x ≡ y → Decides x o p r → Decides y o p r
decides-as {o = o} {p = p} {r = r} e h = subst (λ (z : Result model.Comparison Refusal). Decides z o p r) e h

decides-refused : {x : Result model.Comparison Refusal} (o p : List ℕ) {q : Refusal} → x ≡ Err q → Decides x o p (Err q)
decides-refused o p {q} e = decides-as (sym e) (record { says = refl; holds = tt })

-- the second file
module _ (b : List ℕ) (y : Result (List ℕ) Refusal) where
  pub second-refused : (o p : List ℕ) {q : Refusal} → y ≡ Err q → Decides (of_sheets (Ok b) y) o p (Err q)
  second-refused o p e = decides-refused o p (ap (of_sheets (Ok b)) e)

  pub second-read : {c o p : List ℕ} {r : Result Outcome Refusal} → y ≡ Ok c → Decides (compared_in b c) o p r → Decides (of_sheets (Ok b) y) o p r
  second-read e h = decides-as (ap (of_sheets (Ok b)) (sym e)) h

-- the first
module _ (x y : Result (List ℕ) Refusal) where
  pub first-refused : (o p : List ℕ) {q : Refusal} → x ≡ Err q → Decides (of_sheets x y) o p (Err q)
  first-refused o p e = decides-refused o p (ap (λ (z : Result (List ℕ) Refusal). of_sheets z y) e)

  pub first_read : {b o p : List ℕ} {r : Result Outcome Refusal} → x ≡ Ok b → Decides (of_sheets (Ok b) y) o p r → Decides (of_sheets x y) o p r
  first_read e h = decides-as (ap (λ (z : Result (List ℕ) Refusal). of_sheets z y) (sym e)) h

-- the lengths
module _ (any : Bool) (b c : List ℕ) {l : Result Unit Refusal} (h : fault_in l ≡ lengths_fault (length b) (length c)) where
  pub length-refused : (o p : List ℕ) {q : Refusal} → l ≡ Err q → Decides (decided any b c) o p (Err q)
  unfolding decided
  length-refused o p e = decides-refused o p (too_long (of_sheets (first_sheet any b) (second_sheet any c)) h e)

  pub length-good : {o p : List ℕ} {r : Result Outcome Refusal} → l ≡ (Ok tt) → Decides (of_sheets (first_sheet any b) (second_sheet any c)) o p r → Decides (decided any b c) o p r
  unfolding decided
  length-good e d = decides-as (sym (short-enough (of_sheets (first_sheet any b) (second_sheet any c)) h e)) d
