-- What the searches leave behind, by whether the answer slice is long enough. Assumes nothing.
use Rattle.std.specs.Prelude.{Result}
use Rattle.slices.specs.declared.Refusal.{Refusal}
use mathlib.Core.Path.{◌≡◌, ap, sym, subst, ◌∙◌}
use mathlib.Core.Bool.{true≢false}
use mathlib.Core.List.{List}
use Prim.Native.Nat.{ℕ, ◌≤◌, ◌<◌}
use lib.ListN.{length}
use borrow.Author.Tests.{lt-ltb}
use Rattle.fdfa.specs.Inclusion as model
use Rattle.slices.specs.Refusals.{Fault}
use Rattle.slices.specs.Filling.{written}
use Rattle.packed.specs.Layout.{decode}
use Rattle.inclusion.specs.declared.Outcome.{Outcome}
use Rattle.inclusion.specs.Calls.{lasso, Settled, Compared, Emptied, DecidesInclusion, DecidesEmptiness}
use Rattle.answers.specs.Layout.{layout, numbers_of, padded}
use Rattle.answers.proofs.Telling.{short-old, long-new, told-short, told-long}
use Rattle.c_search.specs.Searches.{search_numbers_of, SearchSlices, searched, SearchTold, ComparedTold, EmptiedTold}

module _ {start : Fault} {C : model.Comparison} {cells : ℕ} {before : SearchSlices} where
  search-short : length before.answer < 72 → SearchTold start C cells before before 0
  search-short h = record {
    tells = told-short 9 _ before.answer h;
    prefix = short-old 9 before.answer before.prefix _ h;
    period = short-old 9 before.answer before.period _ h;
    work = short-old 9 before.answer before.work _ h;
  }

  -- where it is long enough: the call's answer, told by these numbers
  module _ {after : SearchSlices} (a : Result Outcome Refusal) {stored : List ℕ} {r : ℕ} (h : 72 ≤ length before.answer)
      (K : Settled start C cells (searched before) (searched after) a)
      (s : stored ≡ padded 9 (numbers_of search_numbers_of a))
      (t : (r ≡ 1) × (after.answer ≡ written (layout stored) before.answer)) where
    search-long : SearchTold start C cells before after r
    search-long = record {
      tells = told-long 9 _ before.answer h (s ∙ ap (λ (x : Result Outcome Refusal). padded 9 (numbers_of search_numbers_of x)) K.says) t;
      prefix = K.opening ∙ long-new 9 before.answer before.prefix _ h;
      period = K.period ∙ long-new 9 before.answer before.period _ h;
      work = K.work ∙ long-new 9 before.answer before.work _ h;
    }

module _ {b c : List ℕ} {before : SearchSlices} where
  pub compared-short : length before.answer < 72 → ComparedTold b c before before 0
  compared-short h = record { settles = search-short h; decides = λ e. absurd (true≢false (sym (lt-ltb _ _ h) ∙ e)) }

  pub compared-long : {after : SearchSlices} (a : Result Outcome Refusal) {stored : List ℕ} {r : ℕ} → 72 ≤ length before.answer
      → Compared b c (searched before) (searched after) a
      → stored ≡ padded 9 (numbers_of search_numbers_of a)
      → (r ≡ 1) × (after.answer ≡ written (layout stored) before.answer)
      → ComparedTold b c before after r
  compared-long {after} a h K s t = record {
    settles = search-long a h K.settles s t;
    decides =
        λ _. subst (DecidesInclusion (decode b) (decode c) (lasso (searched after))) K.settles.says K.decides;
  }

module _ {b : List ℕ} {before : SearchSlices} where
  pub emptied-short : length before.answer < 72 → EmptiedTold b before before 0
  emptied-short h = record { settles = search-short h; decides = λ e. absurd (true≢false (sym (lt-ltb _ _ h) ∙ e)) }

  pub emptied-long : {after : SearchSlices} (a : Result Outcome Refusal) {stored : List ℕ} {r : ℕ} → 72 ≤ length before.answer
      → Emptied b (searched before) (searched after) a
      → stored ≡ padded 9 (numbers_of search_numbers_of a)
      → (r ≡ 1) × (after.answer ≡ written (layout stored) before.answer)
      → EmptiedTold b before after r
  emptied-long {after} a h K s t = record {
    settles = search-long a h K.settles s t;
    decides =
        λ _. subst (DecidesEmptiness (decode b) (lasso (searched after))) K.settles.says K.decides;
  }
