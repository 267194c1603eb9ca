-- The answer for the family of pairs is the comparison's: the definition's by enumeration, and the third demand's. Assumes
-- nothing.
use Rattle.std.specs.Prelude.{Result, Ok, Err}
use Rattle.slices.specs.declared.Refusal.{Refusal}
use mathlib.Core.Path.{◌≡◌, sym, subst}
use mathlib.Core.List.{List, ◌++◌}
use Prim.Native.Nat.{ℕ}
use lib.ListN.{length, drop, replicate}
use Rattle.slices.specs.Refusals.{sound, mapped}
use Rattle.fdfa.specs.Family.{Fdfa, Complete}
use Rattle.fdfa.specs.Boolean.{product}
use Rattle.fdfa.specs.Enumeration.{Witness}
use Rattle.fdfa.specs.Inclusion.{Counterexample, Accepted, Answers, Counts, Reached, ReachedPair, pairs, Comparison, comparison}
use Rattle.fdfa.proofs.Product.{product-complete}
use Rattle.fdfa.proofs.Emptiness.{answers-unique, answers-map, answers-none, answers-first}
use Rattle.fdfa.proofs.Inclusion.{but_not, accepted-counterexample, counterexample-accepted, comparison-answers, contained-all}
use Rattle.fdfa.proofs.Reach.{counts-unique, reached-states, reached-pairs}
use Rattle.packed.specs.Layout.{decode}
use Rattle.packed.specs.Faults.{pair_fault}
use Rattle.packed.proofs.Soundness.{valid-packable}
use Rattle.pairing.specs.Pairs.{Alike}
use Rattle.lasso_search.specs.declared.Reported.{Reported}
use Rattle.lasso_search.specs.Lassos.{Lent}
use Rattle.lasso_search.specs.Reporting.{difference, Reports}
use Rattle.inclusion.specs.declared.Outcome.{Outcome}
use Rattle.inclusion.specs.declared.Outcome.TheVariants.{Absent, Found}
use Rattle.inclusion.specs.Calls as calls
use Rattle.inclusion.specs.Calls.{Slices, Settled, cells_fault, compare_cells, compare_start, DecidesInclusion, Compared, Searched}
use Rattle.inclusion.specs.Placing.{placed_of}
use Rattle.inclusion.proofs.Settling.{AnswerFor, for-absent, for-lasso, settled-for, settled-good}
use Rattle.inclusion.proofs.Answered.{with-standing, settled-placed}

module _ (F G : Fdfa) (alike : F.letters ≡ G.letters) (CF : Complete F) (CG : Complete G) where
  abbrev P : Fdfa
  P = product but_not F G

  -- a counterexample is an accepted lasso of the difference
  pub comparison-is : {R : ℕ} {w : Witness} → Counts (Reached P.letters P.step) P.states R → Answers (Accepted P) w → with-standing F G R w ≡ comparison F G
  comparison-is counted answers =
      let re = counts-unique counted (reached-states P (product-complete but_not F G alike CF CG)) in
      let we = answers-unique (answers-map (accepted-counterexample F G alike CF CG) (counterexample-accepted F G alike CF CG) answers) (comparison-answers F G alike CF CG) in
      λ i. with-standing F G (re i) (we i)

  answers : {w : Witness} → (comparison F G).witness ≡ w → Answers (Counterexample F G) w
  answers e = subst (Answers (Counterexample F G)) e (comparison-answers F G alike CF CG)

  counted : {r : ℕ} → r ≡ (comparison F G).reached → Counts (ReachedPair F G) (pairs F G) r
  counted e = subst (Counts (ReachedPair F G) (pairs F G)) (sym e) (reached-pairs F G alike CF CG)

  -- the third demand, whatever the answer is
  decides : (l : Lent) (r : Result Outcome Refusal) → AnswerFor (comparison F G) l r → DecidesInclusion F G l r
  decides l (Ok (Absent z)) s =
      let e = for-absent (comparison F G).witness s in
      (counted s.counted, answers-none (answers e), λ TF TG. contained-all F G alike CF CG TF TG e)
  decides l (Ok (Found z)) s = (counted s.counted, answers-first (answers (for-lasso (comparison F G).witness s)))
  decides l (Err r) s = tt

module _ {b c : List ℕ} (A : Alike b c) where
  abbrev F : Fdfa
  F = decode b

  abbrev G : Fdfa
  G = decode c

  CF : Complete F
  CF = (valid-packable b A.first).complete

  CG : Complete G
  CG = (valid-packable c A.second).complete

  -- from the search
  pub reports-searched : {before : Slices} {after : Lent} {found : Result Reported Refusal} {r : Result Outcome Refusal} (D : Reports (difference b c) (calls.lasso before) after found)
      → cells_fault (compare_cells b c) (length before.work) ≡ sound → r ≡ mapped (placed_of F G after) found → {front : List ℕ} {m : ℕ} → front ≡ replicate m 0 → m ≡ compare_cells b c
      → Searched (comparison F G) (compare_cells b c) before (record { opening = after.opening; period = after.period; work = front ++ drop m before.work }) r
  reports-searched {before} {after} {r = r} D fits re {front} {m} fe me =
      subst (λ (C : Comparison). Searched C (compare_cells b c) before (record { opening = after.opening; period = after.period; work = front ++ drop m before.work }) r)
      (comparison-is F G A.letters CF CG D.counted D.answers) (settled-placed F G D fits re fe me)

  -- to the call
  pub searched-compared : {before after : Slices} (r : Result Outcome Refusal) → pair_fault b c ≡ sound → Searched (comparison F G) (compare_cells b c) before after r → Compared b c before after r
  searched-compared {before} {after} r good S =
      let settled : Settled (compare_start b c (length before.work)) (comparison F G) (compare_cells b c) before after r = settled-good good S in
      record { settles = settled; decides = decides F G A.letters CF CG (calls.lasso after) r (settled-for r settled) }
