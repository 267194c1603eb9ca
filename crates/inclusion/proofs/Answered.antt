-- From what the search found to the answer of a call: the lasso is walked in both sheets as it stands in the slices. Assumes nothing.
use Rattle.std.specs.Prelude.{Result, Ok, Err}
use Rattle.slices.specs.declared.Refusal.{Refusal}
use mathlib.Core.Path.{◌≡◌, refl, ap, ap₂, sym, subst, ◌∙◌}
use mathlib.Core.Bool.{Bool, true, false}
use mathlib.Core.List.{List, ◌++◌}
use Prim.Native.Nat.{ℕ}
use lib.ListN.{length, drop, replicate, length-replicate}
use Rattle.slices.specs.Refusals.{Fault, sound, unless, mapped}
use Rattle.slices.specs.Filling.{written, filled}
use Rattle.slices.proofs.Refusals.{passed, refuses, gives, was-given, was-refused}
use Rattle.fdfa.specs.Family.{Fdfa}
use Rattle.fdfa.specs.Enumeration.{Witness, absent, lasso}
use Rattle.fdfa.specs.Inclusion as model
use Rattle.fdfa.specs.Inclusion.{Accepted, Answers, standing}
use Rattle.fdfa.proofs.Emptiness.{answers-first}
use Rattle.standing.specs.Structs.{standing_of, standings_of}
use Rattle.lasso_search.specs.declared.Finding.{Finding}
use Rattle.lasso_search.specs.declared.Reported.{Reported}
use Rattle.lasso_search.specs.declared.Reported.TheVariants.{Absent, Found}
use Rattle.lasso_search.specs.Lassos.{Lent, room_fault, prefix_of, period_of}
use Rattle.lasso_search.specs.Reporting.{report_of, Reports}
use Rattle.inclusion.specs.declared.Outcome.{Outcome}
use Rattle.inclusion.specs.Outcomes.{is_absent, answered, answer_of}
use Rattle.inclusion.specs.Calls as calls
use Rattle.inclusion.specs.Calls.{Slices, call_fault, Settled}
use Rattle.inclusion.specs.Placing.{joined, LiesIn, placed_of}
use Rattle.inclusion.proofs.Settling.{GivenFor, given-for, for-absent, for-lasso}

-- the search's report, by the parts of the witness
abbrev none_in : Reported → Bool
none_in (Absent z) = true
none_in (Found z) = false

abbrev finding_in : Reported → Finding
finding_in (Absent z) = z
finding_in (Found z) = z

report-is : (R : ℕ) (w : Witness) → (none_in (report_of R w) ≡ is_absent w) × (finding_in (report_of R w) ≡ record { reached = R; prefix = length (prefix_of w); period = length (period_of w) })
report-is R absent = (refl, refl)
report-is R (lasso u v) = (refl, refl)

module _ {P : Fdfa} {before after : Lent} {x : Reported} (D : Reports P before after (Ok x)) where
  abbrev w : Witness
  w = D.witness

  abbrev f : Fault
  f = room_fault w before

  -- what the search says where it does not refuse
  found-for : (f ≡ sound) × GivenFor D.reached w after (none_in x) (finding_in x).reached (finding_in x).prefix (finding_in x).period
  found-for =
      let g = was-given f (report_of D.reached w) D.says in
      let q = report-is D.reached w in
      let z = ap finding_in g.1 ∙ q.1 in (
        g.0,
        given-for w before g.0 (ap none_in g.1 ∙ q.0) (ap (λ (x : Finding). x.reached) z) (ap (λ (x : Finding). x.prefix) z) (ap (λ (x : Finding). x.period) z)
            (ap (λ (l : Lent). l.opening) D.written) (ap (λ (l : Lent). l.period) D.written),
      )

-- a lasso that was found lies in the slices, and is over the family's letters
pub reports-lies : {P : Fdfa} {before after : Lent} (x : Reported) → Reports P before after (Ok x) → LiesIn P.letters after x
reports-lies (Absent z) D = tt
reports-lies {P} (Found z) D =
    let s = (found-for D).1 in
    (s.prefix-in, s.period_in, (answers-first (subst (Answers (Accepted P)) (for-lasso D.witness s) D.answers)).has.lasso)

module _ (F G : Fdfa) where
  -- the comparison that a witness gives
  abbrev pub with-standing : ℕ → Witness → model.Comparison
  with-standing R w = record { reached = R; witness = w; first = standing F w; second = standing G w }

  -- the numbers are those of the witness
  numbers : {R : ℕ} {w x : Witness} {l : Lent} {none : Bool} (z : Finding) → GivenFor R w l none z.reached z.prefix z.period → w ≡ x
      → answered none (joined z (standings_of F G x)) ≡ answer_of (with-standing R w)
  numbers z s e =
      λ i. answered (s.absence i)
      (record {
        reached = s.counted i;
        prefix = s.prefix_is i;
        period = s.period_is i;
        first = standing_of (standing F (sym e i));
        second = standing_of (standing G (sym e i));
      })

  module _ {P : Fdfa} where
    placed-says : {before after : Lent} (found : Result Reported Refusal) (D : Reports P before after found)
        → mapped (placed_of F G after) found ≡ unless (room_fault D.witness before) (answer_of (with-standing D.reached D.witness))
    placed-says (Ok (Absent z)) D = let g = found-for D in ap Ok (numbers z g.1 (for-absent D.witness g.1)) ∙ gives _ g.0
    placed-says (Ok (Found z)) D = let g = found-for D in ap Ok (numbers z g.1 (for-lasso D.witness g.1)) ∙ gives _ g.0
    placed-says (Err r) D = refuses _ (was-refused (room_fault D.witness _) (report_of D.reached D.witness) D.says)

    -- answered, or refused after the search
    pub settled-placed : {start : Fault} {before : Slices} {after : Lent} {found : Result Reported Refusal} {r : Result Outcome Refusal} {cells : ℕ} (D : Reports P (calls.lasso before) after found) → start ≡ sound
        → r ≡ mapped (placed_of F G after) found → {front : List ℕ} {m : ℕ} → front ≡ replicate m 0 → m ≡ cells
        → Settled start (with-standing D.reached D.witness) cells before (record { opening = after.opening; period = after.period; work = front ++ drop m before.work }) r
    unfolding written
    settled-placed {start} {before} {after} {found} {r} {cells} D sf re fe me = record {
      says = re ∙ (placed-says found D ∙ ap (λ (f : Fault). unless f (answer_of C)) cf);
      opening = ap (λ (l : Lent). l.opening) D.written ∙ ap (λ (f : Fault). filled f (prefix_of D.witness) before.opening) cf;
      period = ap (λ (l : Lent). l.period) D.written ∙ ap (λ (f : Fault). filled f (period_of D.witness) before.period) cf;
      work = ap₂ (λ (x : List ℕ) (k : ℕ). x ++ drop k before.work) (fe ∙ ap (λ (k : ℕ). replicate k 0) me) (me ∙ sym (length-replicate {A = ℕ} cells 0))
          ∙ sym (ap (λ (f : Fault). filled f (replicate cells 0) before.work) sf);
    }
      where
        C : model.Comparison
        C = with-standing D.reached D.witness

        cf : room_fault D.witness (calls.lasso before) ≡ call_fault start C before
        cf = sym (passed _ sf)
