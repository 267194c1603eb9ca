-- From the cells to the letters: what is said and written of the lasso that the search found. Assumes nothing.
use Rattle.slices.specs.declared.Reason.TheVariants.{FoundTooLong}
use Rattle.std.specs.Prelude.{Result, Ok, Err}
use mathlib.Core.Path.{◌≡◌, refl, ap, ap₂, sym, subst, subst₂, ◌∙◌}
use mathlib.Core.List.{List}
use Prim.Native.Nat.{ℕ, ◌-◌, ◌≤◌, ◌<◌}
use native.Mathlib.Omega.{arith}
use lib.Dec.{ltb}
use lib.ListN.{length, take, drop, length-drop}
use lib.Seq.{length-take-le}
use borrow.Author.Tests.{lt-ltb, le-ltb}
use Rattle.slices.specs.declared.Part.TheVariants.{Opening, Loop}
use Rattle.slices.specs.declared.Refusal.{Refusal}
use Rattle.slices.specs.Refusals.{Fault, sound, fault, when, unless}
use Rattle.slices.specs.Filling.{written}
use Rattle.slices.proofs.Refusals.{when-fails, when-passes, passed, failed, refuses, gives}
use Rattle.slices.proofs.Filling.{written_none}
use Rattle.fdfa.specs.Family.{Fdfa}
use Rattle.fdfa.specs.Enumeration.{absent, lasso}
use Rattle.fdfa.specs.Inclusion.{Counts, Reached, Accepted, none_has, first_is}
use Rattle.search.specs.Words.{Word, letters}
use Rattle.search.specs.Paths.{Deep, Filled}
use Rattle.search.proofs.Letters.{length-letters}
use Rattle.search.proofs.ReadBack.{path-one}
use Rattle.lasso_search.specs.declared.LassoCodes.{LassoCodes}
use Rattle.lasso_search.specs.declared.Reported.{Reported}
use Rattle.lasso_search.specs.declared.Reported.TheVariants.{Absent, Found}
use Rattle.lasso_search.specs.Lassos.{Lent, room_fault, lasso_written}
use Rattle.lasso_search.specs.Reporting.{report_of, Reports}
use Rattle.lasso_search.specs.Codes.{FirstAt, CanTell, Tells}
use Rattle.lasso_search.proofs.Lassos.{first-letters}
use Rattle.lasso_search.proofs.Rounds.{tail-is}

-- what the search found can be read
pub can-tell : {P : Word → Word → Type 0} {n : ℕ} {work : List ℕ} {z : LassoCodes} → FirstAt P n work z → n ≤ length work → n ≤ 1024 → (m : ℕ) → m ≡ n → CanTell (m - 1) work z
can-tell {n = n} {work = work} {z = z} A fits few m e =
    let f : n - 1 ≤ length work = omega arith in
    subst (λ (k : ℕ). CanTell (k - 1) work z) (sym e)
    (record {
      fits = f;
      few = omega arith;
      prefix = record { word = A.u; path = A.u_path; inside = rw (length-take-le (n - 1) work f) (omega (arith, A.u_in)) };
      period = record { word = A.v; path = rw (tail-is (n - 1) work f) A.v_path; inside = rw (tail-is (n - 1) work f, length-drop (n - 1) work) (omega (arith, A.v_in)) };
    })

module _ (n : ℕ) (work : List ℕ) (z : LassoCodes) (reached ul vl : ℕ) (lent : Lent) (du : Deep (take n work) z.prefix ul) (dv : Deep (take (length work - n) (drop n work)) z.period vl) where
  abbrev u : Word
  u = du.word

  abbrev v : Word
  v = dv.word

  abbrev F : Fault
  F = room_fault (lasso (letters u) (letters v)) lent

  u-long : length (letters u) ≡ ul
  u-long = length-letters u ∙ du.deep

  v-long : length (letters v) ≡ vl
  v-long = length-letters v ∙ dv.deep

  -- a refusal writes nothing
  tells-refused : {r : Refusal} (q : Refusal) → r ≡ q → F ≡ fault q → Tells n work z reached lent lent (Err r)
  tells-refused q re fe = record {
    u = u;
    v = v;
    u_path = du.path;
    v_path = dv.path;
    says = ap Err re ∙ refuses _ fe;
    written = sym (ap (λ (f : Fault). lasso_written f (lasso (letters u) (letters v)) lent) fe);
  }

  pub tells-opening : {r : Refusal} → r ≡ record { reason = FoundTooLong; part = Opening; place = ul } → length lent.opening < ul → Tells n work z reached lent lent (Err r)
  tells-opening re l =
      tells-refused _ re
      (failed _ (when-fails FoundTooLong Opening (length (letters u)) (lt-ltb (length lent.opening) (length (letters u)) (omega (arith, u-long))))
      ∙ ap (λ (x : ℕ). fault (record { reason = FoundTooLong; part = Opening; place = x })) u-long)

  first_fits : ul ≤ length lent.opening → F ≡ when (ltb (length lent.period) (length (letters v))) FoundTooLong Loop (length (letters v))
  first_fits l = passed _ (when-passes FoundTooLong Opening (length (letters u)) (le-ltb (length lent.opening) (length (letters u)) (omega (arith, u-long))))

  pub tells-period : {r : Refusal} → r ≡ record { reason = FoundTooLong; part = Loop; place = vl } → ul ≤ length lent.opening → length lent.period < vl → Tells n work z reached lent lent (Err r)
  tells-period re k l =
      tells-refused _ re
      (first_fits k
      ∙ (when-fails FoundTooLong Loop (length (letters v)) (lt-ltb (length lent.period) (length (letters v)) (omega (arith, v-long)))
      ∙ ap (λ (x : ℕ). fault (record { reason = FoundTooLong; part = Loop; place = x })) v-long))

  both-fit : ul ≤ length lent.opening → vl ≤ length lent.period → F ≡ sound
  both-fit k l = first_fits k ∙ when-passes FoundTooLong Loop (length (letters v)) (le-ltb (length lent.period) (length (letters v)) (omega (arith, v-long)))

  abbrev found : ℕ → ℕ → Result Reported Refusal
  found x y = Ok (Found (record { reached = reached; prefix = x; period = y }))

  pub tells_all : {o' p' : List ℕ} → ul ≤ length lent.opening → vl ≤ length lent.period → Filled (take n work) z.prefix ul lent.opening o' → Filled (take (length work - n) (drop n work)) z.period vl lent.period p'
      → Tells n work z reached lent (record { opening = o'; period = p' }) (found ul vl)
  tells_all {o'} {p'} k l fu fv = record {
    u = u;
    v = v;
    u_path = du.path;
    v_path = dv.path;
    says = ap₂ (λ (x y : ℕ). found x y) (sym u-long) (sym v-long) ∙ gives _ (both-fit k l);
    written = (λ j. record { opening = opening j; period = period j }) ∙ sym (ap (λ (f : Fault). lasso_written f (lasso (letters u) (letters v)) lent) (both-fit k l));
  }
    where
      opening : o' ≡ written (letters u) lent.opening
      opening = fu.holds ∙ ap (λ (w : Word). written (letters w) lent.opening) (path-one fu.path du.path)

      period : p' ≡ written (letters v) lent.period
      period = fv.holds ∙ ap (λ (w : Word). written (letters w) lent.period) (path-one fv.path dv.path)

module _ (P : Fdfa) {reached : ℕ} (counted : Counts (Reached P.letters P.step) P.states reached) (lent : Lent) where
  pub reports-none : ((u v : List ℕ) → Accepted P u v → ⊥) → Reports P lent lent (Ok (Absent (record { reached = reached; prefix = 0; period = 0 })))
  reports-none none = record {
    reached = reached;
    witness = absent;
    counted = counted;
    answers = none_has none;
    says = refl;
    written = λ j. record { opening = written_none lent.opening j; period = written_none lent.period j };
  }

  pub reports-first : {n : ℕ} {work : List ℕ} {z : LassoCodes} → FirstAt (λ u v. Accepted P (letters u) (letters v)) n work z → n ≤ length work → {after : Lent} {r : Result Reported Refusal} (m : ℕ) → m ≡ n → Tells (m - 1) work z reached lent after r
      → Reports P lent after r
  reports-first {n} {work} {z} A fits {after} {r} m e T₀ = record {
    reached = reached;
    witness = lasso (letters A.u) (letters A.v);
    counted = counted;
    answers = first_is (first-letters A.first);
    says = subst₂ (λ (u v : Word). r ≡ unless (room_fault (lasso (letters u) (letters v)) lent) (report_of reached (lasso (letters u) (letters v)))) eu ev T.says;
    written = subst₂ (λ (u v : Word). after ≡ lasso_written (room_fault (lasso (letters u) (letters v)) lent) (lasso (letters u) (letters v)) lent) eu ev T.written;
  }
    where
      T : Tells (n - 1) work z reached lent after r
      T = subst (λ (k : ℕ). Tells (k - 1) work z reached lent after r) e T₀

      eu : T.u ≡ A.u
      eu = path-one T.u_path A.u_path

      ev : T.v ≡ A.v
      ev = path-one T.v_path (rw (tail-is (n - 1) work (omega arith)) A.v_path)

-- the same of equal slices and answers
pub reports-as : {P : Fdfa} {before : Lent} {o o' p p' : List ℕ} {r r' : Result Reported Refusal} → o' ≡ o → p' ≡ p → r' ≡ r → Reports P before (record { opening = o; period = p }) r
    → Reports P before (record { opening = o'; period = p' }) r'
reports-as {P} {before} oe pe re R = record {
  reached = R.reached;
  witness = R.witness;
  counted = R.counted;
  answers = R.answers;
  says = re ∙ R.says;
  written = (λ i. record { opening = oe i; period = pe i }) ∙ R.written;
}
