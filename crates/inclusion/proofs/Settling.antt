-- What the answer of a call says of the lasso that it was given for and of the slices, and the refusals before the search, whatever was
-- searched for. Assumes nothing.
use Rattle.slices.specs.declared.Reason.TheVariants.{TooFewCells}
use Rattle.std.specs.Prelude.{Result, Ok, Err}
use mathlib.Core.Path.{◌≡◌, refl, ap, ap₂, sym, subst, ◌∙◌}
use mathlib.Core.Bool.{Bool, true, false, cond, true≢false}
use Prim.Native.Nat.{ℕ, ◌≤◌, ◌<◌}
use native.Mathlib.Omega.{arith}
use lib.ListN.{length, take, replicate}
use borrow.Author.Tests.{lt-ltb, le-ltb}
use Rattle.slices.specs.declared.Part.TheVariants.{Work}
use Rattle.slices.specs.declared.Refusal.{Refusal}
use Rattle.slices.specs.Refusals.{Fault, sound, fault, ◌then◌}
use Rattle.slices.specs.Filling.{filled}
use Rattle.slices.proofs.Filling.{filled-front}
use Rattle.slices.proofs.Refusals.{when-fails, when-passes, passed, failed, refuses, was-given}
use Rattle.fdfa.specs.Enumeration.{Witness, absent, lasso}
use Rattle.fdfa.specs.Inclusion as model
use Rattle.lasso_search.specs.Lassos.{Lent, prefix_of, period_of}
use Rattle.inclusion.specs.declared.Comparison.{Comparison}
use Rattle.inclusion.specs.declared.Outcome.{Outcome}
use Rattle.inclusion.specs.declared.Outcome.TheVariants.{Absent, Found}
use Rattle.inclusion.specs.Outcomes.{numbers_of, is_absent, answered, answer_of}
use Rattle.inclusion.specs.Calls as calls
use Rattle.inclusion.specs.Calls.{Slices, call_fault, cells_fault, Settled}

-- an answer and the witness that it was given for: whether there is none, R, and the lengths of what the slices begin with
pub record GivenFor (R : ℕ) (w : Witness) (l : Lent) (none : Bool) (r a b : ℕ) : Type 0 where
  pub absence : none ≡ is_absent w
  pub counted : r ≡ R
  pub prefix_is : a ≡ length (prefix_of w)
  pub period_is : b ≡ length (period_of w)
  pub prefix-in : a ≤ length l.opening
  pub period_in : b ≤ length l.period
  pub prefix : take a l.opening ≡ prefix_of w
  pub period : take b l.period ≡ period_of w

pub given-for : (w : Witness) (before : Lent) {after : Lent} {R r a b : ℕ} {none : Bool} {f : Fault} → f ≡ sound → none ≡ is_absent w → r ≡ R
    → a ≡ length (prefix_of w) → b ≡ length (period_of w)
    → after.opening ≡ filled f (prefix_of w) before.opening → after.period ≡ filled f (period_of w) before.period → GivenFor R w after none r a b
given-for w before {after} {a = a} {b = b} e n c i j o p = record { absence = n; counted = c; prefix_is = i; period_is = j; prefix-in = x.0; period_in = y.0; prefix = x.1; period = y.1 }
  where
    x : (a ≤ length after.opening) × (take a after.opening ≡ prefix_of w)
    x = filled-front (prefix_of w) before.opening e i o

    y : (b ≤ length after.period) × (take b after.period ≡ period_of w)
    y = filled-front (period_of w) before.period e j p

-- the witness, by the answer
pub for-absent : {R : ℕ} (w : Witness) {l : Lent} {r a b : ℕ} → GivenFor R w l true r a b → w ≡ absent
for-absent absent s = refl
for-absent (lasso u v) s = absurd (true≢false s.absence)

pub for-lasso : {R : ℕ} (w : Witness) {l : Lent} {r a b : ℕ} → GivenFor R w l false r a b → w ≡ lasso (take a l.opening) (take b l.period)
for-lasso absent s = absurd (true≢false (sym s.absence))
for-lasso (lasso u v) s = sym (ap₂ lasso s.prefix s.period)

-- of the answer of a call
abbrev pub AnswerFor : model.Comparison → Lent → Result Outcome Refusal → Type 0
AnswerFor C l (Ok (Absent z)) = GivenFor C.reached C.witness l true z.reached z.prefix z.period
AnswerFor C l (Ok (Found z)) = GivenFor C.reached C.witness l false z.reached z.prefix z.period
AnswerFor C l (Err r) = Unit {0}

-- what an answer says, and that it is the model's
abbrev pub says_none : Outcome → Bool
says_none (Absent z) = true
says_none (Found z) = false

abbrev pub numbers_in : Outcome → Comparison
numbers_in (Absent z) = z
numbers_in (Found z) = z

answered-parts : (t : Bool) (z : Comparison) → (says_none (answered t z) ≡ t) × (numbers_in (answered t z) ≡ z)
answered-parts true z = (refl, refl)
answered-parts false z = (refl, refl)

-- what is told by cases of the code's answer, of the model's
pub answered-by : {A : Type 0} (f : Outcome → A) (C : model.Comparison) → f (answer_of C) ≡ cond (is_absent C.witness) (f (Absent (numbers_of C))) (f (Found (numbers_of C)))
answered-by {A} f C = by (is_absent C.witness)
  where
    by : (t : Bool) → f (answered t (numbers_of C)) ≡ cond t (f (Absent (numbers_of C))) (f (Found (numbers_of C)))
    by true = refl
    by false = refl

pub settled-given : {start : Fault} (C : model.Comparison) {cells : ℕ} {before after : Slices} {r : Result Outcome Refusal} {x : Outcome} → Settled start C cells before after r
    → r ≡ Ok x → (call_fault start C before ≡ sound) × (says_none x ≡ is_absent C.witness) × (numbers_in x ≡ numbers_of C)
settled-given {start} C {before = before} S e =
    let g = was-given (call_fault start C before) (answer_of C) (sym e ∙ S.says) in
    let p = answered-parts (is_absent C.witness) (numbers_of C) in
    (g.0, ap says_none g.1 ∙ p.0, ap numbers_in g.1 ∙ p.1)

pub settled-for : {start : Fault} {C : model.Comparison} {cells : ℕ} {before after : Slices} (r : Result Outcome Refusal) → Settled start C cells before after r → AnswerFor C (calls.lasso after) r
settled-for {start} {C} {cells} {before} {after} r S = by r S
  where
    numbered : {r : Result Outcome Refusal} {none : Bool} {z : Comparison} → Settled start C cells before after r → (call_fault start C before ≡ sound) × (none ≡ is_absent C.witness) × (z ≡ numbers_of C)
        → GivenFor C.reached C.witness (calls.lasso after) none z.reached z.prefix z.period
    numbered S (f, n, e) =
        given-for C.witness (calls.lasso before) f n (ap (λ (x : Comparison). x.reached) e) (ap (λ (x : Comparison). x.prefix) e) (ap (λ (x : Comparison). x.period) e) S.opening S.period

    by : (r : Result Outcome Refusal) → Settled start C cells before after r → AnswerFor C (calls.lasso after) r
    by (Ok (Absent z)) S = numbered S (settled-given C S refl)
    by (Ok (Found z)) S = numbered S (settled-given C S refl)
    by (Err r) S = tt

-- what is settled where the sheets are good is settled
pub settled-good : {F W : Fault} {C : model.Comparison} {cells : ℕ} {before after : Slices} {r : Result Outcome Refusal} → F ≡ sound → Settled W C cells before after r → Settled (F then W) C cells before after r
settled-good {W = W} {C} {cells} {before} {after} {r} good S = subst (λ (f : Fault). Settled f C cells before after r) (sym (passed W good)) S

-- m cells are needed
module _ {work cells m : ℕ} (e : m ≡ cells) where
  pub cells-refused : work < m → cells_fault cells work ≡ fault (record { reason = TooFewCells; part = Work; place = m })
  cells-refused l = when-fails TooFewCells Work cells (lt-ltb work cells (omega arith)) ∙ ap (λ (x : ℕ). fault (record { reason = TooFewCells; part = Work; place = x })) (sym e)

  pub cells-suffice : m ≤ work → cells_fault cells work ≡ sound
  cells-suffice l = when-passes TooFewCells Work cells (le-ltb work cells (omega arith))

module _ (start : Fault) (C : model.Comparison) (cells : ℕ) (before : Slices) where
  -- refused before the search
  pub settled-refused : {r : Refusal} (z : Refusal) → r ≡ z → start ≡ fault z → Settled start C cells before before (Err r)
  settled-refused z re sf = record {
    says = ap Err re ∙ refuses _ cf;
    opening = sym (ap (λ (f : Fault). filled f (prefix_of C.witness) before.opening) cf);
    period = sym (ap (λ (f : Fault). filled f (period_of C.witness) before.period) cf);
    work = sym (ap (λ (f : Fault). filled f (replicate cells 0) before.work) sf);
  }
    where
      cf : call_fault start C before ≡ fault z
      cf = failed _ sf
