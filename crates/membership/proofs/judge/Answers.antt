-- `membership::judge` meets its contract: the lasso is checked, normalized, and run over by the progress automaton. Assumes nothing.
use Rattle.std.specs.Prelude.{Result, Ok, Err}
use mathlib.Core.Path.{◌≡◌, ap, sym, ◌∙◌}
use mathlib.Core.List.{List}
use Prim.Native.Nat.{ℕ, ◌+◌, ◌<◌}
use native.Mathlib.Omega.{arith}
use Rattle.slices.specs.declared.Refusal.{Refusal}
use Rattle.slices.specs.Refusals.{sound}
use Rattle.slices.specs.LassoLetters.{letters_fault}
use Rattle.slices.proofs.Refusals.{refuses, gives, was-given, was-refused}
use Rattle.fdfa.specs.Family.{walk, Lasso}
use Rattle.fdfa.specs.Normalization.{preperiod, period_count}
use Rattle.fdfa.specs.Acceptance.{loop_state, verdict}
use Rattle.fdfa.proofs.Letters.{letters-lasso}
use Rattle.fdfa.proofs.Normal.{inside}
use Rattle.packed.specs.declared.Sizes.{Sizes}
use Rattle.packed.specs.Layout.{letter_count, state_count, decode, Valid}
use Rattle.packed.specs.Faults.{sizes_of}
use Rattle.packed.specs.Columns.{columns_of}
use Rattle.packed.proofs.Reading.{lead-walks}
use Rattle.packed.proofs.Soundness.{valid-packable}
use Rattle.prefix_pass.proofs.Leading.{columns-fit, lead-table, stepping}
use Rattle.membership.specs.declared.Normalization.{Normalization}
use Rattle.membership.specs.declared.Judgement.{Judgement}
use Rattle.membership.specs.Verdict.{says_of}
use Rattle.membership.specs.Steps.{checked_lasso, judged_lasso, turns_from, Returns, ended_of}
use Rattle.membership.proofs.Turns.{turning, normalizes}
use Rattle.membership.proofs.judge.Goals as goal

-- a check that refused is the answer
passed_on : (b u v t : List ℕ) (s : ℕ) {x : Refusal} {r : Result Judgement Refusal} → s ≡ letter_count b → r ≡ Err x → Err x ≡ checked_lasso t s u v → says_of r ≡ judged_lasso b u v
passed_on b u v t s es h e =
    ap says_of h ∙ refuses (verdict (decode b) u v) (ap (λ (n : ℕ). letters_fault n u v) (sym es) ∙ was-refused (letters_fault s u v) _ e)

-- the letters of the sheet
letters : (b : List ℕ) {z : Sizes} → z ≡ sizes_of b → z.letters ≡ letter_count b
letters b e = ap (λ (z : Sizes). z.letters) e

-- the lasso is good, and the state is the one after the prefix
module _ (b u v : List ℕ) (ok : Valid b) {z : Sizes} (sizes : z ≡ sizes_of b) {t : List ℕ} (table : t ≡ columns_of b (2 + z.states) z.letters z.states) {q : ℕ} (found : Ok q ≡ checked_lasso t z.letters u v) where
  fine : letters_fault (letter_count b) u v ≡ sound
  fine = ap (λ (n : ℕ). letters_fault n u v) (sym (letters b sizes)) ∙ (was-given (letters_fault z.letters u v) _ found).0

  lasso : Lasso (letter_count b) u v
  lasso = letters-lasso _ _ _ fine

  after : q ≡ walk (decode b).step 0 u
  after = (was-given (letters_fault z.letters u v) _ found).1 ∙ (lead-walks b ok (lead-table b ok sizes table) ok.header.some_states lasso.prefix).1

  -- its normalization
  module _ {n : Normalization} (returns : Returns (turns_from t q v) n) where
    normal : (n.i ≡ preperiod (decode b) u v) × (n.j ≡ period_count (decode b) u v) × (n.state ≡ loop_state (decode b) u v)
    normal = normalizes _ _ _ ok lasso (lead-table b ok sizes table) after returns

    state-below : n.state < state_count b
    state-below = omega (arith, normal.2, inside (decode b) (valid-packable b ok).complete u v lasso (preperiod (decode b) u v))

pub overflow_add-z : goal.overflow_add-z
overflow_add-z c = omega (arith, ap (λ (z : Sizes). z.states) c.requires.1, c.requires.0.header.few_states)

pub columns-table-requires : goal.columns-table-requires
columns-table-requires c = columns-fit _ c.requires.0 c.requires.1

pub check-checked-requires : goal.check-checked-requires
check-checked-requires c = stepping _ c.requires.0 c.requires.1 c.columns-table.ensures

pub returns-in_default : goal.returns-in_default
returns-in_default c =
    passed_on c.args.sheet.now c.args.prefix.now c.args.period.now c.columns-table.result _ (letters c.args.sheet.now c.requires.1) (c.refused.ensures _ c.in_default.is) c.in_default.ensures

pub normalize-n-requires : goal.normalize-n-requires
normalize-n-requires c =
    turning _ _ _ c.requires.0 (lasso c.args.sheet.now c.args.prefix.now c.args.period.now c.requires.0 c.requires.1 c.columns-table.ensures c.in-Ok.ensures) (lead-table _ c.requires.0 c.requires.1 c.columns-table.ensures) (after c.args.sheet.now c.args.prefix.now c.args.period.now c.requires.0 c.requires.1 c.columns-table.ensures c.in-Ok.ensures)

pub progress-ended-requires : goal.progress-ended-requires
progress-ended-requires c = record {
  valid = (c.requires.0, (lasso c.args.sheet.now c.args.prefix.now c.args.period.now c.requires.0 c.requires.1 c.columns-table.ensures c.in-Ok.ensures).period, state-below c.args.sheet.now c.args.prefix.now c.args.period.now c.requires.0 c.requires.1 c.columns-table.ensures c.in-Ok.ensures c.normalize-n.ensures);
  letters_value = letters c.args.sheet.now c.requires.1;
}

pub returns : goal.returns
returns c =
    let n = normal c.args.sheet.now c.args.prefix.now c.args.period.now c.requires.0 c.requires.1 c.columns-table.ensures c.in-Ok.ensures c.normalize-n.ensures in
    let e = c.progress-ended.ensures ∙ (λ x. ended_of (decode c.args.sheet.now) c.args.period.now (n.2 x) (n.1 x)) in
    (λ x. Ok (record { accepted = (e x).accepted; i = n.0 x; j = n.1 x; state = n.2 x; end = (e x).end }))
    ∙ gives _ (fine c.args.sheet.now c.args.prefix.now c.args.period.now c.requires.0 c.requires.1 c.columns-table.ensures c.in-Ok.ensures)
