-- The sheet that accepts nothing is valid, and inclusion in it is emptiness. Assumes nothing.
use Rattle.std.specs.Prelude.{Result, Ok, Err}
use Rattle.slices.specs.declared.Refusal.{Refusal}
use mathlib.Core.Path.{◌≡◌, refl, ap, ap₂, sym, subst, subst₂, ◌∙◌}
use mathlib.Core.Bool.{false}
use mathlib.Core.List.{List, ◌∷◌}
use Prim.Native.Nat.{ℕ, zero, suc, ◌+◌, ◌*◌, ◌-◌, ◌≤◌, ◌<◌}
use native.Mathlib.Omega.{arith}
use native.Mathlib.Nat.{mul-one, add-zero, not-suc-le-zero, le_of_suc-le-suc}
use lib.Dec.{eqb}
use lib.ListN.{length, get_or, take, replicate, length-replicate}
use Rattle.fdfa.specs.Words.{Over}
use Rattle.fdfa.specs.Family.{Fdfa, Complete, walk}
use Rattle.fdfa.specs.Normalization.{Normalized}
use Rattle.fdfa.specs.Boolean.{beside, product}
use Rattle.fdfa.specs.Enumeration.{Witness}
use Rattle.fdfa.specs.Inclusion.{Counterexample, Accepted, Answers, none_has, first_is, Counts, of_none, has_it, lacks_it, Reached, widest, nowhere, standing, Comparison, comparison, emptiness}
use Rattle.slices.specs.Extremes.{largest}
use Rattle.fdfa.proofs.Words.{walk-closed}
use Rattle.fdfa.proofs.Normal.{back-normalized, normalized-accepts}
use Rattle.fdfa.proofs.Product.{beside-start, product-complete}
use Rattle.fdfa.proofs.Emptiness.{answers-unique, answers-map, answers-first, emptiness-answers, empty-none}
use Rattle.fdfa.proofs.Inclusion.{but_not, comparison-answers}
use Rattle.fdfa.proofs.Reach.{counts-unique, reached-states}
use Rattle.slices.specs.declared.Part.TheVariants as part
use Rattle.slices.specs.Refusals.{sound}
use Rattle.slices.specs.Tables.{sum}
use Rattle.packed.specs.Layout.{letter_count, state_count, size_of, leading_at, progress_at_value, marks_at, decode, Valid}
use Rattle.packed.specs.Faults.{sheet_fault}
use Rattle.packed.proofs.Soundness.{valid-packable}
use Rattle.pairing.specs.declared.PairSizes.{PairSizes}
use Rattle.pairing.specs.Pairs as pairing
use Rattle.pairing.specs.Pairs.{Alike}
use Rattle.lasso_search.specs.Lassos.{Lent}
use Rattle.inclusion.specs.declared.Outcome.{Outcome}
use Rattle.inclusion.specs.declared.Outcome.TheVariants.{Absent, Found}
use Rattle.inclusion.specs.Calls as calls
use Rattle.inclusion.specs.Calls.{Slices, Settled, compare_cells, empty_cells, empty_start, DecidesEmptiness, Emptied, Searched}
use Rattle.inclusion.specs.Nothing.{nothing_bytes}
use Rattle.inclusion.proofs.Settling.{AnswerFor, for-absent, for-lasso, settled-for, settled-good}

zeros-get_or : (m x : ℕ) → ◌≡◌ {A = ℕ} (get_or (replicate m 0) x 0) 0
zeros-get_or zero x = refl
zeros-get_or (suc m) zero = refl
zeros-get_or (suc m) (suc x) = zeros-get_or m x

only : (q : ℕ) → q < 1 → q ≡ 0
only q h = omega arith

module _ (s : ℕ) where
  abbrev N : List ℕ
  N = nothing_bytes s

  cell : (x : ℕ) → 3 ≤ x → get_or N x 0 ≡ 0
  cell x h = let e : suc (suc (suc (x - 3))) ≡ x = omega arith in subst (λ (y : ℕ). get_or N y 0 ≡ 0) e (zeros-get_or (2 * s + 1) (x - 3))

  behind : (q : ℕ) → 3 ≤ progress_at_value N q
  unfolding progress_at_value
  behind q = omega arith

  whole : size_of N 0 ≡ 1
  whole = refl

  ends : progress_at_value N 1 ≡ 4 + 2 * s
  unfolding progress_at_value sum
  ends = omega arith

  pub nothing-length : length N ≡ 4 + 2 * s
  nothing-length = let e : length (replicate {A = ℕ} (2 * s + 1) 0) ≡ 2 * s + 1 = length-replicate {A = ℕ} (2 * s + 1) 0 in omega arith

  one_state : (q : ℕ) → q < 1 → size_of N q ≡ 1
  one_state q h = ap (size_of N) (only q h)

  pub nothing-valid : 1 ≤ s → s ≤ 32 → Valid N
  nothing-valid some few = record {
    header = record {
      long = omega (arith, nothing-length);
      some_letters = some;
      few_letters = few;
      some_states = omega arith;
      few_states = omega arith;
      some_size = λ q h. omega (arith, one_state q h);
      few_size = λ q h. omega (arith, one_state q h);
    };
    exact = nothing-length ∙ sym ends;
    leads = λ q a h l. omega (arith, cell (leading_at N + (q * s + a)) (omega arith));
    progresses = λ q h p a l m. omega (arith, one_state q h, cell (progress_at_value N q + (p * s + a)) (omega (arith, behind q)));
    marks = λ q p h l. omega (arith, cell (marks_at N q + p) (omega (arith, behind q)));
  }

  unmarked : (q p : ℕ) → (decode N).accepting q p ≡ false
  unmarked q p = ap (λ (x : ℕ). eqb x 1) (cell (marks_at N q + p) (omega (arith, behind q)))

  pub nothing-widest : widest (decode N) ≡ 1
  unfolding largest
  nothing-widest = refl

  -- as it is built
  pub nothing-built : s ≤ 32 → take (4 + 2 * s) (s ∷ 1 ∷ 1 ∷ replicate 65 0) ≡ N
  nothing-built few =
      let e : 4 + 2 * s ≡ suc (suc (suc (2 * s + 1))) = omega arith in
      ap (λ (k : ℕ). take k (s ∷ 1 ∷ 1 ∷ replicate 65 0)) e ∙ ap (λ (l : List ℕ). s ∷ 1 ∷ 1 ∷ l) (take-zeros (2 * s + 1) 65 (omega arith))
    where
      take-zeros : (n m : ℕ) → n ≤ m → take n (replicate {A = ℕ} m 0) ≡ replicate n 0
      take-zeros zero m h = refl
      take-zeros (suc n) zero h = absurd (not-suc-le-zero h)
      take-zeros (suc n) (suc m) h = ap (λ (l : List ℕ). 0 ∷ l) (take-zeros n m (le_of_suc-le-suc h))

-- a sheet beside it
module _ (b : List ℕ) (valid : Valid b) where
  pub alike-nothing : {c : List ℕ} → c ≡ nothing_bytes (letter_count b) → Alike b c
  alike-nothing e =
      subst (Alike b) (sym e)
      (record { first = valid; second = nothing-valid (letter_count b) valid.header.some_letters valid.header.few_letters; letters = refl })

  pub sizes-beside : {c : List ℕ} → c ≡ nothing_bytes (letter_count b) → ◌≡◌ {A = PairSizes} (record { letters = letter_count b; first = state_count b; second = 1; pairs = state_count b; widest = widest (decode b) }) (pairing.sizes_of b c)
  sizes-beside e =
      (λ i. record { letters = letter_count b; first = state_count b; second = 1; pairs = sym (mul-one (state_count b)) i; widest = (sym (mul-one (widest (decode b))) ∙ ap (λ (k : ℕ). widest (decode b) * k) (sym (nothing-widest (letter_count b)))) i })
      ∙ ap (pairing.sizes_of b) (sym e)

-- inclusion in it is emptiness
module _ (F : Fdfa) (CF : Complete F) (some : 1 ≤ F.letters) (few : F.letters ≤ 32) where
  abbrev G : Fdfa
  G = decode (nothing_bytes F.letters)

  CG : Complete G
  CG = (valid-packable (nothing_bytes F.letters) (nothing-valid F.letters some few)).complete

  at-start : {w : List ℕ} → Over F.letters w → {q : ℕ} → q < 1 → walk G.step q w ≡ 0
  at-start o h = only _ (walk-closed CG.leads h o)

  counter-accepted : (u v : List ℕ) → Counterexample F G u v → Accepted F u v
  counter-accepted u v c = record { lasso = c.lasso; closes = c.first_closes; accepted = c.accepted }

  accepted-counter : (u v : List ℕ) → Accepted F u v → Counterexample F G u v
  accepted-counter u v a = record {
    lasso = a.lasso;
    first_closes = a.closes;
    second_closes = closes;
    accepted = a.accepted;
    rejected = normalized-accepts G u v closes ∙ unmarked F.letters _ _;
  }
    where
      closes : Normalized G u v
      closes = back-normalized G CG u v a.lasso (at-start a.lasso.period (walk-closed CG.leads (omega arith) a.lasso.prefix) ∙ sym (at-start a.lasso.prefix (omega arith)))

  empty-witness : (comparison F G).witness ≡ (emptiness F).witness
  empty-witness = answers-unique (answers-map counter-accepted accepted-counter (comparison-answers F G refl CF CG)) (emptiness-answers F CF)

  -- it has no other state to stand at
  stands-nowhere : {w : Witness} → Answers (Counterexample F G) w → standing G w ≡ nowhere
  stands-nowhere (none_has n) = refl
  stands-nowhere (first_is {u = u} {v = v} f) = λ i. record { waits = only q below i; ends = only p last i }
    where
      q : ℕ
      q = walk G.step 0 u

      below : q < 1
      below = walk-closed CG.leads CG.start f.has.lasso.prefix

      p : ℕ
      p = walk (G.progress q) 0 v

      last : p < 1
      last = subst (λ (k : ℕ). p < k) (one_state F.letters q below) (walk-closed (CG.progresses q below) (CG.starts q below) f.has.lasso.period)

  pair-reached : (w : List ℕ) → Over F.letters w → walk (beside 1 F.step G.step) 0 w ≡ walk F.step 0 w
  pair-reached w o =
      beside-start F.step G.step (omega arith) CG.leads o
      ∙ (ap₂ (λ (x y : ℕ). x + y) (mul-one (walk F.step 0 w)) (at-start o (omega arith)) ∙ add-zero (walk F.step 0 w))

  counts-map : {P Q : ℕ → Type 0} {m r : ℕ} → ((x : ℕ) → P x → Q x) → ((x : ℕ) → Q x → P x) → Counts P m r → Counts Q m r
  counts-map to fro of_none = of_none
  counts-map to fro (has_it {m = m} p c) = has_it (to m p) (counts-map to fro c)
  counts-map to fro (lacks_it {m = m} n c) = lacks_it (λ q. n (fro m q)) (counts-map to fro c)

  empty-reached : {r : ℕ} → Counts (Reached F.letters (beside 1 F.step G.step)) (F.states * 1) r → r ≡ (emptiness F).reached
  empty-reached {r} c =
      counts-unique
      (counts-map
      (λ x t. record { by = t.by; over = t.over; goes = sym (pair-reached t.by t.over) ∙ t.goes })
      (λ x t. record { by = t.by; over = t.over; goes = pair-reached t.by t.over ∙ t.goes })
      (subst (λ (m : ℕ). Counts (Reached F.letters (beside 1 F.step G.step)) m r) (mul-one F.states) c))
      (reached-states F CF)

  -- the counterexamples are the accepted lassos of the family
  pub empty-is : comparison F G ≡ emptiness F
  empty-is =
      let re = empty-reached (reached-states (product but_not F G) (product-complete but_not F G refl CF CG)) in
      let se = stands-nowhere (comparison-answers F G refl CF CG) in
      λ i. record { reached = re i; witness = empty-witness i; first = standing F (empty-witness i); second = se i }

  answers : {w : Witness} → (emptiness F).witness ≡ w → Answers (Accepted F) w
  answers e = subst (Answers (Accepted F)) e (emptiness-answers F CF)

  counted : {r : ℕ} → r ≡ (emptiness F).reached → Counts (Reached F.letters F.step) F.states r
  counted e = subst (Counts (Reached F.letters F.step) F.states) (sym e) (reached-states F CF)

  decides-empty : (l : Lent) (r : Result Outcome Refusal) → AnswerFor (emptiness F) l r → DecidesEmptiness F l r
  decides-empty l (Ok (Absent z)) s = (counted s.counted, empty-none F CF (for-absent (emptiness F).witness s))
  decides-empty l (Ok (Found z)) s = (counted s.counted, answers-first (answers (for-lasso (emptiness F).witness s)))
  decides-empty l (Err r) s = tt

module _ (b : List ℕ) (valid : Valid b) where
  abbrev F : Fdfa
  F = decode b

  CF : Complete F
  CF = (valid-packable b valid).complete

  pub searched-nothing : {before after : Slices} (r : Result Outcome Refusal) {c : List ℕ} → c ≡ nothing_bytes (letter_count b) → Searched (comparison F (decode c)) (compare_cells b c) before after r → Searched (emptiness F) (empty_cells b) before after r
  searched-nothing {before} {after} r e S =
      subst₂ (λ (C : Comparison) (k : ℕ). Searched C k before after r)
      (ap (λ (x : List ℕ). comparison F (decode x)) e ∙ empty-is F CF valid.header.some_letters valid.header.few_letters)
      (sym (ap (λ (z : PairSizes). z.pairs + z.pairs * z.widest) (sizes-beside b valid e)))
      S

  pub searched-emptied : {before after : Slices} (r : Result Outcome Refusal) → sheet_fault part.First b ≡ sound → Searched (emptiness F) (empty_cells b) before after r → Emptied b before after r
  searched-emptied {before} {after} r good S = record {
    settles = settled;
    decides = decides-empty F CF valid.header.some_letters valid.header.few_letters (calls.lasso after) r (settled-for r settled);
  }
    where
      settled : Settled (empty_start b (length before.work)) (emptiness F) (empty_cells b) before after r
      settled = settled-good good S
