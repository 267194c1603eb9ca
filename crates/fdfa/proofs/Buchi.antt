-- The family of a deterministic Büchi automaton accepts a lasso exactly if the automaton accepts its infinite word, so that its
-- verdict depends on that word alone (002, Theorem 5.3). Assumes nothing.
use mathlib.Core.Path.{◌≡◌, refl, ap, sym, subst, ◌∙◌}
use mathlib.Core.Bool.{Bool, true, false, ◌||◌, or-true, false≢true}
use mathlib.Core.List.{List, [], ◌∷◌, ◌++◌}
use mathlib.Core.Logic.{◌⊎◌, inl, inr}
use Prim.Native.Nat.{ℕ, zero, suc, ◌+◌, ◌*◌, ◌-◌, ◌/◌, ◌%◌, ◌<◌}
use native.Mathlib.Omega.{arith}
use native.Mathlib.Decide.{ℕ_discrete}
use native.Mathlib.Nat.{add-zero, add-suc, mul-pos, mod-lt, div-add-mod', le-mul_of_pos_right}
use lib.ListN.{length}
use Rattle.slices.specs.Tables.{tab}
use Rattle.slices.proofs.Tables.{tab-append}
use Rattle.fdfa.specs.Words.{power}
use Rattle.fdfa.specs.Family.{Fdfa, walk, Lasso}
use Rattle.fdfa.specs.Normalization.{after, preperiod, period_count}
use Rattle.fdfa.specs.Acceptance.{accepts}
use Rattle.fdfa.specs.Invariance.{TurnProof}
use Rattle.fdfa.specs.OmegaWord.{letter_at}
use Rattle.fdfa.specs.Buchi.{Dba, CompleteDba, run, EntersFrom, AcceptsWord, pair_number_of, pair_flag, from_buchi}
use Rattle.fdfa.proofs.Words.{lasso-power, walk-append}
use Rattle.fdfa.proofs.Returns.{rounds}
use Rattle.fdfa.proofs.Normal.{follows, inside, normal}
use Rattle.fdfa.proofs.OmegaWord.{turned-letter, turn-letter, prefix-table, power-table, some-period, letter-below}
use Rattle.fdfa.proofs.BuchiPairs.{pair-flag, pair-start, buchi-complete, pair_step_lem}

-- Some of f 0, .., f (k − 1) is true.
unfoldable seen : (ℕ → Bool) → ℕ → Bool
seen f zero = false
seen f (suc k) = seen f k || f k

seen-some : (f : ℕ → Bool) (k t : ℕ) → t < k → f t ≡ true → seen f k ≡ true
unfolding seen
seen-some f zero t h e = absurd (omega arith)
seen-some f (suc k) t h e = by (ℕ_discrete t k) (seen-some f k t)
  where
    by : Dec (t ≡ k) → (t < k → f t ≡ true → seen f k ≡ true) → seen f k || f k ≡ true
    by (yes d) ih = ap (λ (b : Bool). seen f k || b) (ap f (sym d) ∙ e) ∙ or-true (seen f k)
    by (no d) ih = ap (λ (b : Bool). b || f k) (ih (omega arith) e)

either : (a b : Bool) → a || b ≡ true → (a ≡ true) ⊎ (b ≡ true)
either true b e = inl refl
either false b e = inr e

seen-where : (f : ℕ → Bool) (k : ℕ) → seen f k ≡ true → (t : ℕ) × (t < k) × (f t ≡ true)
unfolding seen
seen-where f zero e = absurd (false≢true e)
seen-where f (suc k) e = by (either (seen f k) (f k) e) (seen-where f k)
  where
    by : (seen f k ≡ true) ⊎ (f k ≡ true) → (seen f k ≡ true → (t : ℕ) × (t < k) × (f t ≡ true)) → (t : ℕ) × (t < suc k) × (f t ≡ true)
    by (inl p) ih = ((ih p).0, omega (arith, (ih p).1), (ih p).2)
    by (inr p) ih = (k, omega arith, p)

module _ (D : Dba) (w : ℕ → ℕ) where
  -- the letter t places after position x leads into an accepting state
  abbrev entering : ℕ → ℕ → Bool
  entering x t = D.accepting (run D w (suc (x + t)))

  -- the run is the walk over the letters, from the start and from any position
  run-start : (m : ℕ) → run D w m ≡ walk D.step 0 (tab m w)
  unfolding run tab
  run-start zero = refl
  run-start (suc m) = ap (λ (q : ℕ). D.step q (w m)) (run-start m) ∙ sym (walk-append D.step 0 (tab m w) (w m ∷ []))

  run_on : (m k : ℕ) → run D w (m + k) ≡ walk D.step (run D w m) (tab k (λ t. w (m + t)))
  run_on m k =
      run-start (m + k)
      ∙ (ap (walk D.step 0) (sym (tab-append m k w))
      ∙ (walk-append D.step 0 (tab m w) (tab k (λ t. w (m + t)))
      ∙ ap (λ (q : ℕ). walk D.step q (tab k (λ t. w (m + t)))) (sym (run-start m))))

  module _ (complete : CompleteDba D) (over : (m : ℕ) → w m < D.letters) where
    run-below : (m : ℕ) → run D w m < D.states
    unfolding run
    run-below zero = complete.start
    run-below (suc m) = complete.leads (run D w m) (w m) (run-below m) (over m)

    -- the progress automaton of the state at position x, k letters on: the state there, and whether an accepting one was entered
    remembers : (x k : ℕ) → walk ((from_buchi D).progress (run D w x)) 0 (tab k (λ t. w (x + t)))
        ≡ pair_number_of D.states (run D w x) (run D w (x + k)) (seen (entering x) k)
    unfolding run tab seen
    remembers x zero =
        sym (ap (λ (m : ℕ). pair_number_of D.states (run D w x) (run D w m) false) (add-zero x) ∙ pair-start D.states (run D w x) (run-below x))
    remembers x (suc k) =
        walk-append ((from_buchi D).progress (run D w x)) 0 (tab k (λ t. w (x + t))) (w (x + k) ∷ [])
        ∙ (ap (λ (p : ℕ). (from_buchi D).progress (run D w x) p (w (x + k))) (remembers x k)
        ∙ (pair_step_lem D complete (run D w x) (run D w (x + k)) (w (x + k)) (seen (entering x) k) (run-below x) (run-below (x + k))
        ∙ ap (λ (m : ℕ). pair_number_of D.states (run D w x) (run D w m) (seen (entering x) (suc k))) (sym (add-suc x k))))

-- The law of the translation, for every lasso.
module _ (D : Dba) (complete : CompleteDba D) (u v : List ℕ) (lasso : Lasso D.letters u v) where
  abbrev F : Fdfa
  F = from_buchi D

  abbrev w : ℕ → ℕ
  w = letter_at u v

  -- the position after u and a turns
  abbrev at : ℕ → ℕ
  at a = length u + a * length v

  abbrev i : ℕ
  i = preperiod F u v

  abbrev j : ℕ
  j = period_count F u v

  run-after : (a : ℕ) → run D w (at a) ≡ after F u v a
  run-after a = run-start D w (at a) ∙ ap (walk D.step 0) (sym (prefix-table u v a (some-period lasso)))

  -- from equal states the run goes on alike
  alike : (a b : ℕ) → after F u v a ≡ after F u v b → (t : ℕ) → entering D w (at a) t ≡ entering D w (at b) t
  unfolding run
  alike a b e t = λ k. D.accepting (D.step (there k) (letter t k))
    where
      letter : (s : ℕ) → w (at a + s) ≡ w (at b + s)
      letter s = turn-letter u v a s (some-period lasso) ∙ sym (turn-letter u v b s (some-period lasso))

      here : run D w (at a) ≡ run D w (at b)
      here = run-after a ∙ (e ∙ sym (run-after b))

      there : run D w (at a + t) ≡ run D w (at b + t)
      there = run_on D w (at a) t ∙ ((λ k. walk D.step (here k) (tab t (λ s. letter s k))) ∙ sym (run_on D w (at b) t))

  -- the state after i turns comes back after each j more
  back : (m : ℕ) → after F u v (i + m * j) ≡ after F u v i
  back m = sym (rounds F.states (after F u v) (follows F (buchi-complete D complete) u v lasso) (inside F (buchi-complete D complete) u v lasso) i j (normal F (buchi-complete D complete) u v lasso).same m)

  -- the verdict: an accepting state is entered within the j turns
  accepts-seen : accepts F u v ≡ seen (entering D w (at i)) (j * length v)
  accepts-seen =
      ap (λ (q : ℕ). pair_flag (walk (F.progress q) 0 (power v j))) (sym (run-after i))
      ∙ (ap (λ (y : List ℕ). pair_flag (walk (F.progress (run D w (at i))) 0 y)) (power-table u v i j (some-period lasso))
      ∙ (ap pair_flag (remembers D w complete (letter-below lasso) (at i) (j * length v))
      ∙ pair-flag D.states (run D w (at i)) (run D w (at i + j * length v)) (seen (entering D w (at i)) (j * length v))))

  some_turn : 0 < j
  some_turn = (normal F (buchi-complete D complete) u v lasso).positive

  pub accepted-enters : accepts (from_buchi D) u v ≡ true → AcceptsWord D (letter_at u v)
  accepted-enters e m = record {
    position = at (i + m * j) + t.0;
    later = omega (arith, le-mul_of_pos_right m some_turn, le-mul_of_pos_right (m * j) (some-period lasso));
    enters = alike (i + m * j) i (back m) t.0 ∙ t.2;
  }
    where
      t : (t : ℕ) × (t < j * length v) × (entering D w (at i) t ≡ true)
      t = seen-where (entering D w (at i)) (j * length v) (sym accepts-seen ∙ e)

  pub enters-accepted : AcceptsWord D (letter_at u v) → accepts (from_buchi D) u v ≡ true
  enters-accepted h =
      accepts-seen
      ∙ seen-some (entering D w (at i)) (j * length v) t (mod-lt d (mul-pos some_turn (some-period lasso)))
      (alike i (i + c * j) (sym (back c)) t ∙ (ap (λ (m : ℕ). D.accepting (run D w (suc m))) place ∙ e.enters))
    where
      e : EntersFrom D w (at i)
      e = h (at i)

      d : ℕ
      d = e.position - at i

      c : ℕ
      c = d / (j * length v)

      t : ℕ
      t = d % (j * length v)

      place : at (i + c * j) + t ≡ e.position
      place = omega (arith, div-add-mod' d (j * length v), e.later)

-- Acceptance depends on the infinite word alone.
pub word-accepted : (D : Dba) {w w' : ℕ → ℕ} → ((m : ℕ) → w m ≡ w' m) → AcceptsWord D w → AcceptsWord D w'
word-accepted D e = subst (λ (x : ℕ → ℕ). AcceptsWord D x) (λ k m. e m k)

same_test : (a b : Bool) → (a ≡ true → b ≡ true) → (b ≡ true → a ≡ true) → a ≡ b
same_test true b f g = sym (f refl)
same_test false true f g = g refl
same_test false false f g = refl

module _ (D : Dba) (complete : CompleteDba D) where
  -- the family is saturated: lassos with one infinite word have one verdict
  pub buchi-saturated : (u v u' v' : List ℕ) → Lasso D.letters u v → Lasso D.letters u' v'
      → ((m : ℕ) → letter_at u v m ≡ letter_at u' v' m) → accepts (from_buchi D) u v ≡ accepts (from_buchi D) u' v'
  buchi-saturated u v u' v' l l' e =
      same_test (accepts (from_buchi D) u v) (accepts (from_buchi D) u' v')
      (λ a. enters-accepted D complete u' v' l' (word-accepted D e (accepted-enters D complete u v l a)))
      (λ a. enters-accepted D complete u v l (word-accepted D (λ m. sym (e m)) (accepted-enters D complete u' v' l' a)))

  pub buchi-turn-proof : TurnProof (from_buchi D)
  buchi-turn-proof u v l a b h =
      buchi-saturated (u ++ power v a) (power v b) u v (lasso-power l a b h) l (λ m. turned-letter u v a b m (some-period l) h)
