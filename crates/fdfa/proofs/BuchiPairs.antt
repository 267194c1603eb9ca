-- The family of a deterministic Büchi automaton: its numbering of pairs is a bijection, it is complete, its progress automata
-- remember what they should, and automata that are the same have families that agree. Assumes nothing.
use mathlib.Core.Path.{◌≡◌, refl, ap, ap₂, sym, ◌∙◌}
use mathlib.Core.Bool.{Bool, true, false, cond, ◌||◌}
use mathlib.Core.List.{List}
use Prim.Native.Nat.{ℕ, ◌+◌, ◌*◌, ◌-◌, ◌/◌, ◌%◌, ◌≤◌, ◌<◌}
use native.Mathlib.Omega.{arith}
use native.Mathlib.Decide.{dec_lt, ℕ_discrete}
use native.Mathlib.Nat.{mod-lt, mod_self, mod-eq_of_lt, mod-add-mod, add-mod_right, mod-eq-sub-mod}
use lib.Dec.{eqb}
use borrow.Author.Tests.{eq-eqb, ne_eqb}
use Rattle.fdfa.specs.Words.{Over, done, below}
use Rattle.fdfa.specs.Family.{Complete, walk, Agrees}
use Rattle.fdfa.specs.Buchi.{Dba, CompleteDba, SameDba, pair_number_of, pair_state, pair_flag, entered, from_buchi}

-- a number with a last bit: its half, and the bit
half : (x : ℕ) (b : Bool) → (2 * x + cond b 1 0) / 2 ≡ x
half x true = omega arith
half x false = omega arith

bit : (x : ℕ) (b : Bool) → eqb ((2 * x + cond b 1 0) % 2) 1 ≡ b
bit x true = eq-eqb ((2 * x + 1) % 2) 1 (omega arith)
bit x false = ne_eqb ((2 * x + 0) % 2) 1 (omega arith)

bit-of : (p : ℕ) → cond (eqb (p % 2) 1) 1 0 ≡ p % 2
bit-of p = by (ℕ_discrete (p % 2) 1)
  where
    by : Dec (p % 2 ≡ 1) → cond (eqb (p % 2) 1) 1 0 ≡ p % 2
    by (yes e) = ap (λ (b : Bool). cond b 1 0) (eq-eqb (p % 2) 1 e) ∙ sym e
    by (no e) = ap (λ (b : Bool). cond b 1 0) (ne_eqb (p % 2) 1 e) ∙ omega arith

-- A pair's number shows its state and its flag, and is below 2n.
pub pair-state : (n q r : ℕ) (b : Bool) → q < n → r < n → pair_state n q (pair_number_of n q r b) ≡ r
pair-state n q r b h l =
    let back : r + n - q + q ≡ r + n = omega arith in
    ap (λ (x : ℕ). (x + q) % n) (half ((r + n - q) % n) b)
    ∙ (mod-add-mod (r + n - q) n q ∙ (ap (λ (x : ℕ). x % n) back ∙ (add-mod_right r n ∙ mod-eq_of_lt l)))

pub pair-flag : (n q r : ℕ) (b : Bool) → pair_flag (pair_number_of n q r b) ≡ b
pair-flag n q r b = bit ((r + n - q) % n) b

pub pair-below : (n q r : ℕ) (b : Bool) → 0 < n → pair_number_of n q r b < 2 * n
pair-below n q r true h = omega (arith, mod-lt (r + n - q) h)
pair-below n q r false h = omega (arith, mod-lt (r + n - q) h)

-- The start of the automaton of q is q itself, with nothing entered.
pub pair-start : (n q : ℕ) → q < n → pair_number_of n q q false ≡ 0
pair-start n q h =
    let whole : q + n - q ≡ n = omega arith in
    omega (arith, ap (λ (x : ℕ). x % n) whole ∙ mod_self n)

-- q on and q back, around the circle of n
around : (n q x : ℕ) → q < n → x < n → ((x + q) % n + n - q) % n ≡ x
around n q x h l = by (dec_lt (x + q) n)
  where
    by : Dec (x + q < n) → ((x + q) % n + n - q) % n ≡ x
    by (yes k) =
        let here : (x + q) % n + n - q ≡ x + n = omega (arith, mod-eq_of_lt k) in
        ap (λ (y : ℕ). y % n) here ∙ (add-mod_right x n ∙ mod-eq_of_lt l)
    by (no k) =
        let over : n ≤ x + q = omega arith in
        let left : x + q - n < n = omega arith in
        let here : (x + q) % n + n - q ≡ x = omega (arith, mod-eq-sub-mod over, mod-eq_of_lt left) in
        ap (λ (y : ℕ). y % n) here ∙ mod-eq_of_lt l

-- Each number below 2n is that of its state and flag.
pub pair-number : (n q p : ℕ) → q < n → p < 2 * n → pair_number_of n q (pair_state n q p) (pair_flag p) ≡ p
pair-number n q p h l =
    let low : p / 2 < n = omega arith in
    omega (arith, around n q (p / 2) h low, bit-of p)

module _ (D : Dba) (complete : CompleteDba D) where
  pub buchi-complete : Complete (from_buchi D)
  buchi-complete = record {
    start = complete.start;
    leads = complete.leads;
    starts = λ q h. omega (arith, complete.start);
    progresses = λ q h p a k l. pair-below D.states q (next q p a) (pair_flag p || D.accepting (next q p a)) complete.start;
  }
    where
      next : ℕ → ℕ → ℕ → ℕ
      next q p a = D.step (pair_state D.states q p) a

  -- the step of the progress automaton of q, from a pair
  pub pair_step_lem : (q r a : ℕ) (b : Bool) → q < D.states → r < D.states
      → (from_buchi D).progress q (pair_number_of D.states q r b) a ≡ pair_number_of D.states q (D.step r a) (b || D.accepting (D.step r a))
  pair_step_lem q r a b h l =
      ap₂ (λ (y : ℕ) (c : Bool). pair_number_of D.states q (D.step y a) (c || D.accepting (D.step y a)))
      (pair-state D.states q r b h l) (pair-flag D.states q r b)

-- the progress automaton of q remembers the state, and whether an accepting one was entered since the start
module _ (D : Dba) (complete : CompleteDba D) (q : ℕ) (h : q < D.states) where
  remembers-on : (r : ℕ) → r < D.states → (b : Bool) {w : List ℕ} → Over D.letters w → walk ((from_buchi D).progress q) (pair_number_of D.states q r b) w ≡ pair_number_of D.states q (walk D.step r w) (b || entered D r w)
  unfolding entered
  remembers-on r l b done = ap (pair_number_of D.states q r) (or-none b)
    where
      or-none : (x : Bool) → x ≡ x || false
      or-none true = refl
      or-none false = refl
  remembers-on r l b (below {a = a} {w = w} k o) =
      ap (λ (p : ℕ). walk ((from_buchi D).progress q) p w) (pair_step_lem D complete q r a b h l)
      ∙ (remembers-on (D.step r a) (complete.leads r a l k) (b || D.accepting (D.step r a)) o
      ∙ ap (pair_number_of D.states q (walk D.step (D.step r a) w)) (or_assoc b (D.accepting (D.step r a)) (entered D (D.step r a) w)))
    where
      or_assoc : (x y z : Bool) → (x || y) || z ≡ x || (y || z)
      or_assoc true y z = refl
      or_assoc false y z = refl

  pub remembers : {w : List ℕ} → Over D.letters w → walk ((from_buchi D).progress q) 0 w ≡ pair_number_of D.states q (walk D.step q w) (entered D q w)
  remembers {w} o = ap (λ (p : ℕ). walk ((from_buchi D).progress q) p w) (sym (pair-start D.states q h)) ∙ remembers-on q h false o

-- being the same, the other way round and by way of a third
pub same_back : {D E : Dba} → SameDba D E → SameDba E D
same_back h = record {
  letters = sym h.letters;
  states = sym h.states;
  steps = λ q a l k. sym (h.steps q a (omega (arith, h.states)) (omega (arith, h.letters)));
  accepting = λ p l. sym (h.accepting p (omega (arith, h.states)));
}

pub same_then : {D E F : Dba} → SameDba D E → SameDba E F → SameDba D F
same_then h g = record {
  letters = h.letters ∙ g.letters;
  states = h.states ∙ g.states;
  steps = λ q a l k. h.steps q a l k ∙ g.steps q a (omega (arith, h.states)) (omega (arith, h.letters));
  accepting = λ p l. h.accepting p l ∙ g.accepting p (omega (arith, h.states));
}

-- automata that are the same have families that agree
module _ (D : Dba) (complete : CompleteDba D) (E : Dba) (same : SameDba D E) where
  pairs-same : (q p a : ℕ) → a < D.letters → (from_buchi D).progress q p a ≡ (from_buchi E).progress q p a
  pairs-same q p a l =
      ap (λ (t : Bool). pair_number_of D.states q r (pair_flag p || t)) (same.accepting r (complete.leads at a low l))
      ∙ (λ i. pair_number_of (same.states i) q (goes i) (pair_flag p || E.accepting (goes i)))
    where
      at : ℕ
      at = pair_state D.states q p

      r : ℕ
      r = D.step at a

      low : at < D.states
      low = mod-lt (p / 2 + q) complete.start

      goes : r ≡ E.step (pair_state E.states q p) a
      goes = same.steps at a low l ∙ ap (λ (n : ℕ). E.step (pair_state n q p) a) same.states

  pub buchi-agrees : Agrees (from_buchi D) (from_buchi E)
  buchi-agrees = record {
    letters = same.letters;
    states = same.states;
    steps = same.steps;
    sizes = λ q h. ap (λ (n : ℕ). 2 * n) same.states;
    progresses = λ q p a h k l. pairs-same q p a l;
    marks = λ q p h k. refl;
  }
