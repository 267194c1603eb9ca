-- Transitions as the engine reads and prints them: what fits are transitions in their turns, and their text is that of their lines.
-- Assumes nothing.
use mathlib.Core.Path.{◌≡◌, refl, ap, sym, subst, ◌∙◌}
use mathlib.Core.Bool.{Bool, true, false}
use mathlib.Core.List.{List, [], ◌∷◌, ◌++◌}
use Prim.Native.Nat.{ℕ, zero, suc, ◌+◌, ◌*◌, ◌/◌, ◌%◌, ◌≤◌, ◌<◌}
use native.Mathlib.Omega.{arith}
use native.Mathlib.Decide.{dec_lt}
use native.Mathlib.Nat.{mod-lt, mod-eq_of_lt, div-eq_of_lt, le-div_iff_mul-le, div-lt_iff_lt-mul, div-le_of_le-mul}
use lib.Dec.{eqb}
use lib.ListN.{length, get_or, length-append}
use borrow.Author.Tests.{eq-eqb, ne_eqb}
use Rattle.slices.specs.Tables.{rows}
use Rattle.slices.proofs.Tables.{get_or-first, get_or-second, rows_same, below_suc}
use Rattle.fdfa.specs.Inclusion.{count_below}
use Rattle.format.specs.Format.{Format, printed, Fits, chained}
use Rattle.format.proofs.Sequences.{fits-seq}
use Rattle.format.proofs.Chained.{Begins, last_step, last-text}
use Rattle.buchi_import.specs.Text.{transition_line}
use Rattle.buchi_import.specs.Reading.{transition, transitions, of_start}
use Rattle.buchi_import.proofs.Due.{Due, more, next, due-was, Went, went, goes}

-- m transitions with the numbers vs, three each, come in their turns: by state, then letter.
pub record Shape (limit m : ℕ) (vs : List ℕ) : Type 0 where
  pub long : length vs ≡ 3 * m
  pub upto : of_start m vs ≤ m
  pub some : 0 < m → 0 < of_start m vs
  pub few_letters : of_start m vs ≤ 32
  pub few_moves : m ≤ 16 * of_start m vs
  pub letter : (i : ℕ) → i < m → get_or vs (3 * i) 0 ≡ i % of_start m vs
  pub state : (i : ℕ) → i < m → get_or vs (3 * i + 1) 0 ≡ i / of_start m vs
  pub target : (i : ℕ) → i < m → get_or vs (3 * i + 2) 0 < limit
  pub small : (i : ℕ) → i < m → get_or vs (3 * i + 2) 0 < 1000

-- what is counted depends on the values below m alone
count_same : (m : ℕ) (f g : ℕ → Bool) → ((i : ℕ) → i < m → f i ≡ g i) → count_below m f ≡ count_below m g
unfolding count_below
count_same zero f g h = refl
count_same (suc m) f g h =
    let ih = count_same m f g (λ i l. h i (omega arith)) in
    λ i. elim (h m (omega arith) i) [ true ↦ suc (ih i) | false ↦ ih i ]

-- the line of the i-th
abbrev line_of : List ℕ → ℕ → List ℕ
line_of vs i = transition_line (get_or vs (3 * i) 0) (get_or vs (3 * i + 1) 0) (get_or vs (3 * i + 2) 0)

-- After m transitions one more: its numbers are the last, and it is counted if its state is 0.
module _ (left : List ℕ) (m a q r : ℕ) (long : length left ≡ 3 * m) where
  abbrev all : List ℕ
  all = left ++ (a ∷ q ∷ r ∷ [])

  all-long : length all ≡ 3 * suc m
  all-long = omega (arith, length-append left (a ∷ q ∷ r ∷ []))

  pub kept : (j : ℕ) → j < 3 * m → get_or all j 0 ≡ get_or left j 0
  kept j l = get_or-first left (a ∷ q ∷ r ∷ []) j (omega arith)

  last_letter : get_or all (3 * m) 0 ≡ a
  last_letter = let e : 3 * m ≡ 3 * m + 0 = omega arith in ap (λ (j : ℕ). get_or all j 0) e ∙ get_or-second left (a ∷ q ∷ r ∷ []) (3 * m) 0 long

  last-state : get_or all (3 * m + 1) 0 ≡ q
  last-state = get_or-second left (a ∷ q ∷ r ∷ []) (3 * m) 1 long

  pub last-target : get_or all (3 * m + 2) 0 ≡ r
  last-target = get_or-second left (a ∷ q ∷ r ∷ []) (3 * m) 2 long

  before : count_below m (λ i. eqb (get_or all (3 * i + 1) 0) 0) ≡ of_start m left
  before = count_same m (λ i. eqb (get_or all (3 * i + 1) 0) 0) (λ i. eqb (get_or left (3 * i + 1) 0) 0) (λ i l. ap (λ (x : ℕ). eqb x 0) (kept (3 * i + 1) (omega arith)))

  pub one_more : q ≡ 0 → of_start (suc m) all ≡ suc (of_start m left)
  unfolding count_below
  one_more e = rw (eq-eqb (get_or all (3 * m + 1) 0) 0 (last-state ∙ e), count_below) (ap suc before)

  pub as_many : (q ≡ 0 → ⊥) → of_start (suc m) all ≡ of_start m left
  unfolding count_below
  as_many n = rw (ne_eqb (get_or all (3 * m + 1) 0) 0 (λ e. n (sym last-state ∙ e)), count_below) before

  lines_more : rows m (line_of left) ++ transition_line a q r ≡ rows (suc m) (line_of all)
  unfolding rows
  lines_more = λ i. rows_same m (line_of left) (line_of all) old i ++ transition_line (sym last_letter i) (sym last-state i) (sym last-target i)
    where
      old : (j : ℕ) → j < m → line_of left j ≡ line_of all j
      old j l = λ i. transition_line (sym (kept (3 * j) (omega arith)) i) (sym (kept (3 * j + 1) (omega arith)) i) (sym (kept (3 * j + 2) (omega arith)) i)

module _ (limit m : ℕ) (left : List ℕ) (s : Shape limit m left) where
  abbrev c : ℕ
  c = of_start m left

  -- with a next one, d of all are of state 0
  with-next : (a q r d : ℕ) → r < limit → r < 1000 → of_start (suc m) (left ++ (a ∷ q ∷ r ∷ [])) ≡ d → d ≤ suc m → 0 < d → d ≤ 32 → suc m ≤ 16 * d
      → ((i : ℕ) → i < m → (i % c ≡ i % d) × (i / c ≡ i / d)) → a ≡ m % d → q ≡ m / d → Shape limit (suc m) (left ++ (a ∷ q ∷ r ∷ []))
  with-next a q r d inside tiny e upto some few moves same la lq = record {
    long = all-long left m a q r s.long;
    upto = omega arith;
    some = λ l. omega arith;
    few_letters = omega arith;
    few_moves = omega arith;
    letter =
        rw e (below_suc (λ i. get_or vs (3 * i) 0 ≡ i % d) (λ i l. old (3 * i) (omega arith) ∙ (s.letter i l ∙ (same i l).0)) (last_letter left m a q r s.long ∙ la));
    state =
        rw e (below_suc (λ i. get_or vs (3 * i + 1) 0 ≡ i / d) (λ i l. old (3 * i + 1) (omega arith) ∙ (s.state i l ∙ (same i l).1)) (last-state left m a q r s.long ∙ lq));
    target = leads limit inside s.target;
    small = leads 1000 tiny s.small;
  }
    where
      vs : List ℕ
      vs = left ++ (a ∷ q ∷ r ∷ [])

      old : (j : ℕ) → j < 3 * m → get_or vs j 0 ≡ get_or left j 0
      old = kept left m a q r s.long

      leads : (n : ℕ) → r < n → ((i : ℕ) → i < m → get_or left (3 * i + 2) 0 < n) → (i : ℕ) → i < suc m → get_or vs (3 * i + 2) 0 < n
      leads n h before = below_suc (λ i. get_or vs (3 * i + 2) 0 < n) (λ i l. rw (old (3 * i + 2) (omega arith)) (before i l)) (rw (last-target left m a q r s.long) h)

  -- the next one is due: d is m + 1, or as before
  grow : (ws : List ℕ) → Went limit m c ws → Shape limit (suc m) (left ++ ws)
  grow ws w =
      subst (λ (l : List ℕ). Shape limit (suc m) (left ++ l)) (sym w.whole)
      (by (due-was m c w.letter w.state s.upto s.some w.letter_due w.state_due))
    where
      by : Due m c w.letter w.state → Shape limit (suc m) (left ++ (w.letter ∷ w.state ∷ w.to ∷ []))
      by (more e d z) =
          with-next w.letter w.state w.to (suc m) w.inside w.small (one_more left m w.letter w.state w.to s.long z ∙ ap suc e)
          (omega arith) (omega arith) (omega (arith, s.few_letters, w.letter_left)) (omega arith)
          (λ i l. let k : i < suc m = omega arith in rw (e, mod-eq_of_lt l, mod-eq_of_lt k, div-eq_of_lt l, div-eq_of_lt k) (refl, refl))
          (d ∙ sym (mod-eq_of_lt (omega arith))) (z ∙ sym (div-eq_of_lt (omega arith)))
      by (next p la lq) =
          let one : 1 ≤ m / c = (le-div_iff_mul-le {k = c} p).1 (omega (arith, s.upto)) in
          let most : m / c ≤ 16 = div-le_of_le-mul c (omega (arith, s.few_moves)) in
          let few : m / c < 16 = omega (arith, w.state_left) in
          with-next w.letter w.state w.to c w.inside w.small (as_many left m w.letter w.state w.to s.long (λ z. omega arith))
          (omega (arith, s.upto)) p s.few_letters ((div-lt_iff_lt-mul {k = c} p).0 few)
          (λ i l. (refl, refl)) la lq

abbrev steps : ℕ → ℕ → List ℕ → Format
steps limit i vs = transition limit i (of_start i vs)

pub shape : (limit m : ℕ) (vs : List ℕ) → Fits (transitions limit m) vs → Shape limit m vs
unfolding transitions chained Fits count_below
shape limit zero [] h = record {
  long = refl;
  upto = omega arith;
  some = λ l. absurd (omega arith);
  few_letters = omega arith;
  few_moves = omega arith;
  letter = λ i l. absurd (omega arith);
  state = λ i l. absurd (omega arith);
  target = λ i l. absurd (omega arith);
  small = λ i l. absurd (omega arith);
}
shape limit zero (v ∷ vs) h = absurd h
shape limit (suc m) vs h =
    let s = last_step (steps limit) m vs h in
    subst (Shape limit (suc m)) (sym s.whole)
    (grow limit m s.left (shape limit m s.left s.first) s.right (went limit m (of_start m s.left) s.right s.second))

pub moves-text : (limit m : ℕ) (vs : List ℕ) → Fits (transitions limit m) vs
    → printed (transitions limit m) vs ≡ rows m (λ i. transition_line (get_or vs (3 * i) 0) (get_or vs (3 * i + 1) 0) (get_or vs (3 * i + 2) 0))
unfolding transitions chained printed rows
moves-text limit zero vs h = refl
moves-text limit (suc m) vs h =
    let s = last_step (steps limit) m vs h in
    let w = went limit m (of_start m s.left) s.right s.second in
    let whole : vs ≡ s.left ++ (w.letter ∷ w.state ∷ w.to ∷ []) = s.whole ∙ ap (λ (l : List ℕ). s.left ++ l) w.whole in
    last-text (steps limit) m vs s
    ∙ ((λ i. moves-text limit m s.left s.first i ++ w.text i)
    ∙ (lines_more s.left m w.letter w.state w.to (shape limit m s.left s.first).long ∙ ap (λ (l : List ℕ). rows (suc m) (line_of l)) (sym whole)))

pub moves-begin : (limit : ℕ) → Begins 115 (λ i vs. transition limit i (of_start i vs))
moves-begin limit i vs ws h = let w = went limit i (of_start i vs) ws h in (_, w.text)

-- the transitions of an automaton of s letters
module _ (s : ℕ) (to : ℕ → ℕ) (h : 1 ≤ s) where
  abbrev move : ℕ → List ℕ
  move i = i % s ∷ i / s ∷ to i ∷ []

  moves_long : (m : ℕ) → length (rows m move) ≡ 3 * m
  unfolding rows
  moves_long zero = refl
  moves_long (suc m) = all-long (rows m move) m (m % s) (m / s) (to m) (moves_long m)

  -- how many of m are of state 0: all, up to s
  counts : (m : ℕ) → (m ≤ s → of_start m (rows m move) ≡ m) × (s ≤ m → of_start m (rows m move) ≡ s)
  unfolding rows count_below
  counts zero = (λ l. refl, λ l. absurd (omega arith))
  counts (suc m) = by (dec_lt m s) (counts m)
    where
      by : Dec (m < s) → (m ≤ s → of_start m (rows m move) ≡ m) × (s ≤ m → of_start m (rows m move) ≡ s)
          → (suc m ≤ s → of_start (suc m) (rows m move ++ move m) ≡ suc m) × (s ≤ suc m → of_start (suc m) (rows m move ++ move m) ≡ s)
      by (yes l) ih =
          let e = one_more (rows m move) m (m % s) (m / s) (to m) (moves_long m) (div-eq_of_lt l) in
          let d = ih.0 (omega arith) in
          (λ k. e ∙ ap suc d, λ k. omega (arith, e, d))
      by (no l) ih =
          let one : 1 ≤ m / s = (le-div_iff_mul-le {k = s} h).1 (omega arith) in
          (λ k. absurd (omega arith), λ k. as_many (rows m move) m (m % s) (m / s) (to m) (moves_long m) (λ z. omega arith) ∙ ih.1 (omega arith))

  -- each is the one that is due
  move-due : (m : ℕ) → Due m (of_start m (rows m move)) (m % s) (m / s)
  move-due m = by (dec_lt m s)
    where
      by : Dec (m < s) → Due m (of_start m (rows m move)) (m % s) (m / s)
      by (yes l) = more ((counts m).0 (omega arith)) (mod-eq_of_lt l) (div-eq_of_lt l)
      by (no l) = let e = (counts m).1 (omega arith) in next (omega (arith, e)) (ap (λ (k : ℕ). m % k) (sym e)) (ap (λ (k : ℕ). m / k) (sym e))

-- m transitions of an automaton of s letters: the i-th has the letter i % s and the state i / s, and leads to `to i`
pub moves-fit : (limit s m : ℕ) (to : ℕ → ℕ) → 1 ≤ s → s ≤ 32 → m ≤ 16 * s → limit ≤ 1000 → ((i : ℕ) → i < m → to i < limit)
    → Fits (transitions limit m) (rows m (λ i. i % s ∷ i / s ∷ to i ∷ []))
unfolding transitions chained rows Fits
moves-fit limit s zero to h k l small below = tt
moves-fit limit s (suc m) to h k l small below =
    fits-seq (chained m (steps limit)) (steps limit m) (rows m (move s to h)) (move s to h m) (moves-fit limit s m to h k (omega arith) small (λ i j. below i (omega arith)))
    (goes limit m (of_start m (rows m (move s to h))) (m % s) (m / s) (to m) (move-due s to h m)
    (omega (arith, mod-lt m {m = s} h)) ((div-lt_iff_lt-mul {k = s} h).1 l) (below m (omega arith)) small)

-- how many of them are of state 0: all, up to s
pub start-count : (s m : ℕ) (to : ℕ → ℕ) → 1 ≤ s → s ≤ m → of_start m (rows m (λ i. i % s ∷ i / s ∷ to i ∷ [])) ≡ s
start-count s m to h k = (counts s to h m).1 k
