-- The search of the leading states alone: the progress stands still. Assumes nothing.
use mathlib.Core.Path.{◌≡◌, refl, ap, sym, subst₂, ◌∙◌}
use mathlib.Core.List.{List}
use Prim.Native.Nat.{ℕ, zero, suc, ◌+◌, ◌*◌, ◌-◌, ◌/◌, ◌%◌, ◌≤◌, ◌<◌}
use native.Mathlib.Omega.{arith}
use native.Mathlib.Decide.{ℕ_discrete}
use lib.ListN.{length, get_or, take, set, replicate, length-replicate, length-set}
use lib.Seq.{get_or-take, get_or-set_same, get_or-set_other}
use borrow.Author.Tests.{ne_eqb}
use Rattle.fdfa.specs.Inclusion.{Counts, Reached}
use Rattle.search.specs.Words.{Word, ε, ◌·◌, run, Over, letters}
use Rattle.search.specs.Queue.{place_at, met}
use Rattle.search.specs.Paths.{Path, at_root, at_step}
use Rattle.search.specs.Search.{Space, reach, Bounded, Search, Ends, Aim, joint, Ready}
use Rattle.search.proofs.Status.{met-none, met-set, counts}
use Rattle.search.proofs.Letters.{letters-over, walk-letters, word, word_over, run-word}
use Rattle.search.proofs.Theory.{search-all, search-rises}
use Rattle.search.proofs.Steps.{path-of}
use Rattle.search.proofs.Joint.{bounded, state-is}
use Rattle.search.proofs.Outcomes.{init, codes-few}
use Rattle.lasso_search.specs.Codes.{Tabulated, Leads}
use Rattle.lasso_search.proofs.Status.{get_d_replicate}
use Rattle.lasso_search.proofs.Joined.{tables, joint-run}

-- an automaton of one state that stands still
abbrev pub still : ℕ → ℕ → ℕ
still q a = 0

pub stands-still : {s : ℕ} → s ≤ 32 → Tabulated (replicate 32 0) 1 s still
stands-still {s} h = record {
  few = omega arith;
  few_letters = h;
  long = rw (length-replicate {A = ℕ} 32 0) (omega arith);
  closed = λ q a i l. omega arith;
  steps = λ q a i l. let z : q ≡ 0 = omega arith in get_d_replicate 32 0 (q * s + a) (omega (arith, ap (λ (x : ℕ). x * s) z));
}

pub run-still : (w : Word) → run still 0 w ≡ 0
run-still ε = refl
run-still (w · a) = refl

-- every state is looked at, and none ends the search
abbrev pub everywhere : Aim
everywhere = record { rows = 1; lo = 0; fresh = λ x. 1 }

-- the root is met, and no other state
pub record Rooted (status : List ℕ) (n : ℕ) : Type 0 where
  pub long : length status ≡ n
  pub root : get_or status 0 0 ≡ 0
  pub others : (x : ℕ) → x < n → (x ≡ 0 → ⊥) → get_or status x 0 ≡ 1

pub rooted : (n : ℕ) → 0 < n → Rooted (set (replicate n 1) 0 0) n
rooted n h = record {
  long = length-set (replicate n 1) 0 0 ∙ length-replicate {A = ℕ} n 1;
  root = get_or-set_same (replicate n 1) 0 0 0 (rw (length-replicate {A = ℕ} n 1) h);
  others = λ x l d. get_or-set_other (replicate n 1) 0 x 0 0 d ∙ get_d_replicate n 1 x l;
}

module _ {leads : List ℕ} {n s : ℕ} {L : ℕ → ℕ → ℕ} (l : Tabulated leads n s L) (some : 0 < n) where
  abbrev J : Space
  J = joint leads (replicate 32 0) n s 0 everywhere

  B : Bounded J
  B = bounded {aim = everywhere} (tables l (stands-still l.few_letters) some) some (omega arith) (omega arith) (λ x h. (omega arith, omega arith))

  pub begin-leads : {cells : List ℕ} → n ≤ length cells → Ready leads (replicate 32 0) n s 0 (set (replicate n 1) 0 0) cells 1 0 everywhere
  begin-leads room = record {
    tables = tables l (stands-still l.few_letters) some;
    bounded = B;
    leading = some;
    search = init J B.starts (R.long ∙ one-row) (omega (arith, one-row)) (omega arith) (omega (arith, count))
        (λ x h z. (nought, root-only x (omega (arith, one-row)) z)) (λ z. (R.root, once)) (λ x h z. R.others x (omega (arith, one-row)) (λ d. z (ap (λ (y : ℕ). get_or (set (replicate n 1) 0 0) y 0) d ∙ R.root)));
  }
    where
      R : Rooted (set (replicate n 1) 0 0) n
      R = rooted n some

      nought : ◌≡◌ {A = ℕ} 0 0
      nought = refl

      once : ◌≡◌ {A = ℕ} 1 1
      once = refl

      one-row : n ≡ 1 * n
      one-row = omega arith

      count : ◌≡◌ {A = ℕ} (met (set (replicate n 1) 0 0)) 1
      count =
          omega (
            arith,
            met-set (replicate n 1) 0 0 (rw (length-replicate {A = ℕ} n 1) some),
            met-none (replicate n 1) (λ i h. omega (arith, get_d_replicate n 1 i (rw (← length-replicate {A = ℕ} n 1) h))),
            get_d_replicate n 1 0 some,
          )

      root-only : (x : ℕ) → x < n → ◌≡◌ {A = ℕ} (get_or (set (replicate n 1) 0 0) x 0) 0 → x ≡ 0
      root-only x h z = by (ℕ_discrete x 0)
        where
          by : Dec (x ≡ 0) → x ≡ 0
          by (yes d) = d
          by (no d) = absurd (omega (arith, R.others x h d, z))

  reach-is : (w : Word) → Over s w → reach J w ≡ run L 0 w
  reach-is w o = joint-run l (stands-still l.few_letters) some 0 some (omega arith) everywhere w o ∙ omega (arith, ap (λ (x : ℕ). x * n) (run-still w))

  -- a word is read off the cells before the last
  path-take : (m : ℕ) (cells : List ℕ) {c : ℕ} {w : Word} → Path cells c w → c ≤ m → Path (take m cells) c w
  path-take m cells at_root h = at_root
  path-take m cells (at_step {i = i} o e a r) h =
      let g : get_or (take m cells) i 0 ≡ get_or cells i 0 = get_or-take m cells i 0 h in
      at_step o (e ∙ sym (ap (λ (x : ℕ). x / 34359738368) g)) (a ∙ sym (ap (λ (x : ℕ). x / 1073741824 % 32) g)) (path-take m cells r (omega arith))

  place-take : (m : ℕ) (cells : List ℕ) (c : ℕ) → c ≤ m → place_at 0 (take m cells) c ≡ place_at 0 cells c
  unfolding place_at
  place-take m cells zero h = refl
  place-take m cells (suc i) h = rw (ne_eqb (suc i) 0 (λ z. omega arith)) (ap (λ (x : ℕ). x % 1073741824) (get_or-take m cells (suc i - 1) 0 (omega arith)))

  -- a search to the end finds what prefixes reach
  pub leads-of : {status cells : List ℕ} {total : ℕ} → Search J status cells total total 0 → Leads L s n (take (n - 1) cells) total
  leads-of {status} {cells} {total} S = record {
    W = S.W;
    some = S.some;
    most = few;
    over = S.over;
    paths = λ j h. path-take (n - 1) cells (path-of B S.W S.start total S.over S.inside S.entries j h) (omega (arith, few));
    states = λ j h. ap (λ (x : ℕ). x % 1048576) (place-take (n - 1) cells j (omega (arith, few))) ∙ (state-is {aim = everywhere} (tables l (stands-still l.few_letters) some) B some S j h ∙ reach-is (S.W j) (S.over j h));
    inside = λ j h. rw (← reach-is (S.W j) (S.over j h)) (omega (arith, S.inside j h));
    rises = search-rises B S;
    all = λ u o. let h = search-all B S (omega arith) u o in (h.at, h.below, sym (reach-is (S.W h.at) (S.over h.at h.below)) ∙ (h.state ∙ reach-is u o), h.early);
    counted = subst₂ (Counts (Reached s L)) (S.size ∙ one-row) (omega (arith, S.counted))
        (counts (Reached s L) status
        (λ x h z. let m = S.by x (rw (← S.size) h) z in record { by = letters (S.W m.0); over = letters-over (S.W m.0) (S.over m.0 m.2); goes = walk-letters L 0 (S.W m.0) ∙ (sym (reach-is (S.W m.0) (S.over m.0 m.2)) ∙ m.3) })
        (λ x h y. let w = word y.by in let g = search-all B S (omega arith) w (word_over y.over) in
        rw (g.state ∙ (reach-is w (word_over y.over) ∙ (run-word L 0 y.by ∙ y.goes))) at (S.lit g.at (omega arith) g.below)));
  }
    where
      one-row : 1 * n ≡ n
      one-row = omega arith

      few : total ≤ n
      few = omega (arith, codes-few S, one-row)

  pub none-ends : {cells : List ℕ} {code : ℕ} → Ends J cells code → ⊥
  none-ends E = let z : ◌≡◌ {A = ℕ} 1 2 = E.ends in omega arith
