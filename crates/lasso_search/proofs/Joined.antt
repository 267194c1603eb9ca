-- Searches over tables and the automata whose steps the tables have. Assumes nothing.
use mathlib.Core.Path.{◌≡◌, refl, ap, sym, ◌∙◌}
use mathlib.Core.Bool.{Bool, true, false, cond, ◌&&◌}
use mathlib.Core.List.{List}
use Prim.Native.Nat.{ℕ, ◌+◌, ◌*◌, ◌/◌, ◌%◌, ◌≤◌, ◌<◌}
use native.Mathlib.Omega.{arith}
use lib.Arith.{digits_div, digits_mod}
use lib.Dec.{eqb}
use lib.ListN.{length, get_or}
use borrow.Author.Tests.{eq-eqb, eqb-true}
use Rattle.slices.proofs.Tests.{and_left, and_right, both}
use Rattle.fdfa.specs.Family.{Closed}
use Rattle.fdfa.specs.Boolean.{beside}
use Rattle.search.specs.Words.{Word, ε, ◌·◌, ◌⊑◌, run, Over}
use Rattle.search.specs.Search.{Space, reach, Bounded, Search, Ends, row_step, Tables, Aim, joint, Ready}
use Rattle.search.proofs.Product.{run-within, prod-run}
use Rattle.search.proofs.Status.{met-none}
use Rattle.search.proofs.Theory.{search-none}
use Rattle.search.proofs.Joint.{bounded}
use Rattle.search.proofs.Outcomes.{init}
use Rattle.lasso_search.specs.Codes.{Tabulated, fresh_at, Fresh}

-- two automata with the same steps run alike
run-same : {s m : ℕ} {f g : ℕ → ℕ → ℕ} → Closed s m g → ((q a : ℕ) → q < m → a < s → f q a ≡ g q a) → {q : ℕ} → q < m → (w : Word) → Over s w → run f q w ≡ run g q w
run-same c e h ε o = refl
run-same {f = f} c e h (w · a) o = ap (λ (x : ℕ). f x a) (run-same c e h w o.0) ∙ e _ a (run-within c h w o.0) o.1

module _ {leads rows : List ℕ} {n k s : ℕ} {L R : ℕ → ℕ → ℕ} (l : Tabulated leads n s L) (r : Tabulated rows k s R) (some : 0 < n) where
  pub tables : Tables leads rows n k s
  tables = record {
    some = some;
    few_leads = l.few;
    few_rows = r.few;
    few_letters = l.few_letters;
    leads_long = l.long;
    rows_long = r.long;
    leads_closed = λ q a h i. rw (l.steps q a h i) (l.closed q a h i);
    rows_closed = λ q a h i. rw (r.steps q a h i) (r.closed q a h i);
  }

  module _ (root : ℕ) (rn : root < n) (rk : 0 < k) (aim : Aim) where
    -- side by side, each automaton runs by itself
    pub joint-run : (w : Word) → Over s w → reach (joint leads rows n s root aim) w ≡ run R 0 w * n + run L root w
    joint-run w o =
        let z : root ≡ 0 * n + root = omega arith in
        ap (λ (x : ℕ). run (beside n (row_step rows s) (row_step leads s)) x w) z
        ∙ (prod-run tables.rows_closed tables.leads_closed rk rn w o
        ∙ λ i. run-same r.closed r.steps rk w o i * n + run-same l.closed l.steps rn w o i)

    pub joint-lead : (w : Word) → Over s w → reach (joint leads rows n s root aim) w % n ≡ run L root w
    joint-lead w o = ap (λ (x : ℕ). x % n) (joint-run w o) ∙ digits_mod (run R 0 w) (run-within l.closed rn w o)

    pub joint-row : (w : Word) → Over s w → reach (joint leads rows n s root aim) w / n ≡ run R 0 w
    joint-row w o = ap (λ (x : ℕ). x / n) (joint-run w o) ∙ digits_div (run R 0 w) (run-within l.closed rn w o)

-- the status before a search, and what is looked for
abbrev pub aim_at : ℕ → ℕ → ℕ → (ℕ → Bool) → Aim
aim_at n q k ends = record { rows = k; lo = 1; fresh = fresh_at n q ends }

fresh-range : (n q : ℕ) (ends : ℕ → Bool) (x : ℕ) → (1 ≤ fresh_at n q ends x) × (fresh_at n q ends x ≤ 2)
fresh-range n q ends x = by (eqb (x % n) q && ends (x / n))
  where
    by : (b : Bool) → (1 ≤ cond b 2 1) × (cond b 2 1 ≤ 2)
    by true = (omega arith, omega arith)
    by false = (omega arith, omega arith)

-- a status of 2 says that the leading state is q, and that the row ends
pub fresh-says : (n q : ℕ) (ends : ℕ → Bool) (x : ℕ) → fresh_at n q ends x ≡ 2 → (x % n ≡ q) × (ends (x / n) ≡ true)
fresh-says n q ends x e = by (eqb (x % n) q && ends (x / n)) refl
  where
    by : (b : Bool) → eqb (x % n) q && ends (x / n) ≡ b → (x % n ≡ q) × (ends (x / n) ≡ true)
    by true d = (eqb-true (x % n) q (and_left (eqb (x % n) q) (ends (x / n)) d), and_right (eqb (x % n) q) (ends (x / n)) d)
    by false d = let z : ◌≡◌ {A = ℕ} 1 2 = sym (ap (λ (b : Bool). cond b 2 1) d) ∙ e in absurd (omega arith)

pub says-fresh : (n q : ℕ) (ends : ℕ → Bool) (x : ℕ) → x % n ≡ q → ends (x / n) ≡ true → fresh_at n q ends x ≡ 2
says-fresh n q ends x d e = ap (λ (b : Bool). cond b 2 1) (both _ _ (eq-eqb (x % n) q d) e)

module _ {leads rows : List ℕ} {n k s : ℕ} {L R : ℕ → ℕ → ℕ} (l : Tabulated leads n s L) (r : Tabulated rows k s R) (some : 0 < n) {q : ℕ} (qn : q < n) (rk : 0 < k) (ends : ℕ → Bool) where
  abbrev J : Space
  J = joint leads rows n s q (aim_at n q k ends)

  -- a search of combinations can begin
  pub begin : {status cells : List ℕ} → Fresh status n q k ends → k * n + 1 ≤ length cells → Ready leads rows n s q status cells 1 0 (aim_at n q k ends)
  begin {status} m room = record {
    tables = tables l r some;
    bounded = B;
    leading = qn;
    search = init (joint leads rows n s q (aim_at n q k ends)) B.starts m.long room (omega arith) (omega (arith, met-none status met))
        (λ x h z. absurd (omega (arith, fresh-range n q ends x, m.each x h, z))) (λ z. absurd (omega arith)) (λ x h z. m.each x h);
  }
    where
      B : Bounded (joint leads rows n s q (aim_at n q k ends))
      B = bounded {aim = aim_at n q k ends} (tables l r some) qn rk (omega arith) (λ x h. fresh-range n q ends x)

      met : (i : ℕ) → i < length status → 1 ≤ get_or status i 0
      met i h = rw (m.each i (rw (← m.long) h)) (fresh-range n q ends i).0

  -- an ending is a period that leads back and ends
  pub ending : {cells : List ℕ} {code : ℕ} (E : Ends J cells code) → (run L q E.word ≡ q) × (ends (run R 0 E.word) ≡ true)
  ending E =
      let f = fresh-says n q ends (reach J E.word) E.ends in
      (sym (joint-lead l r some q qn rk (aim_at n q k ends) E.word E.over) ∙ f.0, rw (joint-row l r some q qn rk (aim_at n q k ends) E.word E.over) at f.1)

  back-fresh : (v : Word) → Over s v → run L q v ≡ q → ends (run R 0 v) ≡ true → fresh_at n q ends (reach J v) ≡ 2
  back-fresh v o e t =
      says-fresh n q ends (reach J v) (joint-lead l r some q qn rk (aim_at n q k ends) v o ∙ e) (rw (joint-row l r some q qn rk (aim_at n q k ends) v o) t)

  pub ending-first : {cells : List ℕ} {code : ℕ} (E : Ends J cells code) (v : Word) → Over s v → (v ≡ ε → ⊥) → run L q v ≡ q → ends (run R 0 v) ≡ true → E.word ⊑ v
  ending-first E v o ne e t = E.least v o ne (back-fresh v o e t)

  pub no-ending : (B : Bounded J) {status cells : List ℕ} {total head : ℕ} → Search J status cells total head 0 → total ≤ head → (v : Word) → Over s v → (v ≡ ε → ⊥) → run L q v ≡ q → ends (run R 0 v) ≡ true → ⊥
  no-ending B S done v o ne e t = search-none B S done v o ne (back-fresh v o e t)
