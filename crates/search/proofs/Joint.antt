-- Two automata side by side by their tables, and the numbers by which a state is expanded. Assumes nothing.
use mathlib.Core.Path.{◌≡◌, ap, sym, ◌∙◌}
use mathlib.Core.List.{List}
use Prim.Native.Nat.{ℕ, zero, suc, ◌+◌, ◌*◌, ◌-◌, ◌/◌, ◌%◌, ◌≤◌, ◌<◌}
use native.Mathlib.Omega.{arith}
use native.Mathlib.Nat.{mod-lt, mul-le-mul, div-add-mod', div-eq_of_lt, mul-add}
use lib.Arith.{digits_lt, digits_div}
use lib.ListN.{length, get_or}
use borrow.Author.Tests.{ne_eqb}
use Rattle.fdfa.proofs.Product.{left_below}
use Rattle.search.specs.Queue.{entry, place_at}
use Rattle.search.specs.Search.{Space, reach, Bounded, Search, row_step, Tables, Aim, joint}

module _ {leads rows : List ℕ} {n k s : ℕ} (T : Tables leads rows n k s) where
  -- one next state
  module _ (x a : ℕ) (x_n : x < k * n) (al : a < s) where
    abbrev lead : ℕ
    lead = row_step leads s (x % n) a

    abbrev row : ℕ
    row = row_step rows s (x / n) a

    abbrev next : ℕ
    next = row * n + lead

    y-in : x / n < k
    y-in = left_below T.some x_n

    r-in : x % n < n
    r-in = mod-lt x T.some

    pub lead-cell : x % n * s + a < length leads
    lead-cell = omega (arith, digits_lt r-in al, T.leads_long)

    pub row-cell : x / n * s + a < length rows
    row-cell = omega (arith, digits_lt y-in al, T.rows_long)

    pub lead-in : lead < n
    lead-in = T.leads_closed (x % n) a r-in al

    pub row_in : row < k
    row_in = T.rows_closed (x / n) a y-in al

    pub next-in : next < k * n
    next-in = digits_lt row_in lead-in

    -- the number that the code computes has the next state below 2^20 and its row above
    module _ {w₁ w₂ : ℕ} (e₁ : w₁ ≡ lead) (e₂ : w₂ ≡ row) where
      value-is : w₁ + w₂ * (n + 1048576) ≡ next + 1048576 * row
      value-is = (λ i. e₁ i + e₂ i * (n + 1048576)) ∙ omega (arith, mul-add row n 1048576)

      few : next < 1048576
      few = omega (arith, next-in, mul-le-mul T.few_rows T.few_leads)

      pub value-few : w₁ + w₂ * (n + 1048576) < 1073741824
      value-few = omega (arith, value-is, few, row_in, T.few_rows)

      pub value-state : (w₁ + w₂ * (n + 1048576)) % 1048576 ≡ next
      value-state = omega (arith, value-is, few)

      pub value-entry : (head : ℕ) → w₁ + w₂ * (n + 1048576) + 1073741824 * (a + 32 * head) ≡ entry next (next / n) a head
      value-entry head = omega (arith, value-is, digits_div row lead-in)

-- what the code computes of the place p of a code: its state, its row, and its lead
pub record Stands (n N x p : ℕ) : Type 0 where
  pub state : p % 1048576 ≡ x
  pub row : p / 1048576 ≡ p % 1048576 / n
  pub lead : p % 1048576 - p / 1048576 * n ≡ p % 1048576 % n
  pub inside : p % 1048576 < N

-- what is searched over such tables
module _ {leads rows : List ℕ} {n s root : ℕ} {aim : Aim} (T : Tables leads rows n aim.rows s) where
  pub bounded : root < n → 0 < aim.rows → aim.lo ≤ 1 → ((x : ℕ) → x < aim.rows * n → (1 ≤ aim.fresh x) × (aim.fresh x ≤ 2)) → Bounded (joint leads rows n s root aim)
  bounded rn some low status = record {
    closed = next-in T;
    few_letters = T.few_letters;
    few_states = mul-le-mul T.few_rows T.few_leads;
    few_rows = λ x h. let y : x / n < aim.rows = left_below T.some h in omega (arith, T.few_rows);
    low = low;
    starts = let h : 0 * n + root < aim.rows * n = digits_lt some rn in omega arith;
    status = status;
  }

  -- the place of a code is its state with its row above
  module _ (B : Bounded (joint leads rows n s root aim)) (rn : root < n) {status cells : List ℕ} {total head b : ℕ} (S : Search (joint leads rows n s root aim) status cells total head b) where
    abbrev P : Space
    P = joint leads rows n s root aim

    pub place_is : (code : ℕ) → code < total → place_at root cells code ≡ reach P (S.W code) + 1048576 * (reach P (S.W code) / n)
    unfolding place_at
    place_is zero h =
        let z : reach P (S.W 0) ≡ root = ap (reach P) S.start in
        let y : root / n ≡ 0 = div-eq_of_lt rn in omega (arith, z, ap (λ (x : ℕ). x / n) z, y)
    place_is (suc i) h =
        let e = S.entries i h in
        let x = S.inside (suc i) h in
        let y = B.few_rows (reach P (S.W (suc i))) x in
        let d : suc i - 1 ≡ i = omega arith in
        rw (ne_eqb (suc i) 0 (λ z. omega arith)) (ap (λ (j : ℕ). get_or cells j 0 % 1073741824) d ∙ omega (arith, e.stands, B.few_states))

    pub state-is : (code : ℕ) → code < total → place_at root cells code % 1048576 ≡ reach P (S.W code)
    state-is code h = omega (arith, place_is code h, S.inside code h, B.few_states)

    pub stands : (code : ℕ) → code < total → {p : ℕ} → p ≡ place_at root cells code → Stands n P.states (reach P (S.W code)) p
    stands code h {p} e = record { state = state; row = row; lead = ap (λ (y : ℕ). p % 1048576 - y * n) row ∙ omega (arith, div-add-mod' (p % 1048576) n); inside = rw state (S.inside code h) }
      where
        state : p % 1048576 ≡ reach P (S.W code)
        state = ap (λ (x : ℕ). x % 1048576) e ∙ state-is code h

        row : p / 1048576 ≡ p % 1048576 / n
        row = omega (arith, e, place_is code h, S.inside code h, B.few_states) ∙ ap (λ (x : ℕ). x / n) (sym state)
