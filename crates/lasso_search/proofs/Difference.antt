-- The difference of two sheets, as the code reads it: the tables and marks of a pair of leading states. Assumes nothing.
use mathlib.Core.Path.{◌≡◌, refl, ap, sym, subst, ◌∙◌}
use mathlib.Core.List.{List}
use Prim.Native.Nat.{ℕ, ◌+◌, ◌*◌, ◌-◌, ◌/◌, ◌%◌, ◌≤◌, ◌<◌}
use native.Mathlib.Omega.{arith}
use native.Mathlib.Nat.{mod-lt, mul-pos, mul-le-mul, mul-le-mul_right, mul_comm, one-mul}
use lib.Arith.{digits_lt}
use lib.ListN.{length, get_or, get_or-append}
use Rattle.slices.specs.Filling.{written}
use Rattle.slices.specs.Tables.{table}
use Rattle.slices.proofs.Extremes.{largest-le}
use Rattle.slices.proofs.Filling.{length-written}
use Rattle.slices.proofs.Tables.{length-table, get_or-table}
use Rattle.fdfa.specs.Family.{Complete}
use Rattle.fdfa.specs.Boolean.{beside}
use Rattle.fdfa.specs.Inclusion.{widest}
use Rattle.fdfa.proofs.Product.{left_below, product-complete}
use Rattle.fdfa.proofs.Inclusion.{but_not}
use Rattle.packed.specs.Layout.{state_count, size_of, leading_at, progress_at_value, table_step, decode}
use Rattle.packed.proofs.Soundness.{valid-packable}
use Rattle.pairing.specs.declared.Beside.{Beside}
use Rattle.pairing.specs.declared.PairSizes.{PairSizes}
use Rattle.pairing.specs.Pairs.{Alike, leads_of, progress_of, marks_of, next_pair_of, sizes_of, Steps}
use Rattle.pairing.proofs.Within.{few_pairs, few-widest, progress-steps, marks-read}
use Rattle.lasso_search.specs.Reporting.{difference}
use Rattle.lasso_search.specs.Codes.{Tabulated, EndReads, ends_at, Room, CanFind}

-- what a table that was written has
pub tabulated : {b c : List ℕ} {t : Beside} {m : ℕ} (old : List ℕ) {out : List ℕ} → Steps b c t m → m * t.letters ≤ length old → out ≡ written (table m t.letters (next_pair_of b c t)) old
    → Tabulated out m t.letters (next_pair_of b c t)
unfolding written
tabulated {b} {c} {t} {m} old {out} S room e = record {
  few = S.few;
  few_letters = S.few_letters;
  long = omega (arith, ap length e, length-written T old (omega (arith, long)));
  closed = S.closed;
  steps = λ q a h i. ap (λ (l : List ℕ). get_or l (q * t.letters + a) 0) e
      ∙ (get_or-append T _ 0 (q * t.letters + a) (omega (arith, long, digits_lt h i)) ∙ get_or-table m t.letters (next_pair_of b c t) q a h i);
}
  where
    T : List ℕ
    T = table m t.letters (next_pair_of b c t)

    long : length (table m t.letters (next_pair_of b c t)) ≡ m * t.letters
    long = length-table m t.letters (next_pair_of b c t)

-- the progress automata of the pair q of leading states: tables g, marks m, k pairs of states
pub record Progress (b c : List ℕ) (q : ℕ) (g m : Beside) (k : ℕ) : Type 0 where
  pub letters : g.letters ≡ (difference b c).letters
  pub steps : Steps b c g k
  pub size : k ≡ (difference b c).size q
  pub next : next_pair_of b c g ≡ (difference b c).progress q
  pub ends : ends_at b c m ≡ (difference b c).accepting q
  pub reads : (y : ℕ) → y < k → EndReads b c m y
  pub some : 0 < k

module _ {b c : List ℕ} (A : Alike b c) where
  pub complete : Complete (difference b c)
  complete = product-complete but_not (decode b) (decode c) A.letters (valid-packable b A.first).complete (valid-packable c A.second).complete

  pub wide : {t : Beside} → t ≡ leads_of b c → 0 < t.width
  wide e = subst (λ (w : ℕ). 0 < w) (sym (ap (λ (t : Beside). t.width) e)) A.second.header.some_states

  pub lead-step : next_pair_of b c (leads_of b c) ≡ (difference b c).step
  lead-step = ap (λ (s : ℕ). beside (state_count c) (decode b).step (table_step c (leading_at c) s)) A.letters

  module _ {q : ℕ} (h : q < (difference b c).states) where
    abbrev p : ℕ
    p = q / state_count c

    abbrev r : ℕ
    r = q % state_count c

    p-in : p < state_count b
    p-in = left_below A.second.header.some_states h

    r-in : r < state_count c
    r-in = mod-lt q A.second.header.some_states

    both-in : {w : ℕ} → w ≡ state_count c → (q / w < state_count b) × (q % w < state_count c)
    both-in e = subst (λ (w : ℕ). (q / w < state_count b) × (q % w < state_count c)) (sym e) (p-in, r-in)

    pub pair-in : {t : Beside} → t ≡ leads_of b c → (q / t.width < state_count b) × (q % t.width < state_count c)
    pair-in e = both-in (ap (λ (t : Beside). t.width) e)

    canonical : Progress b c q (progress_of b c p r) (marks_of b c p r) (size_of b p * size_of c r)
    canonical =
        let M = marks-read A p r p-in r-in in
        record {
          letters = refl;
          steps = progress-steps A p r p-in r-in;
          size = refl;
          next = ap (λ (s : ℕ). beside (size_of c r) ((decode b).progress p) (table_step c (progress_at_value c r) s)) A.letters;
          ends = refl;
          reads = λ y l. record { wide = M.wide; first = omega (arith, left_below M.wide l, M.first); second = omega (arith, mod-lt y M.wide, M.second) };
          some = mul-pos (A.first.header.some_size p p-in) (A.second.header.some_size r r-in);
        }

    pub progress-at : {t g m : Beside} {k s : ℕ} → t ≡ leads_of b c → g ≡ progress_of b c (q / t.width) (q % t.width) → m ≡ marks_of b c (q / t.width) (q % t.width) → s ≡ size_of b (q / t.width) → k ≡ s * g.width → Progress b c q g m k
    progress-at {t} {g} {m} {k} {s} te ge me se ke =
        let w : t.width ≡ state_count c = ap (λ (t : Beside). t.width) te in
        let g' : g ≡ progress_of b c p r = ge ∙ ap (λ (x : ℕ). progress_of b c (q / x) (q % x)) w in
        let m' : m ≡ marks_of b c p r = me ∙ ap (λ (x : ℕ). marks_of b c (q / x) (q % x)) w in
        let s' : s ≡ size_of b p = se ∙ ap (λ (x : ℕ). size_of b (q / x)) w in
        let k' : k ≡ size_of b p * size_of c r = ke ∙ (λ i. s' i * (g' i).width) in
        subst (λ (x : Beside). Progress b c q x m k) (sym g') (subst (λ (x : Beside). Progress b c q (progress_of b c p r) x k) (sym m') (subst (Progress b c q (progress_of b c p r) (marks_of b c p r)) (sym k') canonical))

-- status and cells for all combinations suffice
module _ {b c : List ℕ} (A : Alike b c) {n w : ℕ} (ne : n ≡ (sizes_of b c).pairs) (we : w ≡ (sizes_of b c).widest) where
  some : 0 < n
  some = omega (arith, ne, (complete A).start)

  module _ (q : ℕ) (h : q < n) where
    within : (difference b c).size q ≤ w
    within =
        let i : q < (difference b c).states = omega (arith, ne) in
        let l : (difference b c).size q ≤ widest (decode b) * widest (decode c) = mul-le-mul (largest-le (state_count b) (size_of b) (q / state_count c) (p-in A i)) (largest-le (state_count c) (size_of c) (q % state_count c) (r-in A i)) in
        omega (arith, we)

    all-within : (difference b c).size q * n ≤ n * w
    all-within = omega (arith, mul-le-mul_right n within, mul_comm n w)

  pub room_of : {rows status cells : ℕ} → w * (difference b c).letters ≤ rows → n * w ≤ status → cells ≡ n + n * w → Room (difference b c) n rows status (cells - (n - 1))
  room_of {rows} {status} {cells} l m e = record {
    all = ne;
    leads = omega (arith, all-within 0 some, mul-le-mul_right n one, one-mul n);
    rows_fit = λ q h. omega (arith, l, mul-le-mul_right (difference b c).letters (within q h));
    status_fit = λ q h. omega (arith, all-within q h);
    cells_fit = λ q h. omega (arith, all-within q h, some);
  }
    where
      one : 1 ≤ (difference b c).size 0
      one = (complete A).starts 0 (omega (arith, some, ne))

-- tables, status and cells of some lengths suffice
module _ {b c : List ℕ} (A : Alike b c) {t : Beside} {z : PairSizes} (te : t ≡ leads_of b c) (ze : z ≡ sizes_of b c) where
  few-n : z.pairs ≤ 1024
  few-n = omega (arith, ap (λ (z : PairSizes). z.pairs) ze, few_pairs A)

  few-w : z.widest ≤ 1024
  few-w = omega (arith, ap (λ (z : PairSizes). z.widest) ze, few-widest A)

  few-s : t.letters ≤ 32
  few-s = omega (arith, ap (λ (t : Beside). t.letters) te, A.first.header.few_letters)

  pub pairs-fit : z.pairs * t.letters ≤ 32768
  pairs-fit = mul-le-mul few-n few-s

  pub widest_fits : z.widest * t.letters ≤ 32768
  widest_fits = mul-le-mul few-w few-s

  pub all_fit : z.pairs * z.widest ≤ 1048576
  all_fit = mul-le-mul few-n few-w

  pub can-find : {leads rows status work : ℕ} → z.pairs * t.letters ≤ leads → z.widest * t.letters ≤ rows → z.pairs * z.widest ≤ status → work ≡ z.pairs + z.pairs * z.widest → CanFind b c t z.pairs leads rows status work
  can-find {rows = rows} l r m w = record {
    alike = A;
    tables = te;
    leads_fit = l;
    room = room_of A (ap (λ (z : PairSizes). z.pairs) ze) (ap (λ (z : PairSizes). z.widest) ze) (subst (λ (s : ℕ). z.widest * s ≤ rows) (ap (λ (t : Beside). t.letters) te) r) m w;
  }
