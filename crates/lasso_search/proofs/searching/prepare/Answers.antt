-- `lasso_search::searching::prepare` meets its contract. Assumes nothing.
use mathlib.Core.Path.{◌≡◌, refl, ap, sym, subst, ◌∙◌}
use mathlib.Core.List.{List, ◌++◌}
use Prim.Native.Nat.{ℕ, ◌+◌, ◌*◌, ◌/◌, ◌%◌, ◌≤◌, ◌<◌}
use native.Mathlib.Omega.{arith}
use native.Mathlib.Nat.{mul-one, mul-le-mul_left}
use lib.ListN.{length, take, drop}
use lib.Seq.{length-take-le, take_at, length_front}
use Rattle.slices.specs.Filling.{written}
use Rattle.slices.specs.Tables.{table}
use Rattle.pairing.specs.declared.Beside.{Beside}
use Rattle.pairing.specs.Pairs.{Alike, leads_of, progress_of, marks_of, next_pair_of}
use Rattle.packed.specs.Layout.{size_of}
use Rattle.search.specs.Words.{Over}
use Rattle.lasso_search.specs.Reporting.{difference}
use Rattle.lasso_search.specs.Codes.{Tabulated, Fresh, Room, ends_at}
use Rattle.lasso_search.proofs.Difference.{Progress, progress-at, tabulated}
use Rattle.lasso_search.proofs.searching.prepare.Goals as goal

-- the pair's progress automata, as they were read
read : {b d : List ℕ} {t g m : Beside} {n q s rows status cells : ℕ} → Alike b d × (t ≡ leads_of b d) × (q < n) → Room (difference b d) n rows status cells
    → g ≡ progress_of b d (q / t.width) (q % t.width) → m ≡ marks_of b d (q / t.width) (q % t.width) → s ≡ size_of b (q / t.width) → Progress b d q g m (s * g.width)
read p R ge me se = progress-at p.0 (omega (arith, p.2, R.all)) p.1 ge me se refl

-- room for it
module _ {b d : List ℕ} {g m : Beside} {n q k rows status cells : ℕ} (R : Room (difference b d) n rows status cells) (F : Progress b d q g m k) (qn : q < n) where
  rows-room : k * g.letters ≤ rows
  rows-room =
      let e : k * g.letters ≡ (difference b d).size q * (difference b d).letters = λ i. F.size i * F.letters i in omega (arith, R.rows_fit q qn)

  all_room : k * n ≤ status
  all_room = omega (arith, ap (λ (x : ℕ). x * n) F.size, R.status_fit q qn)

  status-room : k ≤ status
  status-room = let l : 1 ≤ n = omega arith in omega (arith, all_room, mul-le-mul_left k l, mul-one k)

  cells-room : k + 1 ≤ cells
  cells-room = let l : 1 ≤ n = omega arith in omega (arith, ap (λ (x : ℕ). x * n) F.size, R.cells_fit q qn, mul-le-mul_left k l, mul-one k)

-- the status of the progress alone, as it comes back
alone-back : {b d front : List ℕ} {g m : Beside} {q k : ℕ} (old : List ℕ) → Progress b d q g m k → Fresh front 1 0 k (ends_at b d m) → Fresh (take k (front ++ drop k old)) 1 0 k ((difference b d).accepting q)
alone-back {b} {d} {front} {q = q} {k} old F e =
    subst (λ (l : List ℕ). Fresh l 1 0 k ((difference b d).accepting q)) (sym (take_at front _ k (e.long ∙ mul-one k))) (subst (Fresh front 1 0 k) F.ends e)

pub tabulate-requires : goal.tabulate-requires
tabulate-requires c =
    let F = read c.requires.alike c.requires.room c.progress-g.ensures c.marks-m.ensures c.size.ensures in (F.steps, rows-room c.requires.room F c.requires.alike.2)

pub slice_bounds-set_status-end : goal.slice_bounds-set_status-end
slice_bounds-set_status-end c =
    let F = read c.requires.alike c.requires.room c.progress-g.ensures c.marks-m.ensures c.size.ensures in status-room c.requires.room F c.requires.alike.2

pub slice_bounds-set_status-end-2 : goal.slice_bounds-set_status-end-2
slice_bounds-set_status-end-2 c =
    let F = read c.requires.alike c.requires.room c.progress-g.ensures c.marks-m.ensures c.size.ensures in sym (length-take-le _ _ (status-room c.requires.room F c.requires.alike.2))

pub set_status-requires : goal.set_status-requires
set_status-requires c =
    let F = read c.requires.alike c.requires.room c.progress-g.ensures c.marks-m.ensures c.size.ensures in
    (F.reads, omega arith, length-take-le _ _ (status-room c.requires.room F c.requires.alike.2) ∙ sym (mul-one (c.size.result * c.progress-g.result.width)))

-- the rows that were tabulated
table_of : {b d out : List ℕ} {g m : Beside} {q k : ℕ} (rows : List ℕ) → Progress b d q g m k → k * g.letters ≤ length rows → out ≡ written (table k g.letters (next_pair_of b d g)) rows
    → Tabulated out k g.letters ((difference b d).progress q)
table_of {out = out} {g = g} {k = k} rows F fit e = subst (Tabulated out k g.letters) F.next (tabulated rows F.steps fit e)

-- a list keeps its length where a part of it comes back twice
twice : (k : ℕ) (xs ys zs : List ℕ) → length ys ≡ length (take k xs) → length zs ≡ length (take k (ys ++ drop k xs)) → length (zs ++ drop k (ys ++ drop k xs)) ≡ length xs
twice k xs ys zs e f = length_front (ys ++ drop k xs) zs k f ∙ length_front xs ys k e

pub can_end-requires : goal.can_end-requires
can_end-requires c =
    let R = c.requires.room in
    let qn = c.requires.alike.2 in
    let F = read c.requires.alike c.requires.room c.progress-g.ensures c.marks-m.ensures c.size.ensures in
    let P = difference c.args.first.now c.args.second.now in
    ((P.progress c.args.q, table_of c.args.rows.now F (rows-room R F qn) c.tabulate.ensures), (P.accepting c.args.q, alone-back c.args.status.now F c.set_status.ensures), F.some, cells-room R F qn)

-- where the progress alone cannot end no period is accepted
pub returns-then-not-can_end : goal.returns-then-not-can_end
returns-then-not-can_end c =
    let R = c.requires.room in
    let F = read c.requires.alike c.requires.room c.progress-g.ensures c.marks-m.ensures c.size.ensures in
    let P = difference c.args.first.now c.args.second.now in
    λ v L. c.can_end.ensures c.if-not-can_end.true (P.progress c.args.q) (P.accepting c.args.q) (table_of c.args.rows.now F (rows-room R F c.requires.alike.2) c.tabulate.ensures)
    (alone-back c.args.status.now F c.set_status.ensures) v (subst (λ (x : ℕ). Over x v) (sym F.letters) L.over) L.loops L.accepts

pub set_status-requires-2 : goal.set_status-requires-2
set_status-requires-2 c =
    let F = read c.requires.alike c.requires.room c.progress-g.ensures c.marks-m.ensures c.size.ensures in
    let k : ℕ = c.size.result * c.progress-g.result.width in
    let l = twice k c.args.status.now c.set_status.new.status c.can_end.new.status c.set_status.auto.status c.can_end.auto.status in
    (F.reads, c.requires.alike.2, length-take-le (k * c.args.n) (c.can_end.new.status ++ drop k (c.set_status.new.status ++ drop k c.args.status.now)) (omega (arith, all_room c.requires.room F c.requires.alike.2, l)))

pub returns : goal.returns
returns c =
    let R = c.requires.room in
    let F = read c.requires.alike c.requires.room c.progress-g.ensures c.marks-m.ensures c.size.ensures in
    let P = difference c.args.first.now c.args.second.now in
    let k : ℕ = c.size.result * c.progress-g.result.width in
    let l : List ℕ = c.set_status-2.new.status in
    let M : Fresh l c.args.n c.args.q k (P.accepting c.args.q) = subst (Fresh l c.args.n c.args.q k) F.ends c.set_status-2.ensures in
    record {
      some = F.some;
      is = F.size;
      tabled = subst (λ (x : ℕ). Tabulated c.tabulate.new.out k x (P.progress c.args.q)) F.letters (table_of c.args.rows.now F (rows-room R F c.requires.alike.2) c.tabulate.ensures);
      fresh = subst (λ (x : List ℕ). Fresh x c.args.n c.args.q k (P.accepting c.args.q)) (sym (take_at l _ (k * c.args.n) M.long)) M;
    }
