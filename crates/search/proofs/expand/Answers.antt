-- `search::expand` meets its contract: letter after letter, whatever is looked for. Assumes nothing.
use mathlib.Core.Path.{◌≡◌, refl, ap, sym, subst, subst₂, ◌∙◌}
use mathlib.Core.List.{List}
use Prim.Native.Nat.{ℕ, ◌+◌, ◌*◌, ◌-◌, ◌/◌, ◌%◌, ◌≤◌, ◌<◌}
use native.Mathlib.Omega.{arith}
use native.Mathlib.Nat.{mul-le-mul, mod-lt, div-add-mod'}
use lib.ListN.{length, get_or, set}
use Rattle.search.specs.Queue.{entry, place_at}
use Rattle.search.specs.Search.{Space, reach, Ends, Aim, joint, row_step, Ready, Searchable}
use Rattle.search.proofs.Joint as joint
use Rattle.search.proofs.Joint.{Stands, stands}
use Rattle.search.proofs.Outcomes.{Expanding, codes-few, expanding-in, expanding-room, expanding-on, expanding-ends, expanding-done}
use Rattle.search.proofs.expand.Invariants.{Letters}
use Rattle.search.proofs.expand.Goals as goal
use Rattle.search.proofs.expand.Goals.{In-loop-a, After-from-in-loop-a}

-- what is known of the state that is expanded
module _ {leads rows status₀ cells₀ : List ℕ} {n s root total head place : ℕ} (given : Searchable leads rows n s root status₀ cells₀ total head) (here : head < total)
    (placed : place ≡ place_at root cells₀ head) where
  abbrev x : ℕ
  x = place % 1048576

  abbrev aim : Aim
  aim = given.aim

  abbrev P : Space
  P = joint leads rows n s root aim

  known : Stands n (aim.rows * n) (reach P (given.ready.search.W head)) place
  known = let r = given.ready in stands r.tables r.bounded r.leading r.search head here placed

  few-row : place / 1048576 < 1024
  few-row = omega (arith, known.row, given.ready.bounded.few_rows x known.inside)

  -- what is known of a letter's turn
  module _ {status cells : List ℕ} {codes a : ℕ} (now-at : Letters leads rows n s root head total status₀ cells₀ x status cells codes a) (al : a < s) where
    abbrev E : Expanding P status cells codes head a x
    E = now-at.all aim given.ready

    lead-cell : (x - place / 1048576 * n) * s + a < length leads
    lead-cell = omega (arith, ap (λ (y : ℕ). y * s) known.lead, joint.lead-cell given.ready.tables x a known.inside al)

    row-cell : place / 1048576 * s + a < length rows
    row-cell = omega (arith, ap (λ (y : ℕ). y * s) known.row, joint.row-cell given.ready.tables x a known.inside al)

    head-few : (head ≤ 1048576) × (a < 32)
    head-few = let B = given.ready.bounded in (omega (arith, E.going, codes-few E.search, B.few_states, B.low), omega (arith, given.ready.tables.few_letters))

    tail-cell : (1 ≤ codes) × (codes ≤ length cells)
    tail-cell = (E.search.some, expanding-room given.ready.bounded E)

    -- the two numbers that are read
    module _ {w₁ w₂ : ℕ} (read₁ : w₁ ≡ get_or leads ((x - place / 1048576 * n) * s + a) 0) (read₂ : w₂ ≡ get_or rows (place / 1048576 * s + a) 0) where
      first_is : w₁ ≡ row_step leads s (x % n) a
      first_is = read₁ ∙ ap (λ (y : ℕ). get_or leads (y * s + a) 0) known.lead

      second_is : w₂ ≡ row_step rows s (x / n) a
      second_is = read₂ ∙ ap (λ (y : ℕ). get_or rows (y * s + a) 0) known.row

      abbrev value : ℕ
      value = w₁ + w₂ * (n + 1048576)

      few : value < 1073741824
      few = joint.value-few given.ready.tables x a known.inside al first_is second_is

      -- for each aim
      module _ (goal : Aim) (r : Ready leads rows n s root status₀ cells₀ total head goal) where
        abbrev Q : Space
        Q = joint leads rows n s root goal

        abbrev F : Expanding Q status cells codes head a x
        F = now-at.all goal r

        state-is : value % 1048576 ≡ Q.step x a
        state-is = joint.value-state r.tables x a (expanding-in r.bounded F) al first_is second_is

        entry-is : value + 1073741824 * (a + 32 * head) ≡ entry (Q.step x a) (Q.step x a / n) a head
        entry-is = joint.value-entry r.tables x a (expanding-in r.bounded F) al first_is second_is head

        goes_on : (get_or status (value % 1048576) 0 ≡ 2 → ⊥)
            → Expanding Q (set status (value % 1048576) 0) (set cells (codes - 1) (value + 1073741824 * (a + 32 * head))) (codes + get_or status (value % 1048576) 0) head (a + 1) x
        goes_on m =
            subst₂ (λ (y v : ℕ). Expanding Q (set status y 0) (set cells (codes - 1) v) (codes + get_or status y 0) head (a + 1) x) (sym state-is) (sym entry-is)
            (expanding-on r.bounded F al refl (λ e. m (ap (λ (y : ℕ). get_or status y 0) state-is ∙ e)))

        ends-here : get_or status (value % 1048576) 0 ≡ 2 → Ends Q (set cells (codes - 1) (value + 1073741824 * (a + 32 * head))) codes
        ends-here m =
            subst (λ (v : ℕ). Ends Q (set cells (codes - 1) v) codes) (sym entry-is)
            (expanding-ends r.bounded F al refl (sym (ap (λ (y : ℕ). get_or status y 0) state-is) ∙ m))

      status-cell : value % 1048576 < length status
      status-cell = let r = given.ready in rw (state-is aim r, E.search.size) (r.bounded.closed x a known.inside al)

-- the same at the places of the code
heads : (c : In-loop-a) → (c.args.head ≤ 1048576) × (c.loop-a.a < 32)
heads c = head-few c.requires.0 c.requires.1 c.place_of-place.ensures c.loop-a.invariant c.loop-a-test.true

tail : (c : In-loop-a) → (1 ≤ c.loop-a.codes) × (c.loop-a.codes ≤ length c.loop-a.cells)
tail c = tail-cell c.requires.0 c.requires.1 c.place_of-place.ensures c.loop-a.invariant c.loop-a-test.true

next-few : (c : After-from-in-loop-a) → c.from.result + c.from-in-loop-a.result * (c.args.width + 1048576) < 1073741824
next-few c = few c.requires.0 c.requires.1 c.place_of-place.ensures c.loop-a.invariant c.loop-a-test.true c.from.ensures c.from-in-loop-a.ensures

pub place_of-place-requires : goal.place_of-place-requires
place_of-place-requires c = let S = c.requires.0.ready.search in omega (arith, codes-few S, S.room, c.requires.1)

pub overflow_mul-from : goal.overflow_mul-from
overflow_mul-from c =
    let f : c.place_of-place.result / 1048576 ≤ 1024 = omega (arith, few-row c.requires.0 c.requires.1 c.place_of-place.ensures) in
    omega (arith, mul-le-mul f c.requires.0.ready.tables.few_letters)

pub overflow_mul-lead : goal.overflow_mul-lead
overflow_mul-lead c =
    let f : c.place_of-place.result / 1048576 ≤ 1024 = omega (arith, few-row c.requires.0 c.requires.1 c.place_of-place.ensures) in
    omega (arith, mul-le-mul f c.requires.0.ready.tables.few_leads)

pub overflow_sub-lead : goal.overflow_sub-lead
overflow_sub-lead c =
    omega (arith, ap (λ (y : ℕ). y * c.args.width) (known c.requires.0 c.requires.1 c.place_of-place.ensures).row, div-add-mod' (c.place_of-place.result % 1048576) c.args.width)

pub overflow_mul-lead-2 : goal.overflow_mul-lead-2
overflow_mul-lead-2 c =
    let T = c.requires.0.ready.tables in
    let x : ℕ = c.place_of-place.result % 1048576 in
    let f : x - c.place_of-place.result / 1048576 * c.args.width ≤ 1024 = omega (arith, (known c.requires.0 c.requires.1 c.place_of-place.ensures).lead, mod-lt x T.some, T.few_leads) in
    omega (arith, mul-le-mul f T.few_letters)

pub loop-a-init : goal.loop-a-init
loop-a-init c = record {
  all = λ aim r. record {
    search = r.search;
    state = sym (stands r.tables r.bounded r.leading r.search c.args.head c.requires.1 c.place_of-place.ensures).state;
    going = c.requires.1;
    within = omega arith;
  };
}

pub bounds-leads-lead : goal.bounds-leads-lead
bounds-leads-lead c = lead-cell c.requires.0 c.requires.1 c.place_of-place.ensures c.loop-a.invariant c.loop-a-test.true

pub bounds-rows-from : goal.bounds-rows-from
bounds-rows-from c = row-cell c.requires.0 c.requires.1 c.place_of-place.ensures c.loop-a.invariant c.loop-a-test.true

pub overflow_add-next : goal.overflow_add-next
overflow_add-next c = omega (arith, c.requires.0.ready.tables.few_leads)

pub overflow_mul-next : goal.overflow_mul-next
overflow_mul-next c =
    omega (arith, next-few ((goal.at.overflow_mul-next c).After-from-in-loop-a))

pub overflow_add-next-in-loop-a : goal.overflow_add-next-in-loop-a
overflow_add-next-in-loop-a c =
    omega (arith, next-few ((goal.at.overflow_add-next-in-loop-a c).After-from-in-loop-a))

pub overflow_mul-cells : goal.overflow_mul-cells
overflow_mul-cells c = omega (arith, heads ((goal.at.overflow_mul-cells c).In-loop-a))

pub overflow_add-cells : goal.overflow_add-cells
overflow_add-cells c = omega (arith, heads ((goal.at.overflow_add-cells c).In-loop-a))

pub overflow_mul-cells-in-loop-a : goal.overflow_mul-cells-in-loop-a
overflow_mul-cells-in-loop-a c = omega (arith, heads ((goal.at.overflow_mul-cells-in-loop-a c).In-loop-a))

pub overflow_add-cells-in-loop-a : goal.overflow_add-cells-in-loop-a
overflow_add-cells-in-loop-a c =
    omega (
      arith,
      next-few ((goal.at.overflow_add-cells-in-loop-a c).After-from-in-loop-a),
      heads ((goal.at.overflow_add-cells-in-loop-a c).In-loop-a),
    )

pub overflow_sub-cells : goal.overflow_sub-cells
overflow_sub-cells c = (tail ((goal.at.overflow_sub-cells c).In-loop-a)).0

pub offset_bounds-cells-codes : goal.offset_bounds-cells-codes
offset_bounds-cells-codes c = omega (arith, tail ((goal.at.offset_bounds-cells-codes c).In-loop-a))

pub bounds-cells-codes : goal.bounds-cells-codes
bounds-cells-codes c = omega (arith, tail ((goal.at.bounds-cells-codes c).In-loop-a))

pub bounds-status-x : goal.bounds-status-x
bounds-status-x c =
    status-cell c.requires.0 c.requires.1 c.place_of-place.ensures c.loop-a.invariant c.loop-a-test.true c.from.ensures c.from-in-loop-a.ensures

pub bounds-status-x-in-loop-a : goal.bounds-status-x-in-loop-a
bounds-status-x-in-loop-a c =
    status-cell c.requires.0 c.requires.1 c.place_of-place.ensures c.loop-a.invariant c.loop-a-test.true c.from.ensures c.from-in-loop-a.ensures

pub returns-then-m-eq2 : goal.returns-then-m-eq2
returns-then-m-eq2 c = λ goal r.
    ends-here c.requires.0 c.requires.1 c.place_of-place.ensures c.loop-a.invariant c.loop-a-test.true c.from.ensures c.from-in-loop-a.ensures goal r c.if-m-eq2.true

pub overflow_add-codes : goal.overflow_add-codes
overflow_add-codes c =
    omega (arith, tail ((goal.at.overflow_add-codes c).In-loop-a), c.from-codes.ensures)

pub loop-a-preserved : goal.loop-a-preserved
loop-a-preserved c = record {
  all = λ goal r.
      rw c.from-codes.ensures
      (goes_on c.requires.0 c.requires.1 c.place_of-place.ensures c.loop-a.invariant c.loop-a-test.true c.from.ensures c.from-in-loop-a.ensures goal r c.if-m-eq2.false);
}

pub returns : goal.returns
returns c = λ goal r. expanding-done r.bounded (c.loop-a.invariant.all goal r) c.loop-a-test.false
