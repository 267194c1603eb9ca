-- `membership::progress` meets its contract: after t turns it stands where t turns lead. Assumes nothing.
use mathlib.Core.Path.{◌≡◌, refl, ap, sym, ◌∙◌}
use mathlib.Core.List.{List}
use Prim.Native.Nat.{ℕ, ◌+◌, ◌*◌, ◌≤◌, ◌<◌}
use native.Mathlib.Omega.{arith}
use lib.Dec.{eqb}
use lib.ListN.{length, get_or}
use Rattle.fdfa.specs.Words.{power, Over}
use Rattle.fdfa.specs.Family.{walk}
use Rattle.fdfa.proofs.Words.{over-power, walk-closed, walk_turn}
use Rattle.packed.specs.Layout.{letter_count, state_count, size_of, progress_at_value, marks_at, decode, Valid}
use Rattle.packed.proofs.Bounds.{Body}
use Rattle.packed.proofs.Reading.{length-columns, part_of, progress-walks}
use Rattle.membership.proofs.progress.Goals as goal

one_more : (f : ℕ → ℕ → ℕ) (v : List ℕ) (e t : ℕ) → e ≡ walk f 0 (power v t) → walk f e v ≡ walk f 0 (power v (t + 1))
one_more f v e t d = ap (λ (q : ℕ). walk f q v) d ∙ walk_turn f 0 v t

-- where the progress automaton of q stands is one of its states
below : (b v : List ℕ) (q t : ℕ) {e : ℕ} → Valid b × Over (letter_count b) v × (q < state_count b) → e ≡ walk ((decode b).progress q) 0 (power v t) → e < size_of b q
below b v q t p d =
    let l : walk ((decode b).progress q) 0 (power v t) < size_of b q =
    walk-closed (p.0.progresses q p.2) (p.0.header.some_size q p.2) (over-power t p.1) in
    omega (arith, d)

-- where its marks begin
marks : (b : List ℕ) (q : ℕ) {at k n : ℕ} → at ≡ progress_at_value b q → k ≡ size_of b q → n ≡ letter_count b → at + k * n ≡ marks_at b q
marks b q a k n = λ i. a i + k i * n i

body : (b v : List ℕ) (q : ℕ) → Valid b × Over (letter_count b) v × (q < state_count b) → Body b q (progress_at_value b q) (size_of b q) (letter_count b)
body b v q p = part_of b p.0 q p.2

product-few : (b v : List ℕ) (q : ℕ) {k n : ℕ} → Valid b × Over (letter_count b) v × (q < state_count b) → k ≡ size_of b q → n ≡ letter_count b → k * n ≤ 1024
product-few b v q {k} {n} p d f =
    let e : k * n ≡ size_of b q * letter_count b = λ i. d i * f i in
    omega (arith, (body b v q p).table)

pub progress_at-at-requires : goal.progress_at-at-requires
progress_at-at-requires c = let p = c.requires.valid in (p.0.header, omega (arith, p.2))

pub size-k-requires : goal.size-k-requires
size-k-requires c = omega (arith, c.requires.valid.0.header.long, c.requires.valid.2)

pub columns-table-requires : goal.columns-table-requires
columns-table-requires c =
    let p = c.requires in
    (omega (arith, marks c.args.sheet.now c.args.q c.progress_at-at.ensures c.size-k.ensures c.requires.letters_value, (body c.args.sheet.now c.args.period.now c.args.q c.requires.valid).within), omega (arith, p.letters_value, p.valid.0.header.few_letters))

pub loop-init : goal.loop-init
loop-init c = refl

pub slice_bounds-walk-end : goal.slice_bounds-walk-end
slice_bounds-walk-end c =
    let p = c.requires in
    sym (ap length c.columns-table.ensures ∙ length-columns _ _ _ _ (omega (arith, p.letters_value, p.valid.0.header.few_letters)))

pub walk-end-requires : goal.walk-end-requires
walk-end-requires c = (progress-walks _ c.requires.valid.0 c.columns-table.ensures c.progress_at-at.ensures c.requires.letters_value c.size-k.ensures c.requires.valid.2 (below c.args.sheet.now c.args.period.now c.args.q c.loop.counter c.requires.valid c.loop.invariant) c.requires.valid.1).0

pub loop-preserved : goal.loop-preserved
loop-preserved c =
    let s = c.args in
    (c.walk-end.ensures ∙ ((progress-walks _ c.requires.valid.0 c.columns-table.ensures c.progress_at-at.ensures c.requires.letters_value c.size-k.ensures c.requires.valid.2 (below c.args.sheet.now c.args.period.now c.args.q c.loop.counter c.requires.valid c.loop.invariant) c.requires.valid.1).1 ∙ one_more ((decode s.sheet.now).progress s.q) s.period.now _ c.loop.counter c.loop.invariant))

pub overflow_mul-marks : goal.overflow_mul-marks
overflow_mul-marks c = omega (arith, product-few c.args.sheet.now c.args.period.now c.args.q c.requires.valid c.size-k.ensures c.requires.letters_value)

pub overflow_add-marks : goal.overflow_add-marks
overflow_add-marks c = omega (arith, marks c.args.sheet.now c.args.q c.progress_at-at.ensures c.size-k.ensures c.requires.letters_value, (body c.args.sheet.now c.args.period.now c.args.q c.requires.valid).within, (body c.args.sheet.now c.args.period.now c.args.q c.requires.valid).low)

pub is_marked-requires : goal.is_marked-requires
is_marked-requires c = omega (arith, marks c.args.sheet.now c.args.q c.progress_at-at.ensures c.size-k.ensures c.requires.letters_value, (body c.args.sheet.now c.args.period.now c.args.q c.requires.valid).within, below c.args.sheet.now c.args.period.now c.args.q c.loop.counter c.requires.valid c.loop.invariant)

pub returns : goal.returns
returns c =
    let s = c.args in
    let F = decode s.sheet.now in
    let n : c.loop.counter ≡ s.count = omega arith in
    let e = c.loop.invariant ∙ ap (λ (n : ℕ). walk (F.progress s.q) 0 (power s.period.now n)) n in
    let m = c.is_marked.ensures ∙ ap (λ (m : ℕ). eqb (get_or s.sheet.now (m + c.loop.end) 0) 1) (marks c.args.sheet.now c.args.q c.progress_at-at.ensures c.size-k.ensures c.requires.letters_value) in
    λ k. record { end = e k; accepted = (m ∙ ap (F.accepting s.q) e) k }
