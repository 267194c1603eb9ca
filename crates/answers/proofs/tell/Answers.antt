-- `answers::tell` meets its contract: number after number. Assumes nothing.
use mathlib.Core.Path.{◌≡◌, refl, ap, ◌∙◌}
use mathlib.Core.List.{List}
use Prim.Native.Nat.{ℕ, ◌*◌, ◌≤◌}
use native.Mathlib.Omega.{arith}
use lib.ListN.{length, get_or}
use Rattle.slices.specs.Filling.{written}
use Rattle.slices.proofs.Filling.{begun-as, begun_more, rows-begin, rows_next}
use Rattle.slices.specs.Tables.{rows}
use Rattle.slices.proofs.Tables.{length-tab, length-table}
use Rattle.answers.specs.Layout.{number_bytes, layout}
use Rattle.answers.proofs.tell.Goals as goal

-- the first k numbers
abbrev firsts : List ℕ → ℕ → List ℕ
firsts ns k = rows k (λ i. number_bytes (get_or ns i 0))

number-length : (x : ℕ) → length (number_bytes x) ≡ 8
number-length x = length-tab 8 _

firsts-length : (ns : List ℕ) (k : ℕ) → length (firsts ns k) ≡ 8 * k
firsts-length ns k = let e : length (firsts ns k) ≡ k * 8 = length-table k 8 _ in omega (arith, e)

all : (ns : List ℕ) (k : ℕ) → k ≤ length ns → length ns ≤ k → firsts ns k ≡ layout ns
all ns k h l = let e : k ≡ length ns = omega arith in ap (firsts ns) e

pub loop-k-init : goal.loop-k-init
loop-k-init c = rows-begin _ _

pub loop-k-preserved : goal.loop-k-preserved
loop-k-preserved c =
    let ns = c.args.numbers.now in
    begun-as (rows_next (λ k. number_bytes (get_or ns k 0)) c.loop-k.k)
    (begun_more (number_bytes (get_or ns c.loop-k.k 0)) _ c.loop-k.invariant (firsts-length ns c.loop-k.k) (omega (arith, number-length (get_or ns c.loop-k.k 0))) c.put_number.ensures)

pub returns : goal.returns
returns c =
    let s = c.args in
    (refl, c.loop-k.invariant.cells ∙ ap (λ (d : List ℕ). written d s.answer.now) (all s.numbers.now c.loop-k.k (omega arith) (omega arith)))
