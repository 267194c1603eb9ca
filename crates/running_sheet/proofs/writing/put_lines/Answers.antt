-- `running_sheet::writing::put_lines` meets its contract. Assumes nothing.
use mathlib.Core.Path.{◌≡◌, ap, ◌∙◌}
use mathlib.Core.List.{List}
use Prim.Native.Nat.{ℕ, ◌<◌}
use native.Mathlib.Omega.{arith}
use lib.ListN.{length, get_or}
use Rattle.slices.specs.Tables.{rows}
use Rattle.numbers.proofs.Stores.{stored-none-rows, stored_row, stored-length, stored-as}
use Rattle.running_sheet.specs.Places.{timed_line, line_at, timed_lines}
use Rattle.running_sheet.proofs.Measures.{line-within}
use Rattle.running_sheet.proofs.writing.put_lines.Goals as goal

-- the line of what the calls answered
line : (start x w : List ℕ) (i : ℕ) {letter seconds : ℕ} → letter ≡ get_or x i 0 → seconds ≡ get_or w letter 0 → timed_line start letter seconds ≡ line_at start x w i
line start x w i d e = λ k. timed_line start (d k) ((e ∙ ap (λ (a : ℕ). get_or w a 0) d) k)

pub loop-c-init : goal.loop-c-init
loop-c-init c = stored-none-rows _ _ _

pub put_line-p-requires : goal.put_line-p-requires
put_line-p-requires c =
    let i = c.loop-c.c-index in
    let known : c.from-letter.result < length c.args.seconds.now = omega (arith, c.from-letter.ensures, c.requires.0.known i (omega arith)) in (
      omega arith,
      omega (arith, c.from.ensures, c.requires.0.times c.from-letter.result known),
      omega (arith, c.requires.1, c.loop-c.invariant.next, stored-length c.loop-c.invariant, ap length (line c.args.start.now c.args.word.now c.args.seconds.now i c.from-letter.ensures c.from.ensures), line-within c.args.start.now c.args.word.now c.args.seconds.now i (omega arith)),
    )

pub loop-c-preserved : goal.loop-c-preserved
loop-c-preserved c =
    let i = c.loop-c in
    stored_row i.c-index (line_at c.args.start.now c.args.word.now c.args.seconds.now) i.invariant (stored-as (line c.args.start.now c.args.word.now c.args.seconds.now i.c-index c.from-letter.ensures c.from.ensures) c.put_line-p.ensures)

pub returns : goal.returns
unfolding timed_lines
returns c =
    let e : c.loop-c.c-index ≡ length c.args.word.now = omega arith in
    stored-as (ap (λ (n : ℕ). rows n (line_at c.args.start.now c.args.word.now c.args.seconds.now)) e) c.loop-c.invariant
