-- `standing::walk` meets its contract: after so many letters each automaton stands where the walk over them leads. Assumes nothing.
use mathlib.Core.Path.{◌≡◌, ◌∙◌}
use mathlib.Core.List.{List}
use Prim.Native.Nat.{ℕ, ◌+◌, ◌*◌, ◌<◌}
use native.Mathlib.Omega.{arith}
use lib.ListN.{length, get_or, take}
use Rattle.fdfa.specs.Family.{walk}
use Rattle.fdfa.proofs.Words.{walk-on, walk-all}
use Rattle.packed.specs.Layout.{table_step}
use Rattle.standing.specs.Walks.{WalksWithin}
use Rattle.standing.proofs.walk.Goals as goal

-- the cell that is read
reads : {b w : List ℕ} {at s q a : ℕ} (i : ℕ) → WalksWithin b at s w → i < length w → q ≡ walk (table_step b at s) 0 (take i w) → a ≡ get_or w i 0 → at + (q * s + a) < length b
reads i inside h e d = rw (e, d) (inside.inside i h)

pub next-p-requires : goal.next-p-requires
next-p-requires c = reads c.loop-letter.letter-index c.requires.0 (omega arith) c.loop-letter.invariant.0 c.from-a.ensures

pub next-q-requires : goal.next-q-requires
next-q-requires c = reads c.loop-letter.letter-index c.requires.1 (omega arith) c.loop-letter.invariant.1 c.from-a.ensures

pub loop-letter-preserved : goal.loop-letter-preserved
loop-letter-preserved c =
    let s = c.args in
    let i : ℕ = c.loop-letter.letter-index in (
      c.next-p.ensures ∙ walk-on (table_step s.first.now s.t.first s.t.letters) 0 s.word.now i (omega arith) c.loop-letter.invariant.0 c.from-a.ensures,
      c.next-q.ensures ∙ walk-on (table_step s.second.now s.t.second s.t.letters) 0 s.word.now i (omega arith) c.loop-letter.invariant.1 c.from-a.ensures,
    )

pub returns : goal.returns
returns c =
    let p = c.loop-letter.invariant.0 ∙ walk-all _ _ _ c.loop-letter.letter-index (omega arith) in
    let q = c.loop-letter.invariant.1 ∙ walk-all _ _ _ c.loop-letter.letter-index (omega arith) in λ j. record { first = p j; second = q j }
