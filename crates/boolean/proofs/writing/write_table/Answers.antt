-- The answers of `boolean::writing::write_table`: the table in 16 bits, then as bytes. Assumes nothing.
use mathlib.Core.Path.{◌≡◌, ap, sym, subst, ◌∙◌}
use mathlib.Core.List.{List}
use Prim.Native.Nat.{ℕ, ◌*◌, ◌<◌}
use native.Mathlib.Omega.{arith}
use lib.ListN.{length, get_or, take}
use Rattle.slices.specs.Filling.{written}
use Rattle.slices.specs.Tables.{table}
use Rattle.slices.proofs.Tables.{length-table, table_below}
use Rattle.slices.proofs.Filling.{written-front}
use Rattle.pairing.specs.Pairs.{next_pair_of}
use Rattle.boolean.proofs.writing.write_table.Goals as goal

-- the cells of the array that are copied
front : (k s : ℕ) (f : ℕ → ℕ → ℕ) (old : List ℕ) {new : List ℕ} → new ≡ written (table k s f) old → take (k * s) new ≡ table k s f
front k s f old e = ap (take (k * s)) e ∙ written-front (table k s f) _ (length-table k s f)

pub narrow_copy-requires : goal.narrow_copy-requires
narrow_copy-requires c =
    let s = c.args in
    let e = front s.count s.t.letters (next_pair_of s.first.now s.second.now s.t) _ c.tabulate.ensures in
    let l : length (take (s.count * s.t.letters) c.tabulate.new.out) ≡ s.count * s.t.letters =
    ap length e ∙ length-table s.count s.t.letters (next_pair_of s.first.now s.second.now s.t)
    in (
      omega (arith, l, c.requires.2),
      λ i h. subst (λ (w : List ℕ). get_or w i 0 < 256) (sym e)
          (table_below _ _ _ 256 (λ q a h l. omega (arith, c.requires.0.closed q a h l, c.requires.1)) i (omega (arith, l, h))),
    )

pub returns : goal.returns
returns c =
    let s = c.args in
    c.narrow_copy.ensures ∙ ap (λ (l : List ℕ). written l s.out.now) (front s.count s.t.letters (next_pair_of s.first.now s.second.now s.t) _ c.tabulate.ensures)
