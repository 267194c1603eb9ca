-- `blocks::writing::put_head` meets its contract. Assumes nothing.
use mathlib.Core.Path.{◌≡◌, ap, ◌∙◌}
use mathlib.Core.List.{[], ◌∷◌, ◌++◌}
use Prim.Native.Nat.{ℕ, ◌≤◌}
use native.Mathlib.Omega.{arith}
use lib.ListN.{length, take}
use Rattle.numbers.proofs.Stores.{stored-then, stored-as}
use Rattle.blocks.specs.Text.{names}
use Rattle.blocks.proofs.LetterNames.{all_names, names_of, names-few}
use Rattle.blocks.proofs.Lengths.{head-length}
use Rattle.blocks.proofs.writing.put_head.Goals as goal

-- the first bytes of the fixed text are the names
part : (s m : ℕ) → s ≤ 32 → m ≡ length (names s) → take m all_names ≡ names s
part s m h e = ap (λ (k : ℕ). take k all_names) e ∙ names_of s h

pub put_literal-p-requires : goal.put_literal-p-requires
put_literal-p-requires c = omega (arith, head-length c.args.title.now c.args.s, c.requires)

pub shared_ref_as_front-put_literal : goal.shared_ref_as_front-put_literal
shared_ref_as_front-put_literal c = omega (arith, c.names_len.ensures, names-few c.args.s c.requires.0)

pub put_literal-r-requires : goal.put_literal-r-requires
put_literal-r-requires c =
    omega (
      arith,
      head-length c.args.title.now c.args.s,
      c.requires.1,
      c.put_literal-p.ensures.next,
      ap length (part c.args.s c.names_len.result c.requires.0 c.names_len.ensures),
    )

pub put_literal-requires : goal.put_literal-requires
put_literal-requires c =
    omega (
      arith,
      head-length c.args.title.now c.args.s,
      c.requires.1,
      c.put_literal-p.ensures.next,
      c.put_literal-r.ensures.next,
      ap length (part c.args.s c.names_len.result c.requires.0 c.names_len.ensures),
    )

pub returns : goal.returns
returns c =
    let named = stored-as (part c.args.s c.names_len.result c.requires.0 c.names_len.ensures) c.put_literal-r.ensures in
    stored-then (c.args.title.now ++ names c.args.s) (10 ∷ []) (stored-then c.args.title.now (names c.args.s) c.put_literal-p.ensures named) c.put_literal.ensures
