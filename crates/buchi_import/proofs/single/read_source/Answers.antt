-- `buchi_import::single::read_source` meets its contract. Assumes nothing.
use Rattle.slices.proofs.Refusals.{handed}
use Rattle.std.specs.Prelude.{Result}
use Rattle.slices.specs.declared.Reason.TheVariants.{StateCount}
use Rattle.slices.specs.declared.Refusal.{Refusal}
use mathlib.Core.Path.{◌≡◌, ap, sym, ◌∙◌}
use mathlib.Core.List.{List, [], ◌∷◌}
use Prim.Native.Nat.{ℕ, ◌+◌, ◌≤◌}
use native.Mathlib.Omega.{arith}
use lib.ListN.{length}
use Rattle.slices.specs.declared.Part.TheVariants.{First}
use Rattle.format.specs.declared.Column.{Column}
use Rattle.format.specs.Format.{Format, Found, after, reading}
use Rattle.format.specs.Lines.{labelled}
use Rattle.format.proofs.Results.{after-after}
use Rattle.format.specs.Steps.{peeked}
use Rattle.numbers.specs.Numerals.{number_at_value}
use Rattle.format.proofs.Following.{cell-within, cell-lost, cell-got}
use Rattle.format.proofs.Lined.{labelled-chosen}
use Rattle.buchi_import.specs.Reading.{turn, due_state_of, target}
use Rattle.buchi_import.proofs.Few.{few-state}
use Rattle.buchi_import.proofs.single.read_source.Goals as goal

abbrev cell : ℕ → ℕ → ℕ → Format
cell m c a = labelled (91 ∷ []) (turn 16 StateCount (due_state_of m c a)) 93

abbrev rest : ℕ → List ℕ → Format
rest limit vs = target limit

-- by the column that the number chooses
found : (t : List ℕ) (at m c a v d : ℕ) {column : Column} {y : Result Found Refusal} → at ≤ length t → v ≡ peeked (number_at_value First t (at + 1)) → d ≡ due_state_of m c a → column ≡ turn 16 StateCount d v
    → y ≡ reading First t (labelled (91 ∷ []) (λ w. column) 93) at → y ≡ reading First t (cell m c a) at
found t at m c a v d h e k f g = labelled-chosen First t (91 ∷ []) (turn 16 StateCount (due_state_of m c a)) 93 at h (f ∙ (λ i. turn 16 StateCount (k i) (e i))) g

pub turn-column-requires : goal.turn-column-requires
turn-column-requires c = omega (arith, c.due_state.ensures, few-state c.args.m c.args.c c.args.a c.requires.1 c.requires.2)

pub read_target-requires : goal.read_target-requires
read_target-requires c =
    let f = found c.args.text.now c.args.at c.args.m c.args.c c.args.a _ _ c.requires.0 c.peek-v.ensures c.due_state.ensures c.turn-column.ensures c.read_labelled.ensures in
    cell-within First c.args.text.now (cell c.args.m c.args.c c.args.a) c.args.at f c.requires.0 c.in_ok-source.was

pub returns-in_err-source : goal.returns-in_err-source
returns-in_err-source c = rw (handed c.from_residual.ensures)
    (let f = found c.args.text.now c.args.at c.args.m c.args.c c.args.a _ _ c.requires.0 c.peek-v.ensures c.due_state.ensures c.turn-column.ensures c.read_labelled.ensures in
    sym (ap (after (c.args.a ∷ [])) (cell-lost First c.args.text.now (cell c.args.m c.args.c c.args.a) c.args.at f (rest c.args.limit) c.in_err-source.was)))

pub returns : goal.returns
returns c =
    let f = found c.args.text.now c.args.at c.args.m c.args.c c.args.a _ _ c.requires.0 c.peek-v.ensures c.due_state.ensures c.turn-column.ensures c.read_labelled.ensures in
    c.read_target.ensures
    ∙ sym (ap (after (c.args.a ∷ [])) (cell-got First c.args.text.now (cell c.args.m c.args.c c.args.a) c.args.at f (rest c.args.limit) c.in_ok-source.was) ∙ after-after (c.args.a ∷ []) (c.in_ok-source.source.value ∷ []) (reading First c.args.text.now (target c.args.limit) c.in_ok-source.source.next))
