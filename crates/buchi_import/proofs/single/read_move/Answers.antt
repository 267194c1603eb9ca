-- `buchi_import::single::read_move` meets its contract. Assumes nothing.
use Rattle.slices.proofs.Refusals.{handed}
use Rattle.std.specs.Prelude.{Result}
use Rattle.slices.specs.declared.Reason.TheVariants.{LetterCount}
use Rattle.slices.specs.declared.Refusal.{Refusal}
use mathlib.Core.Path.{◌≡◌, sym, ◌∙◌}
use mathlib.Core.List.{List, [], ◌∷◌}
use Prim.Native.Nat.{ℕ, ◌+◌, ◌≤◌}
use native.Mathlib.Omega.{arith}
use lib.ListN.{length, get_or}
use Rattle.slices.specs.declared.Part.TheVariants.{First}
use Rattle.format.specs.declared.Column.{Column}
use Rattle.format.specs.Format.{Format, Found, reading}
use Rattle.format.specs.Lines.{labelled}
use Rattle.format.specs.Steps.{peeked}
use Rattle.numbers.specs.Numerals.{number_at_value}
use Rattle.format.proofs.Following.{cell-within, cell-lost, cell-got}
use Rattle.format.proofs.Lined.{labelled-chosen}
use Rattle.buchi_import.specs.Reading.{turn, due_letter_of, from_state, transition}
use Rattle.buchi_import.proofs.Few.{few-letter}
use Rattle.buchi_import.proofs.single.read_move.Goals as goal

abbrev cell : ℕ → ℕ → Format
cell m c = labelled (115 ∷ []) (λ a. turn 32 LetterCount (due_letter_of m c a) a) 44

abbrev rest : ℕ → ℕ → ℕ → List ℕ → Format
rest limit m c vs = from_state limit m c (get_or vs 0 0)

-- by the column that the number chooses
found : (t : List ℕ) (at m c v d : ℕ) {column : Column} {y : Result Found Refusal} → at ≤ length t → v ≡ peeked (number_at_value First t (at + 1)) → d ≡ due_letter_of m c v → column ≡ turn 32 LetterCount d v
    → y ≡ reading First t (labelled (115 ∷ []) (λ a. column) 44) at → y ≡ reading First t (cell m c) at
found t at m c v d h e k f g =
    labelled-chosen First t (115 ∷ []) (λ a. turn 32 LetterCount (due_letter_of m c a) a) 44 at h (f ∙ ((λ i. turn 32 LetterCount (k i) v) ∙ (λ i. turn 32 LetterCount (due_letter_of m c (e i)) (e i)))) g

pub turn-column-requires : goal.turn-column-requires
turn-column-requires c =
    omega (arith, c.due_letter.ensures, few-letter c.args.m c.args.c c.peek-v.result c.requires.1 c.requires.2)

pub read_source-requires : goal.read_source-requires
read_source-requires c =
    let f = found c.args.text.now c.args.at c.args.m c.args.c _ _ c.requires.0 c.peek-v.ensures c.due_letter.ensures c.turn-column.ensures c.read_labelled.ensures in
    (cell-within First c.args.text.now (cell c.args.m c.args.c) c.args.at f c.requires.0 c.in_ok-letter.was, c.requires.1, c.requires.2)

pub returns-in_err-letter : goal.returns-in_err-letter
unfolding transition
returns-in_err-letter c = rw (handed c.from_residual.ensures)
    (let f = found c.args.text.now c.args.at c.args.m c.args.c _ _ c.requires.0 c.peek-v.ensures c.due_letter.ensures c.turn-column.ensures c.read_labelled.ensures in
    sym (cell-lost First c.args.text.now (cell c.args.m c.args.c) c.args.at f (rest c.args.limit c.args.m c.args.c) c.in_err-letter.was))

pub returns : goal.returns
unfolding transition
returns c =
    let f = found c.args.text.now c.args.at c.args.m c.args.c _ _ c.requires.0 c.peek-v.ensures c.due_letter.ensures c.turn-column.ensures c.read_labelled.ensures in
    c.read_source.ensures ∙ sym (cell-got First c.args.text.now (cell c.args.m c.args.c) c.args.at f (rest c.args.limit c.args.m c.args.c) c.in_ok-letter.was)
