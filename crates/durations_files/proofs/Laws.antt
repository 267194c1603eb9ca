-- What is decided of texts that are read: only a letter that has no cell is refused. And of the text of a sheet and that of a show, whose letters
-- have cells, it is the running sheet of that show. Assumes nothing.
use Rattle.std.specs.Prelude.{Result, Ok}
use Rattle.slices.specs.declared.Refusal.{Refusal}
use mathlib.Core.Path.{◌≡◌, refl, ap, sym, subst, ◌∙◌}
use mathlib.Core.List.{List}
use Prim.Native.Nat.{ℕ, ◌≤◌}
use native.Mathlib.Omega.{arith}
use lib.ListN.{length}
use Rattle.slices.specs.Refusals.{Fault, sound, fault, ◌then◌, unless, mapped}
use Rattle.slices.specs.LassoLetters.{letters_fault}
use Rattle.slices.specs.Seconds.{TimesFit}
use Rattle.slices.proofs.Refusals.{passed}
use Rattle.slices.proofs.Timings.{fit-seconds}
use Rattle.fdfa.specs.Family.{Words}
use Rattle.fdfa.proofs.Letters.{lasso-more, lasso-letters}
use Rattle.packed.specs.Layout.{letter_count}
use Rattle.notation.specs.Reading.{Sheet, sheet_in}
use Rattle.notation.specs.Writing.{Writable}
use Rattle.notation.proofs.Laws as notation
use Rattle.sheet_forms.proofs.Rooms.{timed-few}
use Rattle.lasso_text.specs.Text.{lasso_text_of, Readable}
use Rattle.lasso_text.specs.Reading.{words_in, read_fault}
use Rattle.running_sheet.specs.Text.{running_sheet_of}
use Rattle.running_sheet.specs.Writing.{cell_fault, input_fault}
use Rattle.running_sheet.proofs.Faults.{all-cells, not-long}
use Rattle.show_files.specs.Shown.{shown}
use Rattle.show_files.proofs.Openings.{both-few}
use Rattle.show_files.proofs.Laws.{lasso-shown, lasso-room}
use Rattle.console.specs.Files.{after}
use Rattle.console.proofs.Lengths.{lengths-good}
use Rattle.durations_files.specs.Decided.{seconds_in, cells_in, prefix_shown, period_shown, running, of_cells, decided}

then-none : (f : Fault) {g : Fault} → g ≡ sound → f then g ≡ f
then-none sound e = e
then-none (fault r) e = refl

-- a sheet's text that is read
module _ (b : List ℕ) (x : Sheet) (is : sheet_in b ≡ Ok x) where
  written : Writable x
  written = (notation.read-text b x is).0

  pub few-cells : length x.seconds ≤ 32
  few-cells = omega (arith, written.exact, timed-few x.level (letter_count x.bytes) written.valid.header.few_letters)

  -- its seconds are from 1 to 999
  good-cells : cell_fault x.seconds ≡ sound
  good-cells =
      sym (all-cells x.seconds)
      ∙ fit-seconds (length x.seconds) x.seconds (subst (λ (m : ℕ). TimesFit m x.seconds) (sym written.exact) written.times)

  -- Neither a second out of range nor a part too long is left for the running sheet.
  pub only-unknown : (t : List ℕ) → read_fault (shown t) 4096 4096 ≡ sound
      → input_fault (prefix_shown t) (period_shown t) x.seconds ≡ letters_fault (length x.seconds) (prefix_shown t) (period_shown t)
  unfolding input_fault
  only-unknown t read =
      let few = both-few t read in
      then-none (letters_fault (length x.seconds) (prefix_shown t) (period_shown t))
      (passed _ good-cells ∙ not-long (prefix_shown t) (period_shown t) (omega (arith, few.0)) (omega (arith, few.1)))

  -- The text of a show gets the running sheet of that show.
  module _ (u v : List ℕ) (known : Readable (length x.seconds) u v) (o : length u ≤ 4096) (p : length v ≤ 4096) where
    abbrev t : List ℕ
    t = lasso_text_of u v

    readable : Readable 32 u v
    readable = lasso-more few-cells known

    is-lasso : words_in (shown t) ≡ record { prefix = u; period = v }
    is-lasso = lasso-shown u v readable

    read : read_fault (shown t) 4096 4096 ≡ sound
    read = lasso-room u v readable 4096 4096 o p

    nothing : input_fault (prefix_shown t) (period_shown t) x.seconds ≡ sound
    nothing =
        only-unknown t read
        ∙ (ap (λ (w : Words). letters_fault (length x.seconds) w.prefix w.period) is-lasso ∙ lasso-letters (length x.seconds) u v known)

    runs : running x.seconds t ≡ Ok (running_sheet_of u v x.seconds)
    unfolding running
    runs =
        ap (λ (f : Fault). unless f (running_sheet_of (prefix_shown t) (period_shown t) x.seconds)) (passed _ read ∙ nothing)
        ∙ ap (λ (w : Words). Ok (running_sheet_of w.prefix w.period x.seconds)) is-lasso

    pub show-decided : length b ≤ 65536 → length t ≤ 65536 → decided b t ≡ Ok (running_sheet_of u v x.seconds)
    unfolding decided
    show-decided h k =
        ap (λ (f : Fault). after f (of_cells (cells_in b) t)) (lengths-good (length b) (length t) h k)
        ∙ (ap (λ (y : Result Sheet Refusal). of_cells (mapped seconds_in y) t) is ∙ runs)
