-- What inner functions say and need. Assumes nothing.
use Rattle.std.specs.Prelude.{◌≡◌, List, ℕ, length}
use Rattle.slices.specs.declared.Part.TheVariants.{First}
use Rattle.slices.specs.Refusals.{sound}
use Rattle.packed.specs.Layout.{letter_count}
use Rattle.packed.specs.Faults.{sheet_fault}
use Rattle.carts.specs.declared.Span.{Span}
use Rattle.carts.specs.Reading.{prefix_at, period_at, end_at, end_from}
use Rattle.carts.specs.Faults.{shows_fault}

-- Where the show lies that begins at a place.
abbrev pub span_of : List ℕ → ℕ → Span
span_of b at = record { prefix = prefix_at at; period = period_at b at; end = end_at b at }

-- A good sheet, and so many good shows from a place on, which end where the cart does.
pub record GoodShows (sheet b : List ℕ) (at count : ℕ) : Type 0 where
  pub sheet_good : sheet_fault First sheet ≡ sound
  pub exact : end_from b at count ≡ length b
  pub shows_good : shows_fault (letter_count sheet) b at count ≡ sound
