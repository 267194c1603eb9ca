-- The shows of a cart, for any bytes. Assumes nothing.
use Rattle.std.specs.Prelude.{List, [], ◌∷◌, ℕ, zero, suc, ◌+◌, ◌*◌, get_or, take, drop}
use Rattle.fdfa.specs.Family.{Words}

-- How many shows there are.
abbrev pub count_of : List ℕ → ℕ
count_of b = get_or b 0 0

-- A length in the header of a show: 16 bits, low byte first.
abbrev pub length_at : List ℕ → ℕ → ℕ
length_at b at = get_or b at 0 + get_or b (at + 1) 0 * 256

abbrev pub prefix_length : List ℕ → ℕ → ℕ
prefix_length b at = length_at b at

abbrev pub period_length : List ℕ → ℕ → ℕ
period_length b at = length_at b (at + 2)

-- Of the show that begins at a place: where its prefix begins, where its period does, and where it ends.
abbrev pub prefix_at : ℕ → ℕ
prefix_at at = at + 4

abbrev pub period_at : List ℕ → ℕ → ℕ
period_at b at = prefix_at at + prefix_length b at

abbrev pub end_at : List ℕ → ℕ → ℕ
end_at b at = period_at b at + period_length b at

-- The show itself.
abbrev pub show_at : List ℕ → ℕ → Words
show_at b at = record {
  prefix = take (prefix_length b at) (drop (prefix_at at) b);
  period = take (period_length b at) (drop (period_at b at) b);
}

-- So many shows, one after the other from a place on, and where the last of them ends.
unfoldable pub shows_from : List ℕ → ℕ → ℕ → List Words
shows_from b at zero = []
shows_from b at (suc c) = show_at b at ∷ shows_from b (end_at b at) c

unfoldable pub end_from : List ℕ → ℕ → ℕ → ℕ
end_from b at zero = at
end_from b at (suc c) = end_from b (end_at b at) c

-- The shows of a cart.
abbrev pub shows_of : List ℕ → List Words
shows_of b = shows_from b 1 (count_of b)
