-- A cart (02, F-7): up to 64 shows as bytes, a count byte, then each show. Assumes nothing.
use Rattle.std.specs.Prelude.{List, [], ◌∷◌, ◌++◌, ℕ, ◌≤◌, ◌<◌, length}
use Rattle.slices.specs.Halves.{half_bytes_of}
use Rattle.fdfa.specs.Family.{Words, Lasso}

-- A show: the lengths of opening and loop, 16 bits each, low byte first, then its scenes.
abbrev pub show_bytes : Words → List ℕ
show_bytes w = half_bytes_of (length w.prefix ∷ length w.period ∷ []) ++ w.prefix ++ w.period

unfoldable pub each_show : List Words → List ℕ
each_show [] = []
each_show (w ∷ ws) = show_bytes w ++ each_show ws

-- How many shows, then each.
abbrev pub cart_bytes : List Words → List ℕ
cart_bytes ws = length ws ∷ each_show ws

-- Each part of every show has a length of 16 bits.
pub data ShortParts : List Words → Type 0 where
  done : ShortParts []
  more : {w : Words} {ws : List Words} → length w.prefix < 65536 → length w.period < 65536 → ShortParts ws
      → ShortParts (w ∷ ws)

-- The shows that a cart takes: 1 to 64.
pub record Cartable (ws : List Words) : Type 0 where
  pub some : 1 ≤ length ws
  pub few : length ws ≤ 64
  pub parts : ShortParts ws

-- Every show is a lasso over s letters.
pub data Lassos (s : ℕ) : List Words → Type 0 where
  done : Lassos s []
  more : {w : Words} {ws : List Words} → Lasso s w.prefix w.period → Lassos s ws → Lassos s (w ∷ ws)
