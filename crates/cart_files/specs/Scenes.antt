-- Which show of a cart a place lies in. Assumes nothing.
use Rattle.std.specs.Prelude.{cond, List, ℕ, zero, suc, ◌+◌, ◌-◌, ltb}
use Rattle.carts.specs.Reading.{count_of, prefix_length, prefix_at, period_at, end_at}
use Rattle.cart_files.specs.declared.Scene.{Scene}

-- In the show of index i, which begins at a place: counted from where its part begins.
abbrev pub scene_in_value : List ℕ → ℕ → ℕ → ℕ → Scene
scene_in_value b at i place = record {
  show = i;
  openings = prefix_length b at;
  place = cond (ltb place (period_at b at)) (place - prefix_at at) (place - period_at b at);
}

-- In the first of so many shows from a place on that ends behind it.
unfoldable pub scene_from : List ℕ → ℕ → ℕ → ℕ → ℕ → Scene
scene_from b at i zero place = record { show = i; openings = 0; place = 0 }
scene_from b at i (suc c) place =
    cond (ltb place (end_at b at)) (scene_in_value b at i place) (scene_from b (end_at b at) (i + 1) c place)

abbrev pub scene_at : List ℕ → ℕ → Scene
scene_at b place = scene_from b 1 0 (count_of b) place
