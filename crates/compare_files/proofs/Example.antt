-- The room that the program brings.
use mathlib.Core.Path.{◌≡◌}
use Prim.Native.Nat.{ℕ}
use lib.ListN.{length, length-replicate}
use Rattle.compare_files.specs.Decided.{room}

pub rooms : (length room.opening ≡ 4096) × (length room.period ≡ 4096) × (length room.work ≡ 8192)
rooms = (length-replicate {A = ℕ} 4096 0, length-replicate {A = ℕ} 4096 0, length-replicate {A = ℕ} 8192 0)
