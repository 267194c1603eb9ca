-- The loops of `cart_files::scenes::scene_at`.
use Rattle.cart_files.proofs.Sought.{Seeking}
use Rattle.cart_files.proofs.scenes.scene_at.Given as goal

abbrev pub invariant-loop-i : goal.invariant-loop-i
invariant-loop-i l = Seeking l.cart l.place l.count l.at l.i
