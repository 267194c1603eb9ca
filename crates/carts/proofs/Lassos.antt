-- The shows of a cart are refused for nothing exactly if each is a lasso, and show i for what it is refused alone, once those before it are not.
-- Assumes nothing.
use mathlib.Core.Path.{◌≡◌, refl, ap, sym, subst, ◌∙◌}
use mathlib.Core.List.{List}
use Prim.Native.Nat.{ℕ, zero, suc, ◌≤◌, ◌<◌}
use native.Mathlib.Omega.{arith}
use native.Mathlib.Nat.{le_of_suc-le-suc}
use lib.ListN.{length, get_or}
use Rattle.slices.specs.declared.Refusal.{Refusal}
use Rattle.slices.specs.Refusals.{Fault, sound, fault, unless}
use Rattle.slices.proofs.Refusals.{passed, failed, then-left, then-right}
use Rattle.fdfa.specs.Family.{Words}
use Rattle.carts.specs.Layout as layout
use Rattle.carts.specs.Layout.{cart_bytes, Cartable, Lassos}
use Rattle.carts.specs.Reading.{count_of, end_at, show_at, shows_from, end_from, shows_of}
use Rattle.carts.specs.Faults.{layout_fault, show_fault, shows_fault, cart_fault}
use Rattle.carts.proofs.Onward.{end-rises}
use Rattle.carts.proofs.Shows.{show-lasso, lasso-show}
use Rattle.carts.proofs.Layouts.{layout-exact}
use Rattle.carts.proofs.Bytes.{bytes-sound, bytes-shown, read-bytes}

module _ (s : ℕ) (b : List ℕ) where
  shows-lassos : (c at : ℕ) → end_from b at c ≡ length b → shows_fault s b at c ≡ sound → Lassos s (shows_from b at c)
  unfolding shows_from end_from shows_fault
  shows-lassos zero at e f = layout.Lassos.done
  shows-lassos (suc c) at e f =
      layout.Lassos.more {w = show_at b at} (show-lasso s b at (omega (arith, e, end-rises b (end_at b at) c)) (then-left (show_fault s b at) _ f))
      (shows-lassos c (end_at b at) e (then-right (show_fault s b at) _ f))

  pub lassos-shows : (c at : ℕ) → end_from b at c ≤ length b → Lassos s (shows_from b at c) → shows_fault s b at c ≡ sound
  unfolding shows_from end_from shows_fault
  lassos-shows zero at e l = refl
  lassos-shows (suc c) at e (layout.Lassos.more l ls) =
      passed _ (lasso-show s b at (omega (arith, e, end-rises b (end_at b at) c)) l) ∙ lassos-shows c (end_at b at) e ls

  -- Of bytes that are not refused each show is a lasso over the letters, and they are the cart of these lassos.
  pub cart-lassos : ((i : ℕ) → i < length b → get_or b i 0 < 256) → cart_fault s b ≡ sound → Cartable (shows_of b) × Lassos s (shows_of b) × (b ≡ cart_bytes (shows_of b))
  unfolding cart_fault
  cart-lassos small e = (read.0, shows-lassos (count_of b) 1 (layout-exact b fine) (then-right (layout_fault b) _ e), read.1)
    where
      fine : layout_fault b ≡ sound
      fine = then-left (layout_fault b) (shows_fault s b 1 (count_of b)) e

      read : Cartable (shows_of b) × (b ≡ cart_bytes (shows_of b))
      read = read-bytes b small (shows_of b) (ap (λ (f : Fault). unless f (shows_of b)) fine)

  -- the shows before the one with index i are judged before it, those behind it after it
  pub show-refused : (c at i : ℕ) {r : Refusal} → i < c → ((k : ℕ) → k < i → show_fault s b (end_from b at k) ≡ sound) → show_fault s b (end_from b at i) ≡ fault r → shows_fault s b at c ≡ fault r
  unfolding end_from shows_fault
  show-refused zero at i h before e = absurd (omega arith)
  show-refused (suc c) at zero h before e = failed _ e
  show-refused (suc c) at (suc i) h before e =
      passed _ (before 0 (omega arith)) ∙ show-refused c (end_at b at) i (le_of_suc-le-suc h) (λ k l. before (suc k) (omega arith)) e

-- The cart of lassos is not refused.
pub lassos-cart : (s : ℕ) (ws : List Words) → Cartable ws → Lassos s ws → cart_fault s (cart_bytes ws) ≡ sound
unfolding cart_fault
lassos-cart s ws f l =
    let b = cart_bytes ws in
    let fine = bytes-sound ws f in
    passed _ fine ∙ lassos-shows s b (count_of b) 1 (omega (arith, layout-exact b fine)) (subst (Lassos s) (sym (bytes-shown ws f)) l)
