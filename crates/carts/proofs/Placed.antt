-- The refusal of a show by its place in the cart, and that a cart of lassos is made of bytes. Assumes nothing.
use mathlib.Core.Path.{◌≡◌, refl, ap, sym, subst, ◌∙◌}
use mathlib.Core.List.{List, [], ◌∷◌, ◌++◌, append_assoc}
use Prim.Native.Nat.{ℕ, zero, suc, ◌+◌, ◌%◌, ◌/◌, ◌≤◌, ◌<◌}
use native.Mathlib.Omega.{arith}
use native.Mathlib.Nat.{zero-add, suc-add}
use lib.ListN.{length, length-append}
use Rattle.slices.specs.declared.Refusal.{Refusal}
use Rattle.slices.specs.LassoLetters.{letters_fault}
use Rattle.slices.specs.Refusals.{Fault, sound, fault, ◌then◌}
use Rattle.slices.proofs.Refusals.{passed, failed}
use Rattle.fdfa.specs.Words.{Over, done, below}
use Rattle.fdfa.specs.Family.{Words, Lasso}
use Rattle.fdfa.proofs.Words.{over-append}
use Rattle.fdfa.proofs.Letters.{lasso-more}
use Rattle.carts.specs.Layout as layout
use Rattle.carts.specs.Layout.{show_bytes, each_show, cart_bytes, ShortParts, Cartable, Lassos}
use Rattle.carts.specs.Reading.{count_of, prefix_length, end_at, show_at, shows_from, end_from}
use Rattle.carts.specs.Faults.{show_fault, shows_fault, cart_fault}
use Rattle.carts.specs.Places.{counted}
use Rattle.carts.proofs.Onward.{end-rises}
use Rattle.carts.proofs.Layouts.{layout-exact}
use Rattle.carts.proofs.Bytes.{header, prefix-length, show-is, end_is, bytes-shows, bytes-sound}
use Rattle.carts.proofs.Lassos.{lassos-shows}
use Rattle.carts.proofs.Alone.{show-alone}

-- so many shows, then others
module _ (s : ℕ) (b : List ℕ) where
  faults-cut : (m c at : ℕ) → shows_fault s b at (m + c) ≡ (shows_fault s b at m then shows_fault s b (end_from b at m) c)
  unfolding shows_fault end_from
  faults-cut zero c at = ap (shows_fault s b at) (zero-add c)
  faults-cut (suc m) c at =
      ap (shows_fault s b at) (suc-add m c)
      ∙ (ap (λ (f : Fault). show_fault s b at then f) (faults-cut m c (end_at b at)) ∙ regroup (show_fault s b at) (shows_fault s b (end_at b at) m) _)
    where
      regroup : (f g h : Fault) → (f then (g then h)) ≡ ((f then g) then h)
      regroup sound g h = refl
      regroup (fault r) g h = refl

  ends-cut : (m c at : ℕ) → end_from b at (m + c) ≡ end_from b (end_from b at m) c
  unfolding end_from
  ends-cut zero c at = ap (end_from b at) (zero-add c)
  ends-cut (suc m) c at = ap (end_from b at) (suc-add m c) ∙ ends-cut m c (end_at b at)

each_append : (ws vs : List Words) → each_show (ws ++ vs) ≡ each_show ws ++ each_show vs
unfolding each_show
each_append [] vs = refl
each_append (w ∷ ws) vs = ap (λ (l : List ℕ). show_bytes w ++ l) (each_append ws vs) ∙ sym (append_assoc (show_bytes w) (each_show ws) (each_show vs))

parts-before : (ws vs : List Words) → ShortParts (ws ++ vs) → ShortParts ws × ShortParts vs
parts-before [] vs s = (layout.ShortParts.done, s)
parts-before (w ∷ ws) vs (layout.ShortParts.more p q s) = let r = parts-before ws vs s in (layout.ShortParts.more p q r.0, r.1)

-- A show that is at fault behind lassos, whatever follows it: the cart is refused for it, and the place is counted from the cart's first byte,
-- behind the shows before it and its header.
module _ (s : ℕ) (before : List Words) (w : Words) (behind : List Words) (fits : Cartable (before ++ (w ∷ behind))) (good : Lassos s before) where
  abbrev ws : List Words
  ws = before ++ (w ∷ behind)

  abbrev b : List ℕ
  b = cart_bytes ws

  abbrev front : List ℕ
  front = length ws ∷ each_show before

  split : b ≡ front ++ (show_bytes w ++ each_show behind)
  unfolding each_show
  split = ap (λ (l : List ℕ). length ws ∷ l) (each_append before (w ∷ behind))

  parts : ShortParts before × ShortParts (w ∷ behind)
  parts = parts-before before (w ∷ behind) fits.parts

  own : (length w.prefix < 65536) × (length w.period < 65536)
  own = of parts.1
    where
      of : {w : Words} {ws : List Words} → ShortParts (w ∷ ws) → (length w.prefix < 65536) × (length w.period < 65536)
      of (layout.ShortParts.more p q r) = (p, q)

  -- the shows before it
  first : (shows_from b 1 (length before) ≡ before) × (end_from b 1 (length before) ≡ length front)
  first =
      subst (λ (l : List ℕ). (shows_from l 1 (length before) ≡ before) × (end_from l 1 (length before) ≡ length front)) (sym split)
      (bytes-shows before parts.0 (length ws ∷ []) (show_bytes w ++ each_show behind))

  -- where it lies
  lies : (show_at b (length front) ≡ w) × (prefix_length b (length front) ≡ length w.prefix) × (end_at b (length front) ≤ length b)
  lies =
      subst (λ (l : List ℕ). (show_at l (length front) ≡ w) × (prefix_length l (length front) ≡ length w.prefix) × (end_at l (length front) ≤ length l)) (sym split) (
        show-is front w (each_show behind) own.0 own.1,
        prefix-length front w (each_show behind) own.0 own.1,
        omega (arith, end_is front w (each_show behind) own.0 own.1, length-append (front ++ show_bytes w) (each_show behind), ap length (append_assoc front (show_bytes w) (each_show behind))),
      )

  exact : end_from b 1 (count_of b) ≡ length b
  exact = layout-exact b (bytes-sound ws fits)

  many : count_of b ≡ length before + suc (length behind)
  many = length-append before (w ∷ behind)

  fine : shows_fault s b 1 (length before) ≡ sound
  fine =
      lassos-shows s b (length before) 1
      (omega (arith, exact, ap (end_from b 1) many, ends-cut s b (length before) (suc (length behind)) 1, end-rises b (end_from b 1 (length before)) (suc (length behind))))
      (subst (Lassos s) (sym first.0) good)

  pub show-place : (r : Refusal) → letters_fault s w.prefix w.period ≡ fault r
      → cart_fault s b ≡ counted (length (cart_bytes before) + 4) (length (cart_bytes before) + 4 + length w.prefix) (fault r)
  unfolding cart_fault shows_fault
  show-place r e =
      passed _ (bytes-sound ws fits)
      ∙ (ap (shows_fault s b 1) many
      ∙ (faults-cut s b (length before) (suc (length behind)) 1
      ∙ (passed _ fine ∙ (ap (λ (at : ℕ). shows_fault s b at (suc (length behind))) first.1 ∙ failed _ alone))))
    where
      alone : show_fault s b (length front) ≡ counted (length front + 4) (length front + 4 + length w.prefix) (fault r)
      alone =
          show-alone s b (length front) lies.2
          ∙ (λ i. counted (length front + 4) (length front + 4 + lies.1 i) (letters_fault s (lies.0 i).prefix (lies.0 i).period))
          ∙ ap (counted (length front + 4) (length front + 4 + length w.prefix)) e

-- A cart of lassos is made of bytes.
module _ (s : ℕ) (h : s ≤ 256) where
  show-over : (w : Words) → length w.prefix < 65536 → length w.period < 65536 → Lasso s w.prefix w.period → Over 256 (show_bytes w)
  show-over w p q l =
      let k = lasso-more h l in
      over-append (over-append (subst (Over 256) (sym (header (length w.prefix) (length w.period))) four) k.prefix) k.period
    where
      four : Over 256 (length w.prefix % 256 ∷ length w.prefix / 256 ∷ length w.period % 256 ∷ length w.period / 256 ∷ [])
      four =
          below {a = length w.prefix % 256} (omega arith)
          (below {a = length w.prefix / 256} (omega arith)
          (below {a = length w.period % 256} (omega arith) (below {a = length w.period / 256} (omega arith) done)))

  each_over : (ws : List Words) → ShortParts ws → Lassos s ws → Over 256 (each_show ws)
  unfolding each_show
  each_over [] p l = done
  each_over (w ∷ ws) (layout.ShortParts.more p q r) (layout.Lassos.more l ls) = over-append (show-over w p q l) (each_over ws r ls)

  pub cart-over : (ws : List Words) → Cartable ws → Lassos s ws → Over 256 (cart_bytes ws)
  cart-over ws f l = below {a = length ws} (omega (arith, f.few)) (each_over ws f.parts l)
