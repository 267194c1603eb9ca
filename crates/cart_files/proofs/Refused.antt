-- A scene of a cart that is refused is found in the show that is refused for it. Assumes nothing.
use Rattle.slices.specs.declared.Reason.TheVariants.{EmptyLoop, UnknownLetter}
use mathlib.Core.Path.{◌≡◌, refl, ap, sym, subst, ◌∙◌}
use mathlib.Core.Bool.{Bool, true, false, cond}
use mathlib.Core.List.{List, [], ◌∷◌}
use Prim.Native.Nat.{ℕ, zero, suc, ◌+◌, ◌-◌, ◌≤◌, ◌<◌}
use native.Mathlib.Omega.{arith}
use lib.Dec.{eqb, ltb}
use lib.ListN.{length, take, drop}
use borrow.Author.Tests.{lt-ltb, le-ltb, ltb-true}
use Rattle.slices.specs.declared.Part.{Part}
use Rattle.slices.specs.declared.Part.TheVariants.{Opening, Loop}
use Rattle.slices.specs.declared.Refusal.{Refusal}
use Rattle.slices.specs.Refusals.{Fault, sound, fault, ◌then◌, when}
use Rattle.slices.specs.Scans.{first_outside_of, scan}
use Rattle.slices.proofs.Refusals.{faulty, then-left, then-right}
use Rattle.fdfa.specs.Family.{Words}
use Rattle.lasso_text.specs.Reading.{words_in}
use Rattle.show_files.specs.Shown.{shown}
use Rattle.show_files.proofs.Openings.{both-few}
use Rattle.carts.specs.Reading.{count_of, prefix_length, period_length, prefix_at, period_at, end_at, show_at, shows_from, end_from}
use Rattle.carts.specs.Faults.{show_fault, shows_fault}
use Rattle.carts.proofs.Onward.{end-rises}
use Rattle.carts.proofs.Shows.{part_length}
use Rattle.carts.proofs.Layouts.{layout-exact}
use Rattle.carts.proofs.Bytes.{bytes-sound, bytes-shown}
use Rattle.cart_files.specs.declared.Scene.{Scene}
use Rattle.cart_files.specs.Decided.{first_fault, text_test, texts_fault, shows_in, cart_of}
use Rattle.cart_files.specs.Scenes.{scene_in_value, scene_from, scene_at}
use Rattle.cart_files.proofs.Laws.{texts-cartable}

fault-was : {q r : Refusal} → fault q ≡ fault r → q ≡ r
fault-was e = cc

-- a scan refuses a cell that it looks at
scanned : (part : Part) (s : ℕ) (b : List ℕ) (o m : ℕ) {r : Refusal} → scan UnknownLetter part 0 s b o m ≡ fault r → (o ≤ r.place) × (r.place < o + m)
scanned part s b o m {r} = by (ltb i m) refl
  where
    i : ℕ
    i = first_outside_of 0 s b o m

    by : (t : Bool) → ltb (first_outside_of 0 s b o m) m ≡ t → when t UnknownLetter part (o + first_outside_of 0 s b o m) ≡ fault r → (o ≤ r.place) × (r.place < o + m)
    by true h e =
        let d : o + first_outside_of 0 s b o m ≡ r.place = ap (λ (x : Refusal). x.place) (fault-was e) in
        let l : first_outside_of 0 s b o m < m = ltb-true _ m h in
        (omega arith, omega arith)
    by false h e = absurd (faulty (sym e))

-- whichever of two tests is met
either : (f g : Fault) {r : Refusal} (P : Type 0) → (f ≡ fault r → P) → (g ≡ fault r → P) → f then g ≡ fault r → P
either sound g P p q e = q e
either (fault x) g P p q e = p e

-- Of so many shows from a place on, the one that is refused, and the scene is in it.
pub record SceneFound (s : ℕ) (b : List ℕ) (r : Refusal) (at i c : ℕ) : Type 0 where
  pub show : ℕ
  pub among : show < c
  pub refuses : show_fault s b (end_from b at show) ≡ fault r
  pub scene : scene_from b at i c r.place ≡ scene_in_value b (end_from b at show) (i + show) r.place

module _ (s : ℕ) (b : List ℕ) (r : Refusal) (unknown : r.reason ≡ UnknownLetter) where
  -- a scene of a show lies within it
  within : (at : ℕ) → show_fault s b at ≡ fault r → (at ≤ r.place) × (r.place < end_at b at)
  unfolding show_fault
  within at e =
      either opening (empty then period) ((at ≤ r.place) × (r.place < end_at b at))
      (λ h. let d = scanned Opening s b (prefix_at at) (prefix_length b at) h in (omega (arith, d.0), omega (arith, d.1)))
      (λ h. either empty period ((at ≤ r.place) × (r.place < end_at b at)) (λ g. absurd (not-empty g))
      (λ g. let d = scanned Loop s b (period_at b at) (period_length b at) g in (omega (arith, d.0), omega (arith, d.1))) h) e
    where
      opening : Fault
      opening = scan UnknownLetter Opening 0 s b (prefix_at at) (prefix_length b at)

      empty : Fault
      empty = when (eqb (period_length b at) 0) EmptyLoop Loop (period_at b at)

      period : Fault
      period = scan UnknownLetter Loop 0 s b (period_at b at) (period_length b at)

      not-empty : when (eqb (period_length b at) 0) EmptyLoop Loop (period_at b at) ≡ fault r → ⊥
      not-empty = by (eqb (period_length b at) 0)
        where
          by : (t : Bool) → when t EmptyLoop Loop (period_at b at) ≡ fault r → ⊥
          by true g = let d : EmptyLoop ≡ UnknownLetter = ap (λ (x : Refusal). x.reason) (fault-was g) ∙ unknown in cc
          by false g = faulty (sym g)

  pub scene-found : (c at i : ℕ) → shows_fault s b at c ≡ fault r → SceneFound s b r at i c
  unfolding shows_fault end_from scene_from
  scene-found zero at i e = absurd (faulty (sym e))
  scene-found (suc c) at i e =
      either (show_fault s b at) (shows_fault s b (end_at b at) c) (SceneFound s b r at i (suc c))
      (λ h. record {
        show = 0;
        among = omega arith;
        refuses = h;
        scene =
            ap (λ (t : Bool). cond t (scene_in_value b at i r.place) (scene_from b (end_at b at) (i + 1) c r.place)) (lt-ltb r.place (end_at b at) (within at h).1)
            ∙ ap (λ (n : ℕ). scene_in_value b at n r.place) (omega arith);
      })
      (λ h. onward (scene-found c (end_at b at) (i + 1) h)) e
    where
      onward : SceneFound s b r (end_at b at) (i + 1) c → SceneFound s b r at i (suc c)
      onward f =
          let before : end_at b at ≤ r.place = omega (arith, end-rises b (end_at b at) f.show, (within (end_from b (end_at b at) f.show) f.refuses).0) in
          record {
            show = suc f.show;
            among = omega (arith, f.among);
            refuses = f.refuses;
            scene =
                ap (λ (t : Bool). cond t (scene_in_value b at i r.place) (scene_from b (end_at b at) (i + 1) c r.place)) (le-ltb r.place (end_at b at) before)
                ∙ (f.scene ∙ ap (λ (n : ℕ). scene_in_value b (end_from b (end_at b at) f.show) n r.place) (omega arith));
          }

-- Every part of the shows has its room.
data Few : List Words → Type 0 where
  done : Few []
  more : {w : Words} {ws : List Words} → length w.prefix ≤ 4096 → length w.period ≤ 4096 → Few ws → Few (w ∷ ws)

few-shows : (ts : List (List ℕ)) → texts_fault ts ≡ sound → Few (shows_in ts)
unfolding first_fault shows_in
few-shows [] e = done
few-shows (t ∷ ts) e =
    let few = both-few t (then-left (text_test t) (texts_fault ts) e) in
    more {w = words_in (shown t)} few.0 few.1 (few-shows ts (then-right (text_test t) (texts_fault ts) e))

module _ (b : List ℕ) where
  few-at : (c at k : ℕ) → k < c → Few (shows_from b at c) → (length (show_at b (end_from b at k)).prefix ≤ 4096) × (length (show_at b (end_from b at k)).period ≤ 4096)
  unfolding shows_from end_from
  few-at zero at k h f = absurd (omega arith)
  few-at (suc c) at zero h (more p q f) = (p, q)
  few-at (suc c) at (suc k) h (more p q f) = few-at c (end_at b at) k (omega arith) f

  ends-upto : (c at k : ℕ) → k < c → end_at b (end_from b at k) ≤ end_from b at c
  unfolding end_from
  ends-upto zero at k h = absurd (omega arith)
  ends-upto (suc c) at zero h = end-rises b (end_at b at) c
  ends-upto (suc c) at (suc k) h = ends-upto c (end_at b at) k (omega arith)

  -- of a show that lies in the cart
  lined : (at i place : ℕ) → end_at b at ≤ length b → place < end_at b at → length (show_at b at).prefix ≤ 4096 → length (show_at b at).period ≤ 4096
      → ((scene_in_value b at i place).openings ≤ 4096) × ((scene_in_value b at i place).place < 4096)
  lined at i place h l p q = (omega (arith, m), by (ltb place (period_at b at)) refl)
    where
      m : length (take (prefix_length b at) (drop (prefix_at at) b)) ≡ prefix_length b at
      m = part_length b (prefix_at at) (prefix_length b at) (omega arith)

      n : length (take (period_length b at) (drop (period_at b at) b)) ≡ period_length b at
      n = part_length b (period_at b at) (period_length b at) (omega arith)

      by : (t : Bool) → ltb place (period_at b at) ≡ t → cond t (place - prefix_at at) (place - period_at b at) < 4096
      by true e = let u = ltb-true place (period_at b at) e in omega (arith, m, u)
      by false e = omega (arith, n)

-- A scene of the cart of texts that are read stands in a line of its show's text.
pub scene-lined : (ts : List (List ℕ)) → 1 ≤ length ts → length ts ≤ 64 → texts_fault ts ≡ sound → (s : ℕ) (r : Refusal) → r.reason ≡ UnknownLetter
    → shows_fault s (cart_of ts) 1 (count_of (cart_of ts)) ≡ fault r → ((scene_at (cart_of ts) r.place).openings ≤ 4096) × ((scene_at (cart_of ts) r.place).place < 4096)
scene-lined ts some few read s r unknown e =
    let b = cart_of ts in
    let f = scene-found s b r unknown (count_of b) 1 0 e in
    let at = end_from b 1 f.show in
    let c = texts-cartable ts some few read in
    let part = few-at b (count_of b) 1 f.show f.among (subst Few (sym (bytes-shown (shows_in ts) c)) (few-shows ts read)) in
    let x = lined b at (0 + f.show) r.place (omega (arith, ends-upto b (count_of b) 1 f.show f.among, layout-exact b (bytes-sound (shows_in ts) c)))
    (within s b r unknown at f.refuses).1 part.0 part.1 in
    subst (λ (y : Scene). (y.openings ≤ 4096) × (y.place < 4096)) (sym f.scene) x
