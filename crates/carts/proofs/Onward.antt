-- Shows one after the other: what is left of them after the first. Assumes nothing.
use mathlib.Core.Path.{◌≡◌, refl, ap}
use mathlib.Core.Bool.{cond}
use mathlib.Core.List.{List}
use Prim.Native.Nat.{ℕ, zero, suc, ◌+◌, ◌-◌, ◌≤◌, ◌<◌}
use native.Mathlib.Omega.{arith}
use lib.ListN.{length}
use Rattle.slices.specs.Refusals.{sound, ◌then◌}
use Rattle.fdfa.specs.Family.{Fdfa}
use Rattle.fdfa.specs.Acceptance.{accepts}
use Rattle.carts.specs.Reading.{show_at, end_at, shows_from, end_from}
use Rattle.carts.specs.Faults.{show_fault, shows_fault}
use Rattle.carts.specs.Loads.{first_rejected_of}

-- how many are left
pub all_left : (count : ℕ) → count - 0 ≡ count
all_left count = omega arith

one_less : {i count : ℕ} → i < count → count - i ≡ suc (count - (i + 1))
one_less h = omega arith

none_left : {i count : ℕ} → count ≤ i → count - i ≡ 0
none_left h = omega arith

module _ (b : List ℕ) where
  pub end-rises : (at c : ℕ) → at ≤ end_from b at c
  unfolding end_from
  end-rises at zero = omega arith
  end-rises at (suc c) = omega (arith, end-rises (end_at b at) c)

  pub count-shows : (at c : ℕ) → length (shows_from b at c) ≡ c
  unfolding shows_from
  count-shows at zero = refl
  count-shows at (suc c) = ap suc (count-shows (end_at b at) c)

  module _ (at : ℕ) {i count : ℕ} where
    pub end-next : i < count → end_from b at (count - i) ≡ end_from b (end_at b at) (count - (i + 1))
    unfolding end_from
    end-next h = ap (end_from b at) (one_less h)

    pub end-last : count ≤ i → end_from b at (count - i) ≡ at
    unfolding end_from
    end-last h = ap (end_from b at) (none_left h)

    pub fault-next : (s : ℕ) → i < count → shows_fault s b at (count - i) ≡ (show_fault s b at then shows_fault s b (end_at b at) (count - (i + 1)))
    unfolding shows_fault
    fault-next s h = ap (shows_fault s b at) (one_less h)

    pub fault-last : (s : ℕ) → count ≤ i → shows_fault s b at (count - i) ≡ sound
    unfolding shows_fault
    fault-last s h = ap (shows_fault s b at) (none_left h)

    pub rejected-next : (F : Fdfa) → i < count
        → first_rejected_of F (shows_from b at (count - i))
        ≡ cond (accepts F (show_at b at).prefix (show_at b at).period) (suc (first_rejected_of F (shows_from b (end_at b at) (count - (i + 1))))) 0
    unfolding shows_from first_rejected_of
    rejected-next F h = ap (λ (n : ℕ). first_rejected_of F (shows_from b at n)) (one_less h)

    pub rejected-last : (F : Fdfa) → count ≤ i → first_rejected_of F (shows_from b at (count - i)) ≡ 0
    unfolding shows_from first_rejected_of
    rejected-last F h = ap (λ (n : ℕ). first_rejected_of F (shows_from b at n)) (none_left h)
