-- Stepping m times from the start passes letter m of the lasso's infinite word, for every m. Assumes nothing.
use Rattle.std.specs.Prelude.{Ok}
use mathlib.Core.Path.{◌≡◌, refl, ap, ap₂, sym, ◌∙◌}
use mathlib.Core.Bool.{Bool, cond}
use mathlib.Core.List.{List}
use Prim.Native.Nat.{ℕ, zero, suc, ◌+◌, ◌-◌, ◌%◌, ◌≤◌, ◌<◌}
use native.Mathlib.Omega.{arith}
use native.Mathlib.Decide.{dec_lt, ℕ_discrete}
use native.Mathlib.Nat.{suc-mod, mod-lt, mod_self, mod-eq_of_lt, zero-mod}
use native.Mathlib.Numerals.{add-one}
use lib.ListN.{length}
use borrow.Author.Tests.{eq-eqb, ne_eqb, lt-ltb, le-ltb}
use Rattle.fdfa.specs.OmegaWord.{letter_at}
use Rattle.fdfa.proofs.OmegaWord.{prefix-letter, period-letter}
use Rattle.cursor.specs.declared.Phase.TheVariants.{Prefix, Period}
use Rattle.cursor.specs.declared.Cursor.{Cursor}
use Rattle.cursor.specs.declared.Step.{Step}
use Rattle.cursor.specs.Walking.{start_of, next_in, next_of, stepped, cursor_after}
use Rattle.cursor.proofs.Stepping.{inside, step-passes}

module _ (u v : List ℕ) (some : 0 < length v) where
  -- where the cursor stands after m steps
  data Stands (m : ℕ) (c : Cursor) : Type 0 where
    in_prefix : m < length u → c ≡ record { phase = Prefix; at = m } → Stands m c
    in_period : length u ≤ m → c ≡ record { phase = Period; at = (m - length u) % length v } → Stands m c

  next-on : (c : Cursor) (w : List ℕ) → c.at + 1 < length w → next_in c w ≡ record { phase = c.phase; at = c.at + 1 }
  next-on c w h = ap (λ (t : Bool). cond t (record { phase = c.phase; at = c.at + 1 }) (record { phase = Period; at = 0 })) (lt-ltb _ _ h)

  next-over : (c : Cursor) (w : List ℕ) → length w ≤ c.at + 1 → next_in c w ≡ record { phase = Period; at = 0 }
  next-over c w h = ap (λ (t : Bool). cond t (record { phase = c.phase; at = c.at + 1 }) (record { phase = Period; at = 0 })) (le-ltb _ _ h)

  at-start : Stands 0 (start_of u)
  at-start = by (ℕ_discrete (length u) 0)
    where
      by : Dec (length u ≡ 0) → Stands 0 (start_of u)
      by (yes e) =
          in_period (omega arith)
          ((λ i. record { phase = cond (eq-eqb (length u) 0 e i) Period Prefix; at = 0 })
          ∙ ap {B = Cursor} (λ (k : ℕ). record { phase = Period; at = k }) (sym (ap (λ (k : ℕ). k % length v) (omega arith) ∙ zero-mod (length v))))
      by (no e) = in_prefix (omega arith) (λ i. record { phase = cond (ne_eqb (length u) 0 e i) Period Prefix; at = 0 })

  -- the place in the period after one more step
  wraps : (k : ℕ) → suc k % length v ≡ suc (k % length v) % length v
  wraps k = suc-mod k (length v)

  goes : (m : ℕ) (c : Cursor) → Stands m c → Stands (suc m) (next_of c u v)
  goes m c (in_prefix h e) = by (dec_lt (m + 1) (length u))
    where
      here : next_of c u v ≡ next_in (record { phase = Prefix; at = m }) u
      here = ap (λ (d : Cursor). next_of d u v) e

      by : Dec (m + 1 < length u) → Stands (suc m) (next_of c u v)
      by (yes l) =
          in_prefix (omega arith) (here ∙ (next-on (record { phase = Prefix; at = m }) u l ∙ ap {B = Cursor} (λ (k : ℕ). record { phase = Prefix; at = k }) (add-one m)))
      by (no l) =
          in_period (omega arith)
          (here
          ∙ (next-over (record { phase = Prefix; at = m }) u (omega arith)
          ∙ ap {B = Cursor} (λ (k : ℕ). record { phase = Period; at = k }) (sym (ap (λ (k : ℕ). k % length v) (omega arith) ∙ zero-mod (length v)))))
  goes m c (in_period h e) = by (dec_lt (k + 1) (length v))
    where
      k : ℕ
      k = (m - length u) % length v

      here : next_of c u v ≡ next_in (record { phase = Period; at = k }) v
      here = ap (λ (d : Cursor). next_of d u v) e

      wrapped : (suc m - length u) % length v ≡ suc k % length v
      wrapped = ap (λ (x : ℕ). x % length v) (omega arith) ∙ wraps (m - length u)

      low : k < length v
      low = mod-lt (m - length u) some

      by : Dec (k + 1 < length v) → Stands (suc m) (next_of c u v)
      by (yes l) =
          let l' : suc k < length v = omega arith in
          in_period (omega arith)
          (here ∙ (next-on (record { phase = Period; at = k }) v l ∙ ap {B = Cursor} (λ (x : ℕ). record { phase = Period; at = x }) (add-one k ∙ sym (wrapped ∙ mod-eq_of_lt l'))))
      by (no l) =
          let e' : suc k ≡ length v = omega (arith, low) in
          in_period (omega arith)
          (here
          ∙ (next-over (record { phase = Period; at = k }) v (omega arith)
          ∙ ap {B = Cursor} (λ (x : ℕ). record { phase = Period; at = x }) (sym (wrapped ∙ (ap (λ (x : ℕ). x % length v) e' ∙ mod_self (length v))))))

  stands : (m : ℕ) → Stands m (cursor_after u v m)
  unfolding cursor_after
  stands zero = at-start
  stands (suc m) = goes m (cursor_after u v m) (stands m)

  full : length v ≡ 0 → ⊥
  full e = omega arith

  passes : (m : ℕ) (c : Cursor) → Stands m c → stepped c u v ≡ record { letter = Ok (letter_at u v m); cursor = next_of c u v }
  passes m c (in_prefix h e) =
      ap (λ (d : Cursor). stepped d u v) e
      ∙ (sym (step-passes p u v full Prefix refl) ∙ (sym (inside p u h) ∙ ap₂ {C = Step} (λ (x : ℕ) (d : Cursor). record { letter = Ok x; cursor = d }) (sym (prefix-letter u v m h)) (ap (λ (d : Cursor). next_of d u v) (sym e))))
    where
      p : Cursor
      p = record { phase = Prefix; at = m }
  passes m c (in_period h e) =
      ap (λ (d : Cursor). stepped d u v) e
      ∙ (sym (step-passes p u v full Period refl)
      ∙ (sym (inside p v (mod-lt (m - length u) some)) ∙ ap₂ {C = Step} (λ (x : ℕ) (d : Cursor). record { letter = Ok x; cursor = d }) (sym (period-letter u v (m - length u) some) ∙ ap (letter_at u v) whole) (ap (λ (d : Cursor). next_of d u v) (sym e))))
    where
      p : Cursor
      p = record { phase = Period; at = (m - length u) % length v }

      whole : length u + (m - length u) ≡ m
      whole = omega arith

  -- the letter that step m passes is the run's letter m, and no step is refused
  pub runs : (m : ℕ) → stepped (cursor_after u v m) u v ≡ record { letter = Ok (letter_at u v m); cursor = cursor_after u v (suc m) }
  unfolding cursor_after
  runs m = passes m (cursor_after u v m) (stands m)
