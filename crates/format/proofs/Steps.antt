-- A byte and a cell, as the code reads them. Assumes nothing.
use Rattle.slices.specs.declared.Reason.TheVariants.{OffLayout}
use Rattle.std.specs.Prelude.{Result, Ok, Err}
use mathlib.Core.Path.{◌≡◌, refl, ap, ◌∙◌}
use mathlib.Core.Bool.{Bool, true, false, cond}
use mathlib.Core.List.{List, [], ◌∷◌}
use Prim.Native.Nat.{ℕ, ◌+◌, ◌≤◌, ◌<◌}
use lib.ListN.{length, get_or}
use borrow.Author.Tests.{lt-ltb, le-ltb, eq-eqb, ne_eqb}
use Rattle.slices.specs.declared.Part.{Part}
use Rattle.slices.specs.declared.Refusal.{Refusal}
use Rattle.slices.proofs.Refusals.{never-given, given-was, mapped-given, mapped-refused}
use Rattle.slices.specs.Refusals.{mapped}
use Rattle.slices.specs.Scans.{outside}
use Rattle.numbers.specs.declared.Number.{Number}
use Rattle.numbers.specs.Numerals.{number_at_value}
use Rattle.format.specs.declared.Column.{Column}
use Rattle.format.specs.Format.{Found, done, byte, after, refused_at, stands, judged, reading}
use Rattle.format.specs.Rows.{choice, cell}
use Rattle.format.specs.Steps.{placed, cell_says, peeked}

pub placed-refused : (x : Result Found Refusal) {r : Refusal} → placed x ≡ Err r → x ≡ Err r
placed-refused x e = mapped-refused (λ (w : Found). w.next) x e

-- a place was given, so something was found
pub placed-given : (x : Result Found Refusal) {e : ℕ} → placed x ≡ Ok e → (g : Found) × (x ≡ Ok g) × (g.next ≡ e)
placed-given x d = mapped-given (λ (w : Found). w.next) x d

module _ (part : Part) (t : List ℕ) (c at : ℕ) where
  pub byte_past : length t ≤ at → reading part t (byte c done) at ≡ refused_at OffLayout part at
  unfolding reading
  byte_past h = rw (le-ltb at (length t) h)

  pub byte-here : at < length t → get_or t at 0 ≡ c → reading part t (byte c done) at ≡ Ok (record { values = []; next = at + 1 })
  unfolding reading
  byte-here h e = rw (lt-ltb at (length t) h, eq-eqb (get_or t at 0) c e)

  pub byte-other : at < length t → (get_or t at 0 ≡ c → ⊥) → reading part t (byte c done) at ≡ refused_at OffLayout part at
  unfolding reading
  byte-other h e = rw (lt-ltb at (length t) h, ne_eqb (get_or t at 0) c e)

  -- a byte that was read has no number
  pub byte-placed : {e : ℕ} → placed (reading part t (byte c done) at) ≡ Ok e → reading part t (byte c done) at ≡ Ok (record { values = []; next = e })
  unfolding reading
  byte-placed {e} d = by (stands t c at) d
    where
      by : (b : Bool) → placed (cond {A = Result Found Refusal} b (Ok (record { values = []; next = at + 1 })) (refused_at OffLayout part at)) ≡ Ok e
          → cond {A = Result Found Refusal} b (Ok (record { values = []; next = at + 1 })) (refused_at OffLayout part at) ≡ Ok (record { values = []; next = e })
      by true k = ap (λ (n : ℕ). Ok (record { values = []; next = n })) (given-was k)
      by false k = absurd (never-given k)

-- the byte that ends a number
pub byte-closed : (part : Part) (t : List ℕ) (c v at : ℕ) → cell_says (mapped (λ (n : ℕ). record { value = v; next = n }) (placed (reading part t (byte c done) at))) ≡ after (v ∷ []) (reading part t (byte c done) at)
unfolding reading
byte-closed part t c v at = by (stands t c at)
  where
    by : (b : Bool) → cell_says (mapped (λ (n : ℕ). record { value = v; next = n }) (placed (cond {A = Result Found Refusal} b (Ok (record { values = []; next = at + 1 })) (refused_at OffLayout part at))))
        ≡ after (v ∷ []) (cond {A = Result Found Refusal} b (Ok (record { values = []; next = at + 1 })) (refused_at OffLayout part at))
    by true = refl
    by false = refl

module _ (part : Part) (t : List ℕ) (c : Column) (end at : ℕ) where
  pub cell-refused : {r : Refusal} → number_at_value part t at ≡ Err r → reading part t (cell c end) at ≡ Err r
  unfolding reading
  cell-refused e = ap (λ (x : Result Number Refusal). judged part t (λ n. c) end at x (λ v next. after (v ∷ []) (Ok (record { values = []; next = next })))) e

  cell-good : {v n : ℕ} → number_at_value part t at ≡ Ok (record { value = v; next = n })
      → reading part t (cell c end) at ≡ cond (outside c.low c.limit v) (refused_at c.reason part at) (cond (stands t end n) (Ok (record { values = v ∷ []; next = n + 1 })) (refused_at OffLayout part n))
  unfolding reading
  cell-good e = ap (λ (x : Result Number Refusal). judged part t (λ n. c) end at x (λ v next. after (v ∷ []) (Ok (record { values = []; next = next })))) e

  pub cell-outside : {v n : ℕ} → number_at_value part t at ≡ Ok (record { value = v; next = n }) → outside c.low c.limit v ≡ true → reading part t (cell c end) at ≡ refused_at c.reason part at
  cell-outside {v} {n} e o = cell-good e ∙ ap (λ (b : Bool). cond b (refused_at c.reason part at) (cond (stands t end n) (Ok (record { values = v ∷ []; next = n + 1 })) (refused_at OffLayout part n))) o

  pub cell-inside : {v n : ℕ} → number_at_value part t at ≡ Ok (record { value = v; next = n }) → outside c.low c.limit v ≡ false → reading part t (cell c end) at ≡ after (v ∷ []) (reading part t (byte end done) n)
  unfolding reading
  cell-inside {v} {n} e o =
      cell-good e
      ∙ (ap (λ (b : Bool). cond b (refused_at c.reason part at) (cond (stands t end n) (Ok (record { values = v ∷ []; next = n + 1 })) (refused_at OffLayout part n))) o ∙ by (stands t end n))
    where
      by : (b : Bool) → cond b (Ok (record { values = v ∷ []; next = n + 1 })) (refused_at OffLayout part n) ≡ after (v ∷ []) (cond b (Ok (record { values = []; next = n + 1 })) (refused_at OffLayout part n))
      by true = refl
      by false = refl

-- the column that a number chooses is the one chosen by peeking at it
pub choice-peeked : (part : Part) (t : List ℕ) (c : ℕ → Column) (end at : ℕ) → reading part t (choice c end) at ≡ reading part t (cell (c (peeked (number_at_value part t at))) end) at
unfolding reading
choice-peeked part t c end at = by (number_at_value part t at)
  where
    go : ℕ → ℕ → Result Found Refusal
    go v next = after (v ∷ []) (Ok (record { values = []; next = next }))

    by : (x : Result Number Refusal) → judged part t c end at x go ≡ judged part t (λ v. c (peeked x)) end at x go
    by (Ok n) = refl
    by (Err r) = refl
