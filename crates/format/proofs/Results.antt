-- What was read, and reading that goes on after it. Assumes nothing.
use Rattle.std.specs.Prelude.{Result, Ok, Err}
use Rattle.slices.specs.declared.Refusal.{Refusal}
use mathlib.Core.Path.{◌≡◌, refl, ap, sym}
use mathlib.Core.List.{List, [], ◌++◌, append_assoc}
use Prim.Native.Nat.{ℕ}
use Rattle.slices.proofs.Refusals.{never-given, given-was}
use Rattle.format.specs.Format.{Found, after}

-- Reading goes on where it found something.
abbrev pub chain : Result Found Refusal → (Found → Result Found Refusal) → Result Found Refusal
chain (Ok w) k = k w
chain (Err r) k = Err r

pub after_none : (r : Result Found Refusal) → r ≡ after [] r
after_none (Ok w) = refl
after_none (Err r) = refl

pub after-after : (d e : List ℕ) (r : Result Found Refusal) → after d (after e r) ≡ after (d ++ e) r
after-after d e (Ok w) = ap (λ (l : List ℕ). Ok (record { values = l; next = w.next })) (sym (append_assoc d e w.values))
after-after d e (Err r) = refl

-- what was found after something
pub after_was : (d : List ℕ) (r : Result Found Refusal) {w : Found} → after d r ≡ Ok w → (g : Found) × (r ≡ Ok g) × (w.values ≡ d ++ g.values) × (w.next ≡ g.next)
after_was d (Ok g) e = let s = sym (given-was e) in (g, refl, ap (λ (x : Found). x.values) s, ap (λ (x : Found). x.next) s)
after_was d (Err r) e = absurd (never-given e)
