-- One format after another: reading, printing and fitting go piece by piece. Assumes nothing.
use Rattle.slices.specs.declared.Reason.TheVariants.{OffLayout}
use Rattle.std.specs.Prelude.{Result, Ok, Err}
use Rattle.slices.specs.declared.Refusal.{Refusal}
use mathlib.Core.Path.{◌≡◌, refl, ap, sym, ◌∙◌}
use mathlib.Core.Bool.{Bool, true, false, cond}
use mathlib.Core.List.{List, [], ◌∷◌, ◌++◌, append_assoc}
use Prim.Native.Nat.{ℕ, zero, suc, ◌+◌, ◌<◌}
use native.Mathlib.Omega.{arith}
use Rattle.slices.specs.declared.Part.{Part}
use Rattle.slices.specs.Scans.{outside}
use Rattle.slices.specs.Tables.{rows}
use Rattle.numbers.specs.declared.Number.{Number}
use Rattle.numbers.specs.Digits.{digits_of}
use Rattle.numbers.specs.Numerals.{number_at_value}
use Rattle.format.specs.Format.{Format, done, byte, num, Found, after, refused_at, stands, judged, reading, printed, Fits, seq, each}
use Rattle.format.proofs.Results.{chain, after_none, after-after}

module _ (part : Part) (t : List ℕ) where
  -- the numbers of the first, then the second by them
  abbrev pub onward : (List ℕ → Format) → Found → Result Found Refusal
  onward g w = after w.values (reading part t (g w.values) w.next)

  pub reading-seq : (f : Format) (g : List ℕ → Format) (at : ℕ) → reading part t (seq f g) at ≡ chain (reading part t f at) (onward g)
  unfolding reading seq
  reading-seq done g at = after_none (reading part t (g []) at)
  reading-seq (byte c f) g at = by (stands t c at) (reading-seq f g (at + 1))
    where
      by : (b : Bool) → reading part t (seq f g) (at + 1) ≡ chain (reading part t f (at + 1)) (onward g)
          → cond b (reading part t (seq f g) (at + 1)) (refused_at OffLayout part at) ≡ chain (cond b (reading part t f (at + 1)) (refused_at OffLayout part at)) (onward g)
      by true ih = ih
      by false ih = refl
  reading-seq (num c end f) g at = by (number_at_value part t at) (λ v n. reading-seq (f v) (λ vs. g (v ∷ vs)) n)
    where
      whole : ℕ → ℕ → Result Found Refusal
      whole v n = after (v ∷ []) (reading part t (seq (f v) (λ vs. g (v ∷ vs))) n)

      half : ℕ → ℕ → Result Found Refusal
      half v n = after (v ∷ []) (reading part t (f v) n)

      inner : (v : ℕ) (r : Result Found Refusal) → after (v ∷ []) (chain r (onward (λ vs. g (v ∷ vs)))) ≡ chain (after (v ∷ []) r) (onward g)
      inner v (Ok w) = after-after (v ∷ []) w.values (reading part t (g (v ∷ w.values)) w.next)
      inner v (Err r) = refl

      last : (a b : Bool) (v n : ℕ) → whole v (n + 1) ≡ chain (half v (n + 1)) (onward g)
          → cond a (refused_at (c v).reason part at) (cond b (whole v (n + 1)) (refused_at OffLayout part n)) ≡ chain (cond a (refused_at (c v).reason part at) (cond b (half v (n + 1)) (refused_at OffLayout part n))) (onward g)
      last true b v n h = refl
      last false true v n h = h
      last false false v n h = refl

      by : (x : Result Number Refusal) → ((v n : ℕ) → reading part t (seq (f v) (λ vs. g (v ∷ vs))) n ≡ chain (reading part t (f v) n) (onward (λ vs. g (v ∷ vs))))
          → judged part t c end at x whole ≡ chain (judged part t c end at x half) (onward g)
      by (Err r) ih = refl
      by (Ok m) ih = let v = m.value in let n = m.next in last (outside (c v).low (c v).limit v) (stands t end n) v n (ap (after (v ∷ [])) (ih v (n + 1)) ∙ inner v (reading part t (f v) (n + 1)))

-- the numbers of both fit
pub fits-seq : (f : Format) (g : List ℕ → Format) (vs ws : List ℕ) → Fits f vs → Fits (g vs) ws → Fits (seq f g) (vs ++ ws)
unfolding Fits seq
fits-seq done g [] ws a b = b
fits-seq done g (v ∷ vs) ws a b = absurd a
fits-seq (byte c f) g vs ws a b = fits-seq f g vs ws a b
fits-seq (num c end f) g [] ws a b = absurd a
fits-seq (num c end f) g (v ∷ vs) ws a b = (a.0, fits-seq (f v) (λ us. g (v ∷ us)) vs ws a.1 b)

pub printed-seq : (f : Format) (g : List ℕ → Format) (vs ws : List ℕ) → Fits f vs → printed (seq f g) (vs ++ ws) ≡ printed f vs ++ printed (g vs) ws
unfolding Fits seq printed
printed-seq done g [] ws a = refl
printed-seq done g (v ∷ vs) ws a = absurd a
printed-seq (byte c f) g vs ws a = ap (λ (l : List ℕ). c ∷ l) (printed-seq f g vs ws a)
printed-seq (num c end f) g [] ws a = absurd a
printed-seq (num c end f) g (v ∷ vs) ws a =
    ap (λ (l : List ℕ). digits_of v ++ (end ∷ l)) (printed-seq (f v) (λ us. g (v ∷ us)) vs ws a.1)
    ∙ sym (append_assoc (digits_of v) (end ∷ printed (f v) vs) (printed (g (v ∷ vs)) ws))

-- numbers that fit are those of the first, then those of the second
pub record Split (f : Format) (g : List ℕ → Format) (us : List ℕ) : Type 0 where
  pub left : List ℕ
  pub right : List ℕ
  pub whole : us ≡ left ++ right
  pub first : Fits f left
  pub second : Fits (g left) right

pub split : (f : Format) (g : List ℕ → Format) (us : List ℕ) → Fits (seq f g) us → Split f g us
unfolding Fits seq
split done g us a = record { left = []; right = us; whole = refl; first = tt; second = a }
split (byte c f) g us a = let s = split f g us a in record { left = s.left; right = s.right; whole = s.whole; first = s.first; second = s.second }
split (num c end f) g [] a = absurd a
split (num c end f) g (v ∷ us) a =
    let s = split (f v) (λ vs. g (v ∷ vs)) us a.1 in
    record { left = v ∷ s.left; right = s.right; whole = ap (λ (l : List ℕ). v ∷ l) s.whole; first = (a.0, s.first); second = s.second }

-- repetition: row by row
pub fits_each : (m : ℕ) (f : ℕ → Format) (v : ℕ → List ℕ) → ((i : ℕ) → i < m → Fits (f i) (v i)) → Fits (each m f) (rows m v)
unfolding each rows Fits
fits_each zero f v h = tt
fits_each (suc m) f v h = fits-seq (each m f) (λ vs. f m) (rows m v) (v m) (fits_each m f v (λ i l. h i (omega arith))) (h m (omega arith))

pub printed-each : (m : ℕ) (f : ℕ → Format) (v : ℕ → List ℕ) → ((i : ℕ) → i < m → Fits (f i) (v i)) → printed (each m f) (rows m v) ≡ rows m (λ i. printed (f i) (v i))
unfolding each rows printed
printed-each zero f v h = refl
printed-each (suc m) f v h =
    printed-seq (each m f) (λ vs. f m) (rows m v) (v m) (fits_each m f v (λ i l. h i (omega arith)))
    ∙ ap (λ (l : List ℕ). l ++ printed (f m) (v m)) (printed-each m f v (λ i l. h i (omega arith)))
