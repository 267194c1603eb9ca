-- Two formats, of which the first refuses for a reason k some of what the second takes: read from one place, the second never refuses
-- for k, and the first says the same as it or refuses for k. Assumes nothing.
use Rattle.slices.specs.declared.Reason.{Reason}
use Rattle.slices.specs.declared.Reason.TheVariants.{OffLayout}
use Rattle.std.specs.Prelude.{Result, Ok, Err}
use mathlib.Core.Path.{◌≡◌, refl, ap, sym, subst, ◌∙◌}
use mathlib.Core.Bool.{Bool, true, false, cond}
use mathlib.Core.List.{List, [], ◌∷◌}
use Prim.Native.Nat.{ℕ, zero, suc, ◌+◌, ◌<◌}
use native.Mathlib.Omega.{arith}
use native.Mathlib.Decide.{dec_lt}
use lib.Dec.{eqb, leb}
use lib.ListN.{length, get_or}
use Rattle.slices.specs.declared.Part.{Part}
use Rattle.slices.specs.declared.Refusal.{Refusal}
use Rattle.slices.proofs.Refusals.{never-given, refused-was}
use Rattle.slices.specs.Extremes.{least}
use Rattle.slices.proofs.Extremes.{least-passes, least-bound, least-before, least-is, least-none}
use Rattle.slices.specs.Scans.{outside}
use Rattle.numbers.specs.declared.Number.{Number}
use Rattle.numbers.specs.Numerals.{run_of, value_of, malformed, misread, number_at_value}
use Rattle.numbers.proofs.Canonical.{number-was}
use Rattle.format.specs.declared.Column.{Column}
use Rattle.format.specs.Format.{Format, Found, done, byte, after, refused_at, stands, judged, reading, seq, chained, literal}
use Rattle.format.specs.Rows.{choice}
use Rattle.format.specs.Lines.{labelled, stops, repeats, repeated, closing}
use Rattle.format.proofs.Results.{chain}
use Rattle.format.proofs.Sequences.{onward, reading-seq}
use Rattle.format.proofs.Chained.{each-chained}

-- It is not refused for k.
abbrev pub Never : {A : Type 0} → Reason → Result A Refusal → Type 0
Never k (Ok a) = Unit {0}
Never k (Err r) = r.reason ≡ k → ⊥

-- The second never refuses for k, and the first says the same or refuses for k.
pub data Staged {A : Type 0} (k : Reason) : Result A Refusal → Result A Refusal → Type 0 where
  takes : (a : A) → Staged k (Ok a) (Ok a)
  refuses : (r : Refusal) → (r.reason ≡ k → ⊥) → Staged k (Err r) (Err r)
  only : (r : Refusal) (y : Result A Refusal) → r.reason ≡ k → Never k y → Staged k (Err r) y

module _ {A : Type 0} {k : Reason} where
  never : {x y : Result A Refusal} → Staged k x y → Never k y
  never (takes a) = tt
  never (refuses r n) = n
  never (only r y e n) = n

  pub second-never : {x y : Result A Refusal} {r : Refusal} → Staged k x y → y ≡ Err r → r.reason ≡ k → ⊥
  second-never s e = subst (Never k) e (never s)

  -- what the first finds, the second finds
  pub both_found : {x y : Result A Refusal} {a : A} → Staged k x y → x ≡ Ok a → y ≡ Ok a
  both_found (takes b) e = e
  both_found (refuses r n) e = absurd (never-given e)
  both_found (only r y d n) e = absurd (never-given e)

  -- where the second finds something, the first refuses for k only
  pub first-only : {x y : Result A Refusal} {a : A} {r : Refusal} → Staged k x y → y ≡ Ok a → x ≡ Err r → r.reason ≡ k
  first-only (takes b) d e = absurd (never-given (sym e))
  first-only (refuses s n) d e = absurd (never-given d)
  first-only (only s y q n) d e = ap (λ (x : Refusal). x.reason) (sym (refused-was e)) ∙ q

  -- a test of both that refuses for another reason
  pub tested : (b : Bool) {x y : Result A Refusal} (r : Refusal) → (r.reason ≡ k → ⊥) → Staged k x y → Staged k (cond b x (Err r)) (cond b y (Err r))
  tested true r n s = s
  tested false r n s = refuses r n

-- what goes on where something was found, and passes a refusal on
pub staged-then : {A B : Type 0} {k : Reason} (f g : Result A Refusal → Result B Refusal) → ((r : Refusal) → f (Err r) ≡ Err r) → ((r : Refusal) → g (Err r) ≡ Err r) → ((a : A) → Staged k (f (Ok a)) (g (Ok a)))
    → {x y : Result A Refusal} → Staged k x y → Staged k (f x) (g y)
staged-then f g p q h (takes a) = h a
staged-then {k = k} f g p q h (refuses r n) = subst (λ z. Staged k z (g (Err r))) (sym (p r)) (subst (Staged k (Err r)) (sym (q r)) (refuses r n))
staged-then {k = k} f g p q h (only r y e n) = subst (λ z. Staged k z (g y)) (sym (p r)) (only r (g y) e (still y n))
  where
    still : (y : Result _ Refusal) → Never k y → Never k (g y)
    still (Ok a) m = never (h a)
    still (Err s) m = subst (Never k) (sym (q s)) m

-- From each place of each text.
pub record Narrower (k : Reason) (f g : Format) : Type 0 where
  pub staged : (part : Part) (t : List ℕ) (at : ℕ) → Staged k (reading part t f at) (reading part t g at)

pub narrower-seq : {k : Reason} {f g : Format} {h l : List ℕ → Format} → Narrower k f g → ((vs : List ℕ) → Narrower k (h vs) (l vs)) → Narrower k (seq f h) (seq g l)
narrower-seq {k} {f} {g} {h} {l} a b = record {
  staged = λ part t at.
      subst (λ z. Staged k z (reading part t (seq g l) at)) (sym (reading-seq part t f h at))
      (subst (Staged k (chain (reading part t f at) (onward part t h))) (sym (reading-seq part t g l at))
      (staged-then (λ x. chain x (onward part t h)) (λ x. chain x (onward part t l)) (λ r. refl) (λ r. refl)
      (λ w. staged-then (after w.values) (after w.values) (λ r. refl) (λ r. refl) (λ v. takes _) ((b w.values).staged part t w.next)) (a.staged part t at)));
}

pub narrower-chained : {k : Reason} (m : ℕ) {f g : ℕ → List ℕ → Format} → ((i : ℕ) (vs : List ℕ) → Narrower k (f i vs) (g i vs)) → Narrower k (chained m f) (chained m g)
unfolding chained reading
narrower-chained zero w = record { staged = λ part t at. takes _ }
narrower-chained (suc m) w = narrower-seq (narrower-chained m w) (w m)

-- How two columns judge a number: both take it, both refuse it for one reason that is not k, or only the first refuses it, for k.
pub data Looser (k : Reason) (c d : Column) (v : ℕ) : Type 0 where
  taken : outside c.low c.limit v ≡ false → outside d.low d.limit v ≡ false → Looser k c d v
  denied : outside c.low c.limit v ≡ true → outside d.low d.limit v ≡ true → c.reason ≡ d.reason → (d.reason ≡ k → ⊥) → Looser k c d v
  beyond : outside c.low c.limit v ≡ true → outside d.low d.limit v ≡ false → c.reason ≡ k → Looser k c d v

-- one column that does not refuse for k
pub looser-same : {k : Reason} (c : Column) (v : ℕ) → (c.reason ≡ k → ⊥) → Looser k c c v
looser-same {k} c v n = by (outside c.low c.limit v) refl
  where
    by : (b : Bool) → outside c.low c.limit v ≡ b → Looser k c c v
    by true e = denied e e refl n
    by false e = taken e e

-- a number that is badly formed is off the layout
abbrev reason_of : Result Number Refusal → Reason
reason_of (Ok n) = OffLayout
reason_of (Err r) = r.reason

malformed-number : (part : Part) (t : List ℕ) (at : ℕ) → reason_of (number_at_value part t at) ≡ OffLayout
unfolding number_at_value
malformed-number part t at = by (leb (length t) at) (malformed (run_of t at) (get_or t at 0))
  where
    by : (a b : Bool) → reason_of (cond a (misread part (length t)) (cond b (misread part at) (Ok (record { value = value_of t at (run_of t at); next = at + run_of t at })))) ≡ OffLayout
    by true b = refl
    by false true = refl
    by false false = refl

module _ {k : Reason} (other : OffLayout ≡ k → ⊥) where
  narrower-byte : (c : ℕ) → Narrower k (byte c done) (byte c done)
  unfolding reading
  narrower-byte c = record { staged = λ part t at. tested (stands t c at) _ other (takes _) }

  pub narrower-literal : (x : List ℕ) → Narrower k (literal x) (literal x)
  narrower-literal x = subst (λ f. Narrower k f f) (sym (each-chained (length x) (λ i. byte (get_or x i 0) done))) (narrower-chained (length x) (λ i vs. narrower-byte (get_or x i 0)))

  narrower-choice : {c d : ℕ → Column} (end : ℕ) → ((v : ℕ) → v < 1000 → Looser k (c v) (d v) v) → Narrower k (choice c end) (choice d end)
  unfolding reading
  narrower-choice {c} {d} end h = record { staged = λ part t at. by part t at (number_at_value part t at) refl }
    where
      go : ℕ → ℕ → Result Found Refusal
      go v next = Ok (record { values = v ∷ []; next = next })

      rest : Part → List ℕ → ℕ → ℕ → Result Found Refusal
      rest part t v n = cond (stands t end n) (go v (n + 1)) (refused_at OffLayout part n)

      verdict : (part : Part) (t : List ℕ) (at v n : ℕ) → Looser k (c v) (d v) v
          → Staged k (cond (outside (c v).low (c v).limit v) (refused_at (c v).reason part at) (rest part t v n)) (cond (outside (d v).low (d v).limit v) (refused_at (d v).reason part at) (rest part t v n))
      verdict part t at v n (taken a b) = rw (a, b) (tested (stands t end n) _ other (takes _))
      verdict part t at v n (denied a b e m) = rw (a, b, e) (refuses _ m)
      verdict part t at v n (beyond a b e) = rw (a, b) (only _ _ e (never (tested (stands t end n) _ other (takes _))))

      by : (part : Part) (t : List ℕ) (at : ℕ) (x : Result Number Refusal) → number_at_value part t at ≡ x → Staged k (judged part t c end at x go) (judged part t d end at x go)
      by part t at (Err r) e = refuses r (λ q. other (sym (malformed-number part t at) ∙ (ap reason_of e ∙ q)))
      by part t at (Ok m) e = verdict part t at m.value m.next (h m.value (number-was part t at m.value m.next e).small)

  pub narrower-labelled : (word : List ℕ) {c d : ℕ → Column} (end : ℕ) → ((v : ℕ) → v < 1000 → Looser k (c v) (d v) v) → Narrower k (labelled word c end) (labelled word d end)
  unfolding labelled
  narrower-labelled word end h = narrower-seq (narrower-literal word) (λ vs. narrower-choice end h)

  -- the end of a text
  pub staged-closing : {B : Type 0} (part : Part) (t : List ℕ) (reason : Reason) (f : List ℕ → B) → (reason ≡ k → ⊥) → {x y : Result Found Refusal} → Staged k x y → Staged k (closing part t reason f x) (closing part t reason f y)
  staged-closing part t reason f h s = staged-then (closing part t reason f) (closing part t reason f) (λ r. refl) (λ r. refl) (λ w. tested (eqb w.next (length t)) _ other (by (eqb (length w.values) 0) w)) s
    where
      by : (b : Bool) (w : Found) → Staged k (cond b (refused_at reason part (length t)) (Ok (f w.values))) (cond b (refused_at reason part (length t)) (Ok (f w.values)))
      by true w = refuses _ h
      by false w = takes _

-- repetition: where the first goes on, the second does; and where both say the same, both stop
module _ {k : Reason} (part : Part) (t : List ℕ) (c : ℕ) {f g : ℕ → Format} (at : ℕ) (n : (m : ℕ) → Narrower k (f m) (g m)) where
  goes-too : {x y : Result Found Refusal} → Staged k x y → (stops t c x ≡ true → ⊥) → stops t c y ≡ true → ⊥
  goes-too (takes a) h e = h e
  goes-too (refuses r m) h e = h refl
  goes-too (only r y d m) h e = h refl

  abbrev p : ℕ → Bool
  p m = stops t c (reading part t (f m) at)

  abbrev q : ℕ → Bool
  q m = stops t c (reading part t (g m) at)

  abbrev i : ℕ
  i = least (length t + 2) p

  before : (m : ℕ) → m < i → q m ≡ true → ⊥
  before m l e = goes-too ((n m).staged part t at) (least-before (length t + 2) p m l) e

  together : p i ≡ q i → least (length t + 2) q ≡ i
  together e = by (dec_lt i (length t + 2))
    where
      by : Dec (i < length t + 2) → least (length t + 2) q ≡ i
      by (yes l) = least-is (length t + 2) q i l before (sym e ∙ least-passes (length t + 2) p l)
      by (no l) =
          let z : i ≡ length t + 2 = omega (arith, least-bound (length t + 2) p) in
          least-none (length t + 2) q (λ m h. before m (omega arith)) ∙ sym z

  pub staged-repeated : Staged k (repeated part t c f at) (repeated part t c g at)
  unfolding repeated repeats
  staged-repeated = by ((n i).staged part t at) refl refl
    where
      j : ℕ
      j = least (length t + 2) q

      there : p i ≡ q i → Staged k (reading part t (f i) at) (reading part t (g j) at)
      there e = subst (λ (m : ℕ). Staged k (reading part t (f i) at) (reading part t (g m) at)) (sym (together e)) ((n i).staged part t at)

      by : {x y : Result Found Refusal} → Staged k x y → reading part t (f i) at ≡ x → reading part t (g i) at ≡ y → Staged k (reading part t (f i) at) (reading part t (g j) at)
      by (takes a) d e = there (ap (stops t c) (d ∙ sym e))
      by (refuses r m) d e = there (ap (stops t c) (d ∙ sym e))
      by (only r y z m) d e = subst (λ x. Staged k x (reading part t (g j) at)) (sym d) (only r (reading part t (g j) at) z (never ((n j).staged part t at)))
