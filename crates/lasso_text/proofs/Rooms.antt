-- What was judged on empty slices, then the room, then what is filled. Assumes nothing.
use Rattle.slices.specs.declared.Reason.TheVariants.{TooLittleRoom}
use Rattle.std.specs.Prelude.{Result, Ok, Err}
use mathlib.Core.Path.{◌≡◌, ap, sym, subst, ◌∙◌}
use mathlib.Core.List.{List}
use Prim.Native.Nat.{ℕ, ◌≤◌, ◌<◌}
use native.Mathlib.Omega.{arith}
use lib.Dec.{ltb}
use lib.ListN.{length, take}
use borrow.Author.Tests.{lt-ltb, le-ltb}
use Rattle.slices.specs.declared.Part.TheVariants.{Opening, Loop}
use Rattle.slices.specs.declared.Refusal.{Refusal}
use Rattle.slices.specs.Refusals.{Fault, sound, fault, when, unless}
use Rattle.slices.specs.Filling.{filled}
use Rattle.slices.proofs.Refusals.{when-fails, when-passes, passed, failed, was-given, was-refused, mapped-given, mapped-refused}
use Rattle.slices.proofs.Filling.{filled-front}
use Rattle.fdfa.specs.Family.{Words}
use Rattle.numbers.proofs.Stores.{stored-written}
use Rattle.lasso_text.specs.declared.Lengths.{Lengths}
use Rattle.lasso_text.specs.Reading.{words_in, room_fault, read_fault, sizes_of, LassoRead}
use Rattle.lasso_text.specs.Steps.{measured, WordsRead}

pub unmeasured : (x : Result Words Refusal) {r : Refusal} → measured x ≡ Err r → x ≡ Err r
unmeasured x e = mapped-refused sizes_of x e

pub was-measured : (x : Result Words Refusal) {m n : ℕ} → measured x ≡ Ok (record { prefix = m; period = n }) → (w : Words) × (x ≡ Ok w) × (length w.prefix ≡ m) × (length w.period ≡ n)
was-measured x e = let g = mapped-given sizes_of x e in (g.0, g.1, ap (λ (z : Lengths). z.prefix) g.2, ap (λ (z : Lengths). z.period) g.2)

-- the tests, from what the code knows where it meets them
pub text-refused : {x : Result Words Refusal} {r : Refusal} (o p : ℕ) → x ≡ Err r → read_fault x o p ≡ fault r
text-refused o p e = ap (λ (y : Result Words Refusal). read_fault y o p) e

module _ {x : Result Words Refusal} (w : Words) (e : x ≡ Ok w) {m n : ℕ} (h : length w.prefix ≡ m) (k : length w.period ≡ n) (o p : ℕ) where
  whole : read_fault x o p ≡ room_fault w o p
  whole = ap (λ (y : Result Words Refusal). read_fault y o p) e

  pub short-opening : o < m → read_fault x o p ≡ fault (record { reason = TooLittleRoom; part = Opening; place = m })
  short-opening l =
      whole
      ∙ (failed _ (when-fails TooLittleRoom Opening (length w.prefix) (lt-ltb o (length w.prefix) (omega arith))) ∙ ap (λ (z : ℕ). fault (record { reason = TooLittleRoom; part = Opening; place = z })) h)

  module _ (l : m ≤ o) where
    past-opening : read_fault x o p ≡ when (ltb p (length w.period)) TooLittleRoom Loop (length w.period)
    past-opening = whole ∙ passed _ (when-passes TooLittleRoom Opening (length w.prefix) (le-ltb o (length w.prefix) (omega arith)))

    pub short-period : p < n → read_fault x o p ≡ fault (record { reason = TooLittleRoom; part = Loop; place = n })
    short-period q =
        past-opening
        ∙ (when-fails TooLittleRoom Loop (length w.period) (lt-ltb p (length w.period) (omega arith)) ∙ ap (λ (z : ℕ). fault (record { reason = TooLittleRoom; part = Loop; place = z })) k)

    pub enough : n ≤ p → read_fault x o p ≡ sound
    enough q = past-opening ∙ when-passes TooLittleRoom Loop (length w.period) (le-ltb p (length w.period) (omega arith))

-- a refusal changes nothing
pub lasso-refused : {x : Result Words Refusal} {o p o' p' : List ℕ} {r : Refusal} → read_fault x (length o) (length p) ≡ fault r → o' ≡ o → p' ≡ p → LassoRead x o p o' p' (Err r)
lasso-refused {x} {o} {p} e a b = record {
  says = ap (λ (f : Fault). unless f (sizes_of (words_in x))) (sym e);
  opening = a ∙ ap (λ (f : Fault). filled f (words_in x).prefix o) (sym e);
  period = b ∙ ap (λ (f : Fault). filled f (words_in x).period p) (sym e);
}

-- both words have room
pub lasso-filled : {x : Result Words Refusal} {o p a b o' p' : List ℕ} {r : Result Lengths Refusal} (w : Words) → x ≡ Ok w → length w.prefix ≤ length o → length w.period ≤ length p → read_fault x (length o) (length p) ≡ sound
    → a ≡ o → b ≡ p → WordsRead x a b o' p' r → LassoRead x o p o' p' r
lasso-filled {x} {o} {p} {a} {b} {o'} {p'} {r} w e h k f c d g = record {
  says = read.says ∙ (ap measured e ∙ (ap (λ (y : Result Words Refusal). Ok (sizes_of (words_in y))) (sym e) ∙ ap (λ (y : Fault). unless y (sizes_of (words_in x))) (sym f)));
  opening = stored-written (read.opening w e) h ∙ (λ i. filled (sym f i) (words_in (sym e i)).prefix o);
  period = stored-written (read.period w e) k ∙ (λ i. filled (sym f i) (words_in (sym e i)).period p);
}
  where
    read : WordsRead x o p o' p' r
    read = subst (λ (l : List ℕ). WordsRead x l p o' p' r) c (subst (λ (l : List ℕ). WordsRead x a l o' p' r) d g)

-- what the answer of the call says of the slices
module _ {x : Result Words Refusal} {o p o' p' : List ℕ} {r : Result Lengths Refusal} (d : LassoRead x o p o' p' r) where
  pub read-refused : {y : Refusal} → r ≡ Err y → read_fault x (length o) (length p) ≡ fault y
  read-refused e = was-refused (read_fault x (length o) (length p)) (sizes_of (words_in x)) (sym (e) ∙ d.says)

  pub read-filled : {m n : ℕ} → r ≡ Ok (record { prefix = m; period = n })
      → (read_fault x (length o) (length p) ≡ sound) × (m ≤ length o') × (n ≤ length p') × (take m o' ≡ (words_in x).prefix) × (take n p' ≡ (words_in x).period)
  read-filled {m} {n} e = (g.0, u.0, v.0, u.1, v.1)
    where
      g : (read_fault x (length o) (length p) ≡ sound) × (record { prefix = m; period = n } ≡ sizes_of (words_in x))
      g = was-given (read_fault x (length o) (length p)) (sizes_of (words_in x)) (sym (e) ∙ d.says)

      u : (m ≤ length o') × (take m o' ≡ (words_in x).prefix)
      u = filled-front (words_in x).prefix o g.0 (ap (λ (z : Lengths). z.prefix) g.1) d.opening

      v : (n ≤ length p') × (take n p' ≡ (words_in x).period)
      v = filled-front (words_in x).period p g.0 (ap (λ (z : Lengths). z.period) g.1) d.period
