-- Accepting states as the engine reads and prints them: what fits are states that rise, and their text is that of their lines. Assumes nothing.
use mathlib.Core.Path.{◌≡◌, refl, ap, sym, subst, ◌∙◌}
use mathlib.Core.Bool.{Bool, true, false, cond, ◌||◌, or-true, or-false, or_assoc}
use mathlib.Core.List.{List, [], ◌∷◌, ◌++◌}
use Prim.Native.Nat.{ℕ, zero, suc, ◌+◌, ◌-◌, ◌≤◌, ◌<◌}
use native.Mathlib.Omega.{arith}
use native.Mathlib.Decide.{ℕ_discrete}
use lib.Dec.{eqb}
use lib.ListN.{length, get_or, length-append}
use borrow.Author.Tests.{eq-eqb, ne_eqb}
use Rattle.slices.specs.Tables.{rows}
use Rattle.slices.proofs.Tables.{get_or-first, get_or-second, rows_same, below_suc, rows-until}
use Rattle.format.specs.Format.{Format, printed, Fits, chained}
use Rattle.format.proofs.Sequences.{fits-seq}
use Rattle.format.proofs.Led.{closed-was, closed-fits, closed-text}
use Rattle.format.proofs.Chained.{Begins, last_step, last-text}
use Rattle.buchi_import.specs.Text.{accepting_line}
use Rattle.buchi_import.specs.Reading.{rising, accepting_state, accepting_states, after_last, is_in}

-- k states, each above the one before and below a limit.
pub record Rising (limit k : ℕ) (vs : List ℕ) : Type 0 where
  pub long : length vs ≡ k
  pub below : (i : ℕ) → i < k → get_or vs i 0 < limit
  pub rises : (i : ℕ) → i + 1 < k → get_or vs i 0 < get_or vs (i + 1) 0

-- One of them: its number, and its text.
record Final (limit low : ℕ) (ws : List ℕ) : Type 0 where
  state : ℕ
  whole : ws ≡ state ∷ []
  above : low ≤ state
  inside : state < limit
  text : printed (accepting_state limit low) ws ≡ accepting_line state

module _ (limit low : ℕ) where
  final : (ws : List ℕ) → Fits (accepting_state limit low) ws → Final limit low ws
  unfolding accepting_state
  final ws h =
      let v = closed-was (91 ∷ []) (10 ∷ []) (rising low limit) 93 ws h in
      record {
        state = v.0;
        whole = v.1;
        above = v.2.low;
        inside = v.2.high;
        text = ap (printed (accepting_state limit low)) v.1 ∙ closed-text (91 ∷ []) (10 ∷ []) (rising low limit) 93 v.0 v.2;
      }

  final-fits : (v : ℕ) → low ≤ v → v < limit → limit ≤ 1000 → Fits (accepting_state limit low) (v ∷ [])
  unfolding accepting_state
  final-fits v h l small = closed-fits (91 ∷ []) (10 ∷ []) (rising low limit) 93 v (record { low = h; high = l; small = omega arith; ends = refl })

-- a state is among some and one more
in-more : (p : ℕ) (xs : List ℕ) (v : ℕ) → is_in p (xs ++ (v ∷ [])) ≡ is_in p xs || eqb v p
unfolding is_in
in-more p [] v = or-false (eqb v p)
in-more p (x ∷ xs) v = ap (λ (b : Bool). eqb x p || b) (in-more p xs v) ∙ sym (or_assoc (eqb x p) (is_in p xs) (eqb v p))

in-last : (xs : List ℕ) (v : ℕ) → is_in v (xs ++ (v ∷ [])) ≡ true
in-last xs v = in-more v xs v ∙ (ap (λ (b : Bool). is_in v xs || b) (eq-eqb v v refl) ∙ or-true (is_in v xs))

in-other : (p : ℕ) (xs : List ℕ) (v : ℕ) → (v ≡ p → ⊥) → is_in p (xs ++ (v ∷ [])) ≡ is_in p xs
in-other p xs v n = in-more p xs v ∙ (ap (λ (b : Bool). is_in p xs || b) (ne_eqb v p n) ∙ or-false (is_in p xs))

-- after a last state v the next is above it
last_entry : (left : List ℕ) (k v : ℕ) → length left ≡ k → get_or (left ++ (v ∷ [])) k 0 ≡ v
last_entry left k v long =
    let e : k ≡ k + 0 = omega arith in
    ap (λ (j : ℕ). get_or (left ++ (v ∷ [])) j 0) e ∙ get_or-second left (v ∷ []) k 0 long

after_more : (left : List ℕ) (k v : ℕ) → length left ≡ k → after_last (suc k) (left ++ (v ∷ [])) ≡ v + 1
after_more left k v long =
    let e : suc k - 1 ≡ k = omega arith in
    ap (λ (b : Bool). cond b 0 (get_or (left ++ (v ∷ [])) (suc k - 1) 0 + 1)) (ne_eqb (suc k) 0 (λ d. omega arith))
    ∙ (ap (λ (j : ℕ). get_or (left ++ (v ∷ [])) j 0 + 1) e ∙ ap (λ (x : ℕ). x + 1) (last_entry left k v long))

abbrev line_of : List ℕ → ℕ → List ℕ
line_of vs p = cond (is_in p vs) (accepting_line p) []

-- All of them: what is said of them, and that the smallest state that may come after them is above all.
record Finals (limit k : ℕ) (vs : List ℕ) : Type 0 where
  rise : Rising limit k vs
  under : (i : ℕ) → i < k → get_or vs i 0 < after_last k vs
  within : after_last k vs ≤ limit
  absent : (p : ℕ) → after_last k vs ≤ p → is_in p vs ≡ false
  text : (n : ℕ) → after_last k vs ≤ n → printed (accepting_states limit k) vs ≡ rows n (line_of vs)

abbrev steps : ℕ → ℕ → List ℕ → Format
steps limit i vs = accepting_state limit (after_last i vs)

module _ (limit k : ℕ) (left : List ℕ) (m : Finals limit k left) (ws : List ℕ) (w : Final limit (after_last k left) ws) where
  abbrev v : ℕ
  v = w.state

  abbrev all : List ℕ
  all = left ++ (v ∷ [])

  long : length left ≡ k
  long = m.rise.long

  next : after_last (suc k) all ≡ v + 1
  next = after_more left k v long

  last : get_or all k 0 ≡ v
  last = last_entry left k v long

  kept : (i : ℕ) → i < k → get_or all i 0 ≡ get_or left i 0
  kept i l = get_or-first left (v ∷ []) i (omega (arith, long))

  all-rises : (i : ℕ) → i + 1 < suc k → Dec (i + 1 ≡ k) → get_or all i 0 < get_or all (i + 1) 0
  all-rises i l (yes e) = omega (arith, kept i (omega arith), m.under i (omega arith), w.above, last, ap (λ (j : ℕ). get_or all j 0) e)
  all-rises i l (no e) = omega (arith, kept i (omega arith), kept (i + 1) (omega arith), m.rise.rises i (omega arith))

  all-absent : (p : ℕ) → v + 1 ≤ p → is_in p all ≡ false
  all-absent p h = in-other p left v (λ e. omega arith) ∙ m.absent p (omega (arith, w.above))

  all-text : (n : ℕ) → v + 1 ≤ n → printed (accepting_states limit k) left ++ accepting_line v ≡ rows n (line_of all)
  unfolding rows
  all-text n h =
      (λ i. (m.text v w.above ∙ rows_same v (line_of left) (line_of all) before) i ++ shown v (sym (in-last left v)) i)
      ∙ sym (rows-until (suc v) n (line_of all) (omega arith) (λ p g l. shown p (all-absent p (omega arith))))
    where
      shown : (p : ℕ) {x y : Bool} → x ≡ y → cond x (accepting_line p) [] ≡ cond y (accepting_line p) []
      shown p e = ap (λ (b : Bool). cond b (accepting_line p) []) e

      before : (p : ℕ) → p < v → line_of left p ≡ line_of all p
      before p l = shown p (sym (in-other p left v (λ e. omega arith)))

  all-finals : printed (accepting_states limit (suc k)) all ≡ printed (accepting_states limit k) left ++ accepting_line v → Finals limit (suc k) all
  all-finals e = record {
    rise = record {
      long = omega (arith, long, length-append left (v ∷ []));
      below = below_suc (λ i. get_or all i 0 < limit) (λ i l. rw (kept i l) (m.rise.below i l)) (rw last w.inside);
      rises = λ i l. all-rises i l (ℕ_discrete (i + 1) k);
    };
    under = rw next (below_suc (λ i. get_or all i 0 < v + 1) (λ i l. omega (arith, kept i l, m.under i l, w.above)) (omega (arith, last)));
    within = omega (arith, next, w.inside);
    absent = λ p h. all-absent p (omega (arith, next));
    text = λ n h. e ∙ all-text n (omega (arith, next));
  }

finals : (limit k : ℕ) (vs : List ℕ) → Fits (accepting_states limit k) vs → Finals limit k vs
unfolding accepting_states chained Fits is_in printed rows
finals limit zero [] h = record {
  rise = record { long = refl; below = λ i l. absurd (omega arith); rises = λ i l. absurd (omega arith) };
  under = λ i l. absurd (omega arith);
  within = omega arith;
  absent = λ p l. refl;
  text = λ n l. sym (rows-until 0 n (line_of []) l (λ i g j. refl));
}
finals limit zero (v ∷ vs) h = absurd h
finals limit (suc k) vs h =
    let s = last_step (steps limit) k vs h in
    let w = final limit (after_last k s.left) s.right s.second in
    let whole : vs ≡ s.left ++ (w.state ∷ []) = s.whole ∙ ap (λ (l : List ℕ). s.left ++ l) w.whole in
    subst (Finals limit (suc k)) (sym whole)
    (all-finals limit k s.left (finals limit k s.left s.first) s.right w
    (ap (printed (accepting_states limit (suc k))) (sym whole) ∙ (last-text (steps limit) k vs s ∙ ap (λ (l : List ℕ). printed (accepting_states limit k) s.left ++ l) w.text)))

pub rising-was : (limit k : ℕ) (vs : List ℕ) → Fits (accepting_states limit k) vs → Rising limit k vs
rising-was limit k vs h = (finals limit k vs h).rise

pub accepting-begin : (limit : ℕ) → Begins 91 (λ i vs. accepting_state limit (after_last i vs))
accepting-begin limit i vs ws h = let w = final limit (after_last i vs) ws h in (_, w.text)

-- their text: a line for each state, up to any n that none of them reaches, that is among them
pub accepting-text : (limit k n : ℕ) (vs : List ℕ) → Fits (accepting_states limit k) vs → limit ≤ n
    → printed (accepting_states limit k) vs ≡ rows n (λ p. cond (is_in p vs) (accepting_line p) [])
accepting-text limit k n vs h l = let m = finals limit k vs h in m.text n (omega (arith, m.within))

-- the states below n that pass a test
unfoldable pub chosen : ℕ → (ℕ → Bool) → List ℕ
chosen zero f = []
chosen (suc n) f = cond (f n) (chosen n f ++ (n ∷ [])) (chosen n f)

-- they fit, and the next may be n
chosen-finals : (n limit : ℕ) (f : ℕ → Bool) → n ≤ limit → limit ≤ 1000
    → Fits (accepting_states limit (length (chosen n f))) (chosen n f) × (after_last (length (chosen n f)) (chosen n f) ≤ n)
unfolding chosen accepting_states chained Fits
chosen-finals zero limit f h small = (tt, omega arith)
chosen-finals (suc n) limit f h small = by (f n) (chosen-finals n limit f (omega arith) small)
  where
    c : List ℕ
    c = chosen n f

    with : Bool → List ℕ
    with b = cond b (c ++ (n ∷ [])) c

    by : (b : Bool) → Fits (accepting_states limit (length c)) c × (after_last (length c) c ≤ n)
        → Fits (accepting_states limit (length (with b))) (with b) × (after_last (length (with b)) (with b) ≤ suc n)
    by true ih =
        let e : length (c ++ (n ∷ [])) ≡ suc (length c) = omega (arith, length-append c (n ∷ [])) in
        let one = final-fits limit (after_last (length c) c) n ih.1 (omega arith) small in
        rw e (fits-seq (chained (length c) (steps limit)) (steps limit (length c)) c (n ∷ []) ih.0 one, omega (arith, after_more c (length c) n refl))
    by false ih = (ih.0, omega (arith, ih.1))

pub chosen-fit : (n limit : ℕ) (f : ℕ → Bool) → n ≤ limit → limit ≤ 1000 → Fits (accepting_states limit (length (chosen n f))) (chosen n f)
chosen-fit n limit f h small = (chosen-finals n limit f h small).0

-- of the states, n decides on itself alone
chosen-other : (n : ℕ) (f : ℕ → Bool) (p : ℕ) → (n ≡ p → ⊥) → is_in p (chosen (suc n) f) ≡ is_in p (chosen n f)
unfolding chosen
chosen-other n f p d = by (f n)
  where
    by : (b : Bool) → is_in p (cond b (chosen n f ++ (n ∷ [])) (chosen n f)) ≡ is_in p (chosen n f)
    by true = in-other p (chosen n f) n d
    by false = refl

chosen_none : (n : ℕ) (f : ℕ → Bool) (p : ℕ) → n ≤ p → is_in p (chosen n f) ≡ false
unfolding chosen is_in
chosen_none zero f p h = refl
chosen_none (suc n) f p h = chosen-other n f p (λ e. omega arith) ∙ chosen_none n f p (omega arith)

chosen_last : (n : ℕ) (f : ℕ → Bool) → is_in n (chosen (suc n) f) ≡ f n
unfolding chosen
chosen_last n f = by (f n)
  where
    by : (b : Bool) → is_in n (cond b (chosen n f ++ (n ∷ [])) (chosen n f)) ≡ b
    by true = in-last (chosen n f) n
    by false = chosen_none n f n (omega arith)

pub chosen-in : (n : ℕ) (f : ℕ → Bool) (p : ℕ) → p < n → is_in p (chosen n f) ≡ f p
chosen-in zero f p h = absurd (omega arith)
chosen-in (suc n) f p h = below_suc (λ x. is_in x (chosen (suc n) f) ≡ f x) (λ i l. chosen-other n f i (λ e. omega arith) ∙ chosen-in n f i l) (chosen_last n f) p h
