-- Numbers of 16 bits and their bytes: each is had back from the other, and both are filled in by a loop. Assumes nothing.
use mathlib.Core.Path.{◌≡◌, ap, ap₂, sym, subst, ◌∙◌}
use mathlib.Core.List.{List, [], ◌∷◌, ◌++◌, append_assoc}
use Prim.Native.Nat.{ℕ, ◌+◌, ◌-◌, ◌*◌, ◌/◌, ◌%◌, ◌≤◌, ◌<◌}
use native.Mathlib.Omega.{arith}
use native.Mathlib.Nat.{add-zero}
use lib.ListN.{length, get_or, set, drop, length-append, length-drop}
use lib.Seq.{get_or-drop, drop-append_seam, drop-drop}
use Rattle.slices.specs.Filling.{written}
use Rattle.slices.specs.Tables.{tab, rows}
use Rattle.slices.specs.Halves.{halves_of, half_bytes_of}
use Rattle.slices.proofs.Tables.{length-tab, get_or-first, get_or-tab, tab-get_or, tab-same, rows_same, length-rows, sum-even, get_or-table, table-tab}
use Rattle.slices.proofs.Filling.{Begun, begun-as, begun-cell, rows-begin, rows_next, Filling, filling-none, filling-more, filling-all}

-- the number i of some bytes, and the two bytes of the number i
abbrev pub half_at : List ℕ → ℕ → ℕ
half_at b i = get_or b (i * 2) 0 + get_or b (i * 2 + 1) 0 * 256

abbrev pub bytes_at : List ℕ → ℕ → List ℕ
bytes_at w i = get_or w i 0 % 256 ∷ get_or w i 0 / 256 ∷ []

length_pairs : (w : List ℕ) (i : ℕ) → length (rows i (bytes_at w)) ≡ i * 2
length_pairs w i = length-rows i (bytes_at w) ∙ sum-even i 2

pub length-half_bytes_of : (w : List ℕ) → length (half_bytes_of w) ≡ length w * 2
unfolding half_bytes_of
length-half_bytes_of w = length_pairs w (length w)

pub length-halves_of : (b : List ℕ) → length (halves_of b) ≡ length b / 2
unfolding halves_of
length-halves_of b = length-tab (length b / 2) (half_at b)

pub get_or-halves_of : (b : List ℕ) (i : ℕ) → i < length b / 2 → get_or (halves_of b) i 0 ≡ half_at b i
unfolding halves_of
get_or-halves_of b i h = get_or-tab (length b / 2) (half_at b) i h

-- byte a of number q
pub get_or-half_bytes_of : (w : List ℕ) (q a : ℕ) → q < length w → a < 2 → get_or (half_bytes_of w) (q * 2 + a) 0 ≡ get_or (bytes_at w q) a 0
unfolding half_bytes_of tab
get_or-half_bytes_of w q a h l = get_or-table (length w) 2 (λ q a. get_or (bytes_at w q) a 0) q a h l

-- the numbers of the bytes of some numbers
pub halves-bytes : (w : List ℕ) → halves_of (half_bytes_of w) ≡ w
unfolding halves_of
halves-bytes w =
    ap (λ (n : ℕ). tab n (half_at (half_bytes_of w))) count
    ∙ (tab-same (length w) (half_at (half_bytes_of w)) (λ i. get_or w i 0) same ∙ tab-get_or w)
  where
    count : length (half_bytes_of w) / 2 ≡ length w
    count = omega (arith, length-half_bytes_of w)

    same : (i : ℕ) → i < length w → half_at (half_bytes_of w) i ≡ get_or w i 0
    same i h =
        let low : get_or (half_bytes_of w) (i * 2) 0 ≡ get_or w i 0 % 256 = ap (λ (n : ℕ). get_or (half_bytes_of w) n 0) (sym (add-zero (i * 2))) ∙ get_or-half_bytes_of w i 0 h (omega arith) in
        let high : get_or (half_bytes_of w) (i * 2 + 1) 0 ≡ get_or w i 0 / 256 = get_or-half_bytes_of w i 1 h (omega arith) in
        omega arith

-- and the bytes of the numbers of some bytes, of which there is an even count
pub bytes_halves : (b : List ℕ) → length b % 2 ≡ 0 → ((i : ℕ) → i < length b → get_or b i 0 < 256) → half_bytes_of (halves_of b) ≡ b
unfolding half_bytes_of tab
bytes_halves b even small =
    ap (λ (n : ℕ). rows n (bytes_at (halves_of b))) (length-halves_of b)
    ∙ (rows_same (length b / 2) (bytes_at (halves_of b)) (λ q. tab 2 (λ a. get_or b (q * 2 + a) 0)) same
    ∙ (table-tab (length b / 2) 2 (λ i. get_or b i 0) ∙ (ap (λ (n : ℕ). tab n (λ i. get_or b i 0)) whole ∙ tab-get_or b)))
  where
    whole : length b / 2 * 2 ≡ length b
    whole = omega arith

    same : (q : ℕ) → q < length b / 2 → bytes_at (halves_of b) q ≡ tab 2 (λ a. get_or b (q * 2 + a) 0)
    same q h =
        let n : get_or (halves_of b) q 0 ≡ half_at b q = get_or-halves_of b q h in
        let l : get_or b (q * 2) 0 < 256 = small (q * 2) (omega arith) in
        let u : get_or b (q * 2 + 1) 0 < 256 = small (q * 2 + 1) (omega arith) in
        let low : get_or (halves_of b) q 0 % 256 ≡ get_or b (q * 2) 0 = omega arith in
        let high : get_or (halves_of b) q 0 / 256 ≡ get_or b (q * 2 + 1) 0 = omega arith in
        ap₂ (λ (x y : ℕ). x ∷ y ∷ []) (low ∙ ap (λ (n : ℕ). get_or b n 0) (sym (add-zero (q * 2)))) high

-- A slice to which the first i numbers of b are written; the bytes from there on are left.
pub record Paired (b old out : List ℕ) (i size : ℕ) (rest : List ℕ) : Type 0 where
  pub filling : Filling (length b / 2) (half_at b) old out i
  pub left : rest ≡ drop (i * 2) b
  pub two : size ≡ 2

pub paired-none : {b old : List ℕ} {i size : ℕ} {rest : List ℕ} → length b / 2 ≤ length old → i ≡ 0 → size ≡ 2 → rest ≡ b → Paired b old old i size rest
paired-none {b} {old} h z e d = record {
  filling = subst (Filling (length b / 2) (half_at b) old old) (sym z) (filling-none (length b / 2) (half_at b) old h);
  left = d ∙ ap (λ (k : ℕ). drop (k * 2) b) (sym z);
  two = e;
}

module _ {b old out : List ℕ} {i size : ℕ} {rest : List ℕ} (s : Paired b old out i size rest) where
  -- the next two bytes
  module _ (x after : List ℕ) (e : rest ≡ x ++ after) (n : length x ≡ size) where
    whole : length b - i * 2 ≡ 2 + length after
    whole = sym (length-drop (i * 2) b) ∙ (ap length (sym s.left ∙ e) ∙ omega (arith, length-append x after, s.two))

    pub pair-within : i < length b / 2
    pair-within = omega (arith, whole)

    byte : (k : ℕ) → k < 2 → get_or x k 0 ≡ get_or b (i * 2 + k) 0
    byte k h =
        sym (get_or-first x after k (omega (arith, h, n, s.two)))
        ∙ (ap (λ (l : List ℕ). get_or l k 0) (sym e ∙ s.left) ∙ get_or-drop (i * 2) b k 0)

    -- the number that they are
    pub paired-more : {v at j more : ℕ} → v ≡ get_or x 0 0 + get_or x 1 0 * 256 → at ≡ i → j ≡ i + 1 → more ≡ size → Paired b old (set out at v) j more after
    paired-more {v} {at} {j} {more} d a f g = record {
      filling =
          subst (λ (k : ℕ). Filling (length b / 2) (half_at b) old (set out k v) j) (sym a)
          (subst (Filling (length b / 2) (half_at b) old (set out i v)) (sym f)
          (filling-more v s.filling pair-within (d ∙ ap₂ (λ (l h : ℕ). l + h * 256) (byte 0 (omega arith) ∙ ap (λ (k : ℕ). get_or b k 0) (add-zero (i * 2))) (byte 1 (omega arith)))));
      left =
          sym (drop-append_seam x after)
          ∙ (ap (drop (length x)) (sym e ∙ s.left) ∙ (drop-drop (length x) (i * 2) b ∙ ap (λ (k : ℕ). drop k b) (omega (arith, n, s.two, f))));
      two = g ∙ s.two;
    }

  pub paired-all : length rest < size → out ≡ written (halves_of b) old
  unfolding halves_of
  paired-all h = filling-all s.filling (omega (arith, h, s.two, length-drop (i * 2) b, ap length s.left))

-- A slice to which the bytes of the first i numbers of w are written.
pub record Halving (w old out : List ℕ) (i : ℕ) : Type 0 where
  pub room : length w * 2 ≤ length old
  pub upto : i ≤ length w
  pub begun : Begun (rows i (bytes_at w)) old out

pub halving-none : (w old : List ℕ) → length w * 2 ≤ length old → Halving w old old 0
halving-none w old h = record { room = h; upto = omega arith; begun = rows-begin (bytes_at w) old }

module _ {w old out : List ℕ} {i : ℕ} (s : Halving w old out i) where
  -- both bytes of one number more
  pub halving-more : (x low high : ℕ) → i < length w → x ≡ get_or w i 0 → low ≡ x % 256 → high ≡ x / 256 → Halving w old (set (set out (i * 2) low) (i * 2 + 1) high) (i + 1)
  halving-more x low high h d e f = record {
    room = s.room;
    upto = omega arith;
    begun =
        begun-as
        (append_assoc (rows i (bytes_at w)) (low ∷ []) (high ∷ [])
        ∙ (ap₂ (λ (a b : ℕ). rows i (bytes_at w) ++ (a ∷ b ∷ [])) (e ∙ ap (λ (n : ℕ). n % 256) d) (f ∙ ap (λ (n : ℕ). n / 256) d) ∙ rows_next (bytes_at w) i))
        (begun-cell high (begun-cell low s.begun (length_pairs w i) (omega (arith, s.room))) after (omega (arith, s.room)));
  }
    where
      after : length (rows i (bytes_at w) ++ (low ∷ [])) ≡ i * 2 + 1
      after = omega (arith, length-append (rows i (bytes_at w)) (low ∷ []), length_pairs w i)

  pub halving-all : length w ≤ i → out ≡ written (half_bytes_of w) old
  unfolding half_bytes_of
  halving-all h = let e : i ≡ length w = omega (arith, s.upto) in s.begun.cells ∙ ap (λ (k : ℕ). written (rows k (bytes_at w)) old) e
