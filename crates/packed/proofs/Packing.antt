-- Packing and decoding are inverse: a valid sheet is the packed form of its family, and the packed form of a family is a
-- valid sheet that says that family. Assumes nothing.
use mathlib.Core.Path.{◌≡◌, refl, ap, ap₂, sym, subst, ◌∙◌}
use mathlib.Core.Bool.{Bool, true, false}
use mathlib.Core.List.{List, [], ◌∷◌, ◌++◌}
use Prim.Native.Nat.{ℕ, zero, suc, ◌+◌, ◌*◌, ◌≤◌, ◌<◌}
use native.Mathlib.Omega.{arith}
use native.Mathlib.Nat.{mul-add, mul-one, add_assoc}
use lib.Arith.{digits_lt}
use lib.Dec.{eqb}
use lib.ListN.{length, get_or, take, drop, length-append, length-drop}
use lib.Seq.{take_at, get_or-take, get_or-drop, length-take-le, ext_get_or}
use Rattle.fdfa.specs.Family.{Fdfa, Agrees}
use Rattle.slices.specs.Tables.{tab, rows, sum, table}
use Rattle.packed.specs.Layout.{letter_count, state_count, size_of, progress_at_value, marks_at, sheet_length, decode, mark, front_bytes, part_bytes, pack, Packable, Valid}
use Rattle.packed.proofs.Bounds.{progress-first}
use Rattle.packed.proofs.Reading.{part_of}
use Rattle.packed.proofs.Soundness.{valid-packable}
use Rattle.slices.proofs.Tables.{length-tab, get_or-first, get_or-second, get_or-tab, tab-get_or, tab-same, rows_same, tab-append, rows-tab, sum_same, table-tab, length-rows, get_d_rows, length-table, get_or-table}

-- a mark says its byte
pub mark-byte : (x : ℕ) → x < 2 → mark (eqb x 1) ≡ x
mark-byte zero h = refl
mark-byte (suc zero) h = refl
mark-byte (suc (suc x)) h = absurd (omega arith)

pub mark-says : (t : Bool) → eqb (mark t) 1 ≡ t
mark-says true = refl
mark-says false = refl

mark-few : (t : Bool) → mark t < 2
mark-few true = omega arith
mark-few false = omega arith

-- the bytes of one leading state
pub part_length : (k s : ℕ) → k * s + k ≡ k * (s + 1)
part_length k s = omega (arith, mul-add k s 1, mul-one k)

module _ (b : List ℕ) (v : Valid b) where
  n : ℕ
  n = state_count b

  s : ℕ
  s = letter_count b

  byte : ℕ → ℕ
  byte i = get_or b i 0

  len : ℕ → ℕ
  len q = size_of b q * (s + 1)

  -- where the progress parts begin
  base : ℕ
  base = 2 + n + n * s

  -- the part of q
  whole_part : (q : ℕ) → q < n → table (size_of b q) s ((decode b).progress q) ++ tab (size_of b q) (λ p. mark ((decode b).accepting q p)) ≡ tab (len q) (λ i. byte (base + (sum q len + i)))
  unfolding n s byte len base progress_at_value
  whole_part q h =
      ap₂ (λ (x y : List ℕ). x ++ y)
      (table-tab (size_of b q) s (λ i. byte (progress_at_value b q + i)))
      (tab-same (size_of b q) _ (λ p. byte (progress_at_value b q + (size_of b q * s + p))) (λ p l. mark-byte _ (v.marks q p h l) ∙ ap byte (add_assoc (progress_at_value b q) (size_of b q * s) p)))
      ∙ (tab-append (size_of b q * s) (size_of b q) (λ i. byte (progress_at_value b q + i))
      ∙ (ap (λ (m : ℕ). tab m (λ i. byte (progress_at_value b q + i))) (part_length (size_of b q) s)
      ∙ tab-same (len q) _ _ (λ i l. ap byte (add_assoc base (sum q len) i))))

  two : letter_count b ∷ state_count b ∷ [] ≡ tab 2 byte
  unfolding tab byte
  two = refl

  pub pack-decode : pack (decode b) ≡ b
  unfolding n s byte len base progress_at_value
  pack-decode =
      ap₂ (λ (x y : List ℕ). x ++ y)
      (ap₂ (λ (x y : List ℕ). x ++ y) (ap (λ (x : List ℕ). x ++ tab n (size_of b)) two ∙ tab-append 2 n byte) (table-tab n s (λ i. byte (2 + n + i))) ∙ tab-append (2 + n) (n * s) byte)
      (rows_same n _ (λ q. tab (len q) (λ i. byte (base + (sum q len + i)))) whole_part ∙ rows-tab n len (λ i. byte (base + i)))
      ∙ (tab-append base (sum n len) byte ∙ (ap (λ (m : ℕ). tab m byte) (sym v.exact) ∙ tab-get_or b))

-- families that agree have one packed form
module _ (F G : Fdfa) (a : Agrees F G) where
  part_same : (q : ℕ) → q < F.states → part_bytes F q ≡ part_bytes G q
  part_same q h =
      ap₂ (λ (x y : List ℕ). x ++ y)
      (rows_same (F.size q) (λ p. tab F.letters (F.progress q p)) (λ p. tab F.letters (G.progress q p)) (λ p k. tab-same F.letters (F.progress q p) (G.progress q p) (λ b l. a.progresses q p b h k l))
      ∙ (λ i. table (a.sizes q h i) (a.letters i) (G.progress q)))
      (tab-same (F.size q) (λ p. mark (F.accepting q p)) (λ p. mark (G.accepting q p)) (λ p k. ap mark (a.marks q p h k)) ∙ ap (λ (k : ℕ). tab k (λ p. mark (G.accepting q p))) (a.sizes q h))

  pub pack-same : pack F ≡ pack G
  pack-same =
      ap₂ (λ (x y : List ℕ). x ++ y)
      (ap₂ (λ (x y : List ℕ). x ++ y)
      (ap₂ (λ (x y : List ℕ). x ++ y) (λ i. a.letters i ∷ a.states i ∷ []) (tab-same F.states F.size G.size a.sizes ∙ ap (λ (k : ℕ). tab k G.size) a.states))
      (rows_same F.states (λ q. tab F.letters (F.step q)) (λ q. tab F.letters (G.step q)) (λ q h. tab-same F.letters (F.step q) (G.step q) (λ b l. a.steps q b h l))
      ∙ (λ i. table (a.states i) (a.letters i) G.step)))
      (rows_same F.states (part_bytes F) (part_bytes G) part_same ∙ ap (λ (k : ℕ). rows k (part_bytes G)) a.states)

-- bytes of a list from a place on, as a table
slice-tab : (b : List ℕ) (a m : ℕ) → a + m ≤ length b → take m (drop a b) ≡ tab m (λ i. get_or b (a + i) 0)
slice-tab b a m h =
    ext_get_or 0 (take m (drop a b)) (tab m (λ i. get_or b (a + i) 0)) (long ∙ sym (length-tab m (λ i. get_or b (a + i) 0))) (λ i l. by i (omega (arith, long)))
  where
    long : length (take m (drop a b)) ≡ m
    long = length-take-le m (drop a b) (omega (arith, length-drop a b))

    by : (i : ℕ) → i < m → get_or (take m (drop a b)) i 0 ≡ get_or (tab m (λ i. get_or b (a + i) 0)) i 0
    by i l = get_or-take m (drop a b) i 0 l ∙ (get_or-drop a b i 0 ∙ sym (get_or-tab m (λ i. get_or b (a + i) 0) i l))

pub length_part : (F : Fdfa) (q : ℕ) → length (part_bytes F q) ≡ F.size q * (F.letters + 1)
length_part F q =
    length-append (table (F.size q) F.letters (F.progress q)) (tab (F.size q) (λ p. mark (F.accepting q p)))
    ∙ (ap₂ (λ (x y : ℕ). x + y) (length-table (F.size q) F.letters (F.progress q)) (length-tab (F.size q) _) ∙ part_length (F.size q) F.letters)

length-counts : (F : Fdfa) → length ((F.letters ∷ F.states ∷ []) ++ tab F.states F.size) ≡ 2 + F.states
length-counts F =
    length-append (F.letters ∷ F.states ∷ []) (tab F.states F.size) ∙ ap (λ (x : ℕ). 2 + x) (length-tab F.states F.size)

pub length_front : (F : Fdfa) → length (front_bytes F) ≡ 2 + F.states + F.states * F.letters
length_front F =
    length-append ((F.letters ∷ F.states ∷ []) ++ tab F.states F.size) (table F.states F.letters F.step)
    ∙ ap₂ (λ (x y : ℕ). x + y) (length-counts F) (length-table F.states F.letters F.step)

module _ (F : Fdfa) (P : Packable F) where
  bytes : List ℕ
  bytes = pack F

  -- the sizes, where they are read
  size-at : (q : ℕ) → q < F.states → size_of bytes q ≡ F.size q
  unfolding bytes
  size-at q h =
      get_or-first (front_bytes F) (rows F.states (part_bytes F)) (2 + q) (omega (arith, length_front F))
      ∙ (get_or-first ((F.letters ∷ F.states ∷ []) ++ tab F.states F.size) (table F.states F.letters F.step) (2 + q) (omega (arith, length-counts F))
      ∙ (get_or-second (F.letters ∷ F.states ∷ []) (tab F.states F.size) 2 q refl ∙ get_or-tab F.states F.size q h))

  -- the leading table
  lead-at : (q a : ℕ) → q < F.states → a < F.letters → (decode bytes).step q a ≡ F.step q a
  unfolding bytes
  lead-at q a h l =
      get_or-first (front_bytes F) (rows F.states (part_bytes F)) (2 + F.states + (q * F.letters + a)) (omega (arith, length_front F, digits_lt h l))
      ∙ (get_or-second ((F.letters ∷ F.states ∷ []) ++ tab F.states F.size) (table F.states F.letters F.step) (2 + F.states) (q * F.letters + a) (length-counts F) ∙ get_or-table F.states F.letters F.step q a h l)

  -- where the part of q begins, as it was written and as it is read
  part_at : (q : ℕ) → q ≤ F.states → progress_at_value bytes q ≡ 2 + F.states + F.states * F.letters + sum q (λ r. length (part_bytes F r))
  unfolding progress_at_value bytes
  part_at q h =
      ap (λ (x : ℕ). 2 + F.states + F.states * F.letters + x)
      (sum_same q (λ r. size_of bytes r * (F.letters + 1)) (λ r. length (part_bytes F r))
      (λ r l. ap (λ (k : ℕ). k * (F.letters + 1)) (size-at r (omega arith)) ∙ sym (length_part F r)))

  byte_at : (q i : ℕ) → q < F.states → i < length (part_bytes F q) → get_or bytes (progress_at_value bytes q + i) 0 ≡ get_or (part_bytes F q) i 0
  unfolding bytes
  byte_at q i h l =
      ap (λ (x : ℕ). get_or bytes (x + i) 0) (part_at q (omega arith))
      ∙ (ap (λ (x : ℕ). get_or bytes x 0) (add_assoc (2 + F.states + F.states * F.letters) (sum q (λ r. length (part_bytes F r))) i)
      ∙ (get_or-second (front_bytes F) (rows F.states (part_bytes F)) (2 + F.states + F.states * F.letters) (sum q (λ r. length (part_bytes F r)) + i) (length_front F)
      ∙ get_d_rows F.states (part_bytes F) q i h l))

  next-within : (q i : ℕ) → i < F.size q * F.letters → i < length (part_bytes F q)
  next-within q i h = omega (arith, length_part F q, part_length (F.size q) F.letters)

  progress-at : (q p a : ℕ) → q < F.states → p < F.size q → a < F.letters → (decode bytes).progress q p a ≡ F.progress q p a
  unfolding bytes
  progress-at q p a h i l =
      byte_at q (p * F.letters + a) h (next-within q (p * F.letters + a) (digits_lt i l))
      ∙ (get_or-first (table (F.size q) F.letters (F.progress q)) _ (p * F.letters + a) (rw (length-table (F.size q) F.letters (F.progress q)) (digits_lt i l))
      ∙ get_or-table (F.size q) F.letters (F.progress q) p a i l)

  mark-at : (q p : ℕ) → q < F.states → p < F.size q → get_or bytes (marks_at bytes q + p) 0 ≡ mark (F.accepting q p)
  unfolding bytes
  mark-at q p h i =
      ap (λ (k : ℕ). get_or bytes (progress_at_value bytes q + k * F.letters + p) 0) (size-at q h)
      ∙ (ap (λ (x : ℕ). get_or bytes x 0) (add_assoc (progress_at_value bytes q) (F.size q * F.letters) p)
      ∙ (byte_at q (F.size q * F.letters + p) h (omega (arith, length_part F q, part_length (F.size q) F.letters))
      ∙ (get_or-second (table (F.size q) F.letters (F.progress q)) _ (F.size q * F.letters) p (length-table (F.size q) F.letters (F.progress q))
      ∙ get_or-tab (F.size q) (λ r. mark (F.accepting q r)) p i)))

  -- the family is read back
  pub decode-pack : Agrees F (decode (pack F))
  unfolding bytes
  decode-pack = record {
    letters = refl;
    states = refl;
    steps = λ q a h l. sym (lead-at q a h l);
    sizes = λ q h. sym (size-at q h);
    progresses = λ q p a h i l. sym (progress-at q p a h i l);
    marks = λ q p h i. sym (ap (λ (x : ℕ). eqb x 1) (mark-at q p h i) ∙ mark-says (F.accepting q p));
  }

  pub pack-valid : Valid (pack F)
  unfolding bytes
  pack-valid = record {
    header = record {
      long = omega (arith, exact-length, length-append (front_bytes F) (rows F.states (part_bytes F)), (length_front F));
      some_letters = P.some_letters;
      few_letters = P.few_letters;
      some_states = P.complete.start;
      few_states = P.few_states;
      some_size = λ q h. rw (size-at q h) (P.complete.starts q h);
      few_size = λ q h. rw (size-at q h) (P.few_progress q h);
    };
    exact = exact-length;
    leads = λ q a h l. rw (lead-at q a h l) (P.complete.leads q a h l);
    progresses = λ q h p a i l. by q h p a (rw (size-at q h) at i) l;
    marks = λ q p h i. rw (mark-at q p h (rw (size-at q h) at i)) (mark-few (F.accepting q p));
  }
    where
      exact-length : length bytes ≡ sheet_length bytes
      exact-length =
          length-append (front_bytes F) (rows F.states (part_bytes F))
          ∙ (ap₂ (λ (x y : ℕ). x + y) (length_front F) (length-rows F.states (part_bytes F)) ∙ sym (part_at F.states (omega arith)))

      by : (q : ℕ) → q < F.states → (p a : ℕ) → p < F.size q → a < F.letters → (decode bytes).progress q p a < size_of bytes q
      by q h p a i l = rw (progress-at q p a h i l, size-at q h) (P.complete.progresses q h p a i l)

-- the valid sheets are exactly the packed forms
pub is-packed : (b : List ℕ) → Valid b → (F : Fdfa) × Packable F × (pack F ≡ b)
is-packed b v = (decode b, valid-packable b v, pack-decode b v)

pub packed-is : (b : List ℕ) (F : Fdfa) → Packable F → pack F ≡ b → Valid b
packed-is b F P e = subst Valid e (pack-valid F P)

-- what stands in a valid sheet before the parts, and in the part of q
module _ (b : List ℕ) (v : Valid b) where
  pub front_of_lem : take (progress_at_value b 0) b ≡ front_bytes (decode b)
  front_of_lem =
      ap (take (progress_at_value b 0)) (sym (pack-decode b v))
      ∙ take_at (front_bytes (decode b)) (rows (state_count b) (part_bytes (decode b))) (progress_at_value b 0) (length_front (decode b) ∙ sym (progress-first b))

  pub part-of-bytes : (q : ℕ) → q < state_count b → take (size_of b q * letter_count b + size_of b q) (drop (progress_at_value b q) b) ≡ part_bytes (decode b) q
  unfolding n s byte len base progress_at_value
  part-of-bytes q h =
      ap (λ (m : ℕ). take m (drop (progress_at_value b q) b)) (part_length (size_of b q) (letter_count b))
      ∙ (slice-tab b (progress_at_value b q) (size_of b q * (letter_count b + 1)) (omega (arith, (part_of b v q h).within, part_length (size_of b q) (letter_count b)))
      ∙ (tab-same (len b v q) _ _ (λ i l. ap (byte b v) (add_assoc (base b v) (sum q (len b v)) i)) ∙ sym (whole_part b v q h)))
