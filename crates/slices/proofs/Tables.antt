-- Tables of functions: their lengths, their entries, and how they join. Assumes nothing.
use mathlib.Core.Path.{◌≡◌, refl, ap, ap₂, sym, subst, ◌∙◌}
use mathlib.Core.List.{List, [], ◌∷◌, ◌++◌, append-nil, append_assoc}
use Prim.Native.Nat.{ℕ, zero, suc, ◌+◌, ◌*◌, ◌/◌, ◌%◌, ◌≤◌, ◌<◌}
use native.Mathlib.Omega.{arith}
use native.Mathlib.Decide.{ℕ_discrete}
use native.Mathlib.Nat.{zero-mul, suc-mul, add-suc, add-zero, add-mul, one-mul, mul-le-mul_right, div-add-mod', div-lt_iff_lt-mul, mod-lt}
use lib.ListN.{length, get_or, length-append, get_or-append}
use lib.Seq.{get_or-append-add, ext_get_or}
use Rattle.slices.specs.Tables.{tab, rows, sum, table}

pub length-tab : (m : ℕ) (f : ℕ → ℕ) → length (tab m f) ≡ m
unfolding tab
length-tab zero f = refl
length-tab (suc m) f = length-append (tab m f) (f m ∷ []) ∙ omega (arith, length-tab m f)

-- an entry of the first of two lists, and of the second
pub get_or-first : (xs ys : List ℕ) (i : ℕ) → i < length xs → get_or (xs ++ ys) i 0 ≡ get_or xs i 0
get_or-first xs ys i h = get_or-append xs ys 0 i h

pub get_or-second : (xs ys : List ℕ) (n i : ℕ) → length xs ≡ n → get_or (xs ++ ys) (n + i) 0 ≡ get_or ys i 0
get_or-second xs ys n i e = ap (λ (m : ℕ). get_or (xs ++ ys) (m + i) 0) (sym e) ∙ get_or-append-add xs ys i 0

pub get_or-tab : (m : ℕ) (f : ℕ → ℕ) (i : ℕ) → i < m → get_or (tab m f) i 0 ≡ f i
unfolding tab
get_or-tab zero f i h = absurd (omega arith)
get_or-tab (suc m) f i h = by (ℕ_discrete i m) (get_or-tab m f i)
  where
    by : Dec (i ≡ m) → (i < m → get_or (tab m f) i 0 ≡ f i) → get_or (tab m f ++ (f m ∷ [])) i 0 ≡ f i
    by (yes e) ih =
        let d : m + 0 ≡ i = omega arith in
        ap (λ (j : ℕ). get_or (tab m f ++ (f m ∷ [])) j 0) (sym d) ∙ (get_or-second (tab m f) (f m ∷ []) m 0 (length-tab m f) ∙ ap f (sym e))
    by (no e) ih = get_or-first (tab m f) (f m ∷ []) i (omega (arith, length-tab m f)) ∙ ih (omega arith)

-- a list is the table of its own entries
pub tab-get_or : (b : List ℕ) → tab (length b) (λ i. get_or b i 0) ≡ b
tab-get_or b = ext_get_or 0 (tab (length b) (λ i. get_or b i 0)) b (length-tab (length b) _) (λ i h. get_or-tab (length b) (λ i. get_or b i 0) i (omega (arith, length-tab (length b) (λ i. get_or b i 0))))

pub tab-same : (m : ℕ) (f g : ℕ → ℕ) → ((i : ℕ) → i < m → f i ≡ g i) → tab m f ≡ tab m g
unfolding tab
tab-same zero f g h = refl
tab-same (suc m) f g h = ap₂ (λ (l : List ℕ) (x : ℕ). l ++ (x ∷ [])) (tab-same m f g (λ i l. h i (omega arith))) (h m (omega arith))

pub rows_same : (m : ℕ) (f g : ℕ → List ℕ) → ((i : ℕ) → i < m → f i ≡ g i) → rows m f ≡ rows m g
unfolding rows
rows_same zero f g h = refl
rows_same (suc m) f g h = ap₂ (λ (l x : List ℕ). l ++ x) (rows_same m f g (λ i l. h i (omega arith))) (h m (omega arith))

-- two tables in a row are one
pub tab-append : (m k : ℕ) (f : ℕ → ℕ) → tab m f ++ tab k (λ i. f (m + i)) ≡ tab (m + k) f
unfolding tab
tab-append m zero f = append-nil (tab m f) ∙ ap (λ (n : ℕ). tab n f) (sym (add-zero m))
tab-append m (suc k) f =
    sym (append_assoc (tab m f) (tab k (λ i. f (m + i))) (f (m + k) ∷ []))
    ∙ (ap (λ (l : List ℕ). l ++ (f (m + k) ∷ [])) (tab-append m k f) ∙ ap (λ (n : ℕ). tab n f) (sym (add-suc m k)))

-- rows of any lengths, one after the other
pub rows-tab : (m : ℕ) (len : ℕ → ℕ) (f : ℕ → ℕ) → rows m (λ q. tab (len q) (λ i. f (sum q len + i))) ≡ tab (sum m len) f
unfolding rows sum tab
rows-tab zero len f = refl
rows-tab (suc m) len f =
    ap (λ (l : List ℕ). l ++ tab (len m) (λ i. f (sum m len + i))) (rows-tab m len f) ∙ tab-append (sum m len) (len m) f

pub sum-even : (m s : ℕ) → sum m (λ q. s) ≡ m * s
unfolding sum
sum-even zero s = omega arith
sum-even (suc m) s = omega (arith, sum-even m s, suc-mul m s)

pub sum_same : (m : ℕ) (f g : ℕ → ℕ) → ((i : ℕ) → i < m → f i ≡ g i) → sum m f ≡ sum m g
unfolding sum
sum_same zero f g h = refl
sum_same (suc m) f g h = ap₂ (λ (x y : ℕ). x + y) (sum_same m f g (λ i l. h i (omega arith))) (h m (omega arith))

-- a table of s letters a state, as one
pub table-tab : (k s : ℕ) (f : ℕ → ℕ) → table k s (λ q a. f (q * s + a)) ≡ tab (k * s) f
table-tab k s f =
    rows_same k (λ q. tab s (λ a. f (q * s + a))) (λ q. tab s (λ i. f (sum q (λ r. s) + i))) (λ q h. ap (λ (n : ℕ). tab s (λ a. f (n + a))) (sym (sum-even q s)))
    ∙ (rows-tab k (λ r. s) f ∙ ap (λ (n : ℕ). tab n f) (sum-even k s))

-- rows, cut in two
pub rows_cut : (m k : ℕ) (f : ℕ → List ℕ) → rows (m + k) f ≡ rows m f ++ rows k (λ i. f (m + i))
unfolding rows
rows_cut m zero f = ap (λ (n : ℕ). rows n f) (add-zero m) ∙ sym (append-nil (rows m f))
rows_cut m (suc k) f =
    ap (λ (n : ℕ). rows n f) (add-suc m k)
    ∙ (ap (λ (l : List ℕ). l ++ f (m + k)) (rows_cut m k f) ∙ append_assoc (rows m f) (rows k (λ i. f (m + i))) (f (m + k)))

-- s rows for each of k, as one
pub rows-rows : (k s : ℕ) (f : ℕ → List ℕ) → rows k (λ q. rows s (λ a. f (q * s + a))) ≡ rows (k * s) f
unfolding rows
rows-rows zero s f = ap (λ (n : ℕ). rows n f) (sym (zero-mul s))
rows-rows (suc k) s f =
    ap (λ (l : List ℕ). l ++ rows s (λ a. f (k * s + a))) (rows-rows k s f) ∙ (sym (rows_cut (k * s) s f) ∙ ap (λ (n : ℕ). rows n f) (sym (suc-mul k s)))

pub length-rows : (m : ℕ) (f : ℕ → List ℕ) → length (rows m f) ≡ sum m (λ q. length (f q))
unfolding rows sum
length-rows zero f = refl
length-rows (suc m) f = length-append (rows m f) (f m) ∙ ap (λ (n : ℕ). n + length (f m)) (length-rows m f)

pub sum-rises : (m : ℕ) (f : ℕ → ℕ) (q i : ℕ) → q < m → i < f q → sum q f + i < sum m f
unfolding sum
sum-rises zero f q i h l = absurd (omega arith)
sum-rises (suc m) f q i h l = by (ℕ_discrete q m) (sum-rises m f q i)
  where
    by : Dec (q ≡ m) → (q < m → i < f q → sum q f + i < sum m f) → sum q f + i < sum m f + f m
    by (yes e) ih = let d : sum q f ≡ sum m f = ap (λ (n : ℕ). sum n f) e in omega (arith, ap f e)
    by (no e) ih = omega (arith, ih (omega arith) l)

-- an entry of a row
pub get_d_rows : (m : ℕ) (f : ℕ → List ℕ) (q i : ℕ) → q < m → i < length (f q) → get_or (rows m f) (sum q (λ r. length (f r)) + i) 0 ≡ get_or (f q) i 0
unfolding rows
get_d_rows zero f q i h l = absurd (omega arith)
get_d_rows (suc m) f q i h l = by (ℕ_discrete q m) (get_d_rows m f q i)
  where
    by : Dec (q ≡ m) → (q < m → i < length (f q) → get_or (rows m f) (sum q (λ r. length (f r)) + i) 0 ≡ get_or (f q) i 0) → get_or (rows m f ++ f m) (sum q (λ r. length (f r)) + i) 0 ≡ get_or (f q) i 0
    by (yes e) ih =
        ap (λ (n : ℕ). get_or (rows m f ++ f m) (sum n (λ r. length (f r)) + i) 0) e
        ∙ (get_or-second (rows m f) (f m) _ i (length-rows m f) ∙ ap (λ (n : ℕ). get_or (f n) i 0) (sym e))
    by (no e) ih =
        get_or-first (rows m f) (f m) _ (rw (length-rows m f) (sum-rises m (λ r. length (f r)) q i (omega arith) l)) ∙ ih (omega arith) l

pub length-table : (k s : ℕ) (f : ℕ → ℕ → ℕ) → length (table k s f) ≡ k * s
length-table k s f =
    length-rows k (λ q. tab s (f q)) ∙ (sum_same k (λ q. length (tab s (f q))) (λ q. s) (λ q h. length-tab s (f q)) ∙ sum-even k s)

pub get_or-table : (k s : ℕ) (f : ℕ → ℕ → ℕ) (q a : ℕ) → q < k → a < s → get_or (table k s f) (q * s + a) 0 ≡ f q a
get_or-table k s f q a h l =
    ap (λ (n : ℕ). get_or (table k s f) (n + a) 0)
    (sym (sum_same q (λ r. length (tab s (f r))) (λ r. s) (λ r i. length-tab s (f r)) ∙ sum-even q s))
    ∙ (get_d_rows k (λ r. tab s (f r)) q a h (rw (length-tab s (f q)) l) ∙ get_or-tab s (f q) a l)

-- every entry of a table is below a bound, where the function's values are
pub table_below : (k s : ℕ) (f : ℕ → ℕ → ℕ) (c : ℕ) → ((q a : ℕ) → q < k → a < s → f q a < c) → (i : ℕ) → i < k * s → get_or (table k s f) i 0 < c
table_below k zero f c h i l = absurd (omega arith)
table_below k (suc s) f c h i l =
    subst (λ (x : ℕ). get_or (table k (suc s) f) x 0 < c) (div-add-mod' i (suc s))
    (rw (get_or-table k (suc s) f (i / suc s) (i % suc s) left right) (h (i / suc s) (i % suc s) left right))
  where
    left : i / suc s < k
    left = (div-lt_iff_lt-mul {k = suc s} (omega arith)).1 l

    right : i % suc s < suc s
    right = mod-lt i {m = suc s} (omega arith)

-- rows of s entries: where the next one begins, and that each ends within all
pub row-after : (x s : ℕ) → (x + 1) * s ≡ x * s + s
row-after x s = omega (arith, add-mul x 1 s, one-mul s)

pub row-end : (x m s : ℕ) → x < m → x * s + s ≤ m * s
row-end x m s h = let l : x + 1 ≤ m = omega arith in omega (arith, mul-le-mul_right s l, row-after x s)

-- a row and those before it are within the rows
pub rows-within : (m : ℕ) (f : ℕ → List ℕ) (x : ℕ) → x < m → length (rows x f) + length (f x) ≤ length (rows m f)
unfolding rows
rows-within zero f x h = absurd (omega arith)
rows-within (suc m) f x h = by (ℕ_discrete x m) (rows-within m f x)
  where
    by : Dec (x ≡ m) → (x < m → length (rows x f) + length (f x) ≤ length (rows m f)) → length (rows x f) + length (f x) ≤ length (rows m f ++ f m)
    by (yes e) ih =
        let d : length (rows x f) + length (f x) ≡ length (rows m f) + length (f m) = ap (λ (k : ℕ). length (rows k f) + length (f k)) e in
        omega (arith, length-append (rows m f) (f m))
    by (no e) ih = omega (arith, ih (omega arith), length-append (rows m f) (f m))

pub sum-le : (m : ℕ) (f : ℕ → ℕ) (c : ℕ) → ((q : ℕ) → q < m → f q ≤ c) → sum m f ≤ m * c
unfolding sum
sum-le zero f c h = omega arith
sum-le (suc m) f c h =
    omega (arith, sum-le m f c (λ q l. h q (omega arith)), h m (omega arith), suc-mul m c)

-- what holds below m, and of m
pub below_suc : (P : ℕ → Type 0) {m : ℕ} → ((i : ℕ) → i < m → P i) → P m → (i : ℕ) → i < suc m → P i
below_suc P {m} h last i l = by (ℕ_discrete i m)
  where
    by : Dec (i ≡ m) → P i
    by (yes e) = subst P (sym e) last
    by (no e) = h i (omega arith)

-- rows that are empty from m on
pub rows-until : (m n : ℕ) (f : ℕ → List ℕ) → m ≤ n → ((i : ℕ) → m ≤ i → i < n → f i ≡ []) → rows n f ≡ rows m f
unfolding rows
rows-until m zero f h e = let z : 0 ≡ m = omega arith in ap (λ (k : ℕ). rows k f) z
rows-until m (suc n) f h e = by (ℕ_discrete m (suc n)) (rows-until m n f)
  where
    by : Dec (m ≡ suc n) → (m ≤ n → ((i : ℕ) → m ≤ i → i < n → f i ≡ []) → rows n f ≡ rows m f) → rows (suc n) f ≡ rows m f
    by (yes d) ih = ap (λ (k : ℕ). rows k f) (sym d)
    by (no d) ih = ap (λ (l : List ℕ). rows n f ++ l) (e n (omega arith) (omega arith)) ∙ (append-nil (rows n f) ∙ ih (omega arith) (λ i k l. e i k (omega arith)))
