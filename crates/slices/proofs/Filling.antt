-- Filling a slice cell by cell, and part by part. Assumes nothing.
use Rattle.std.specs.Prelude.{Result, Ok, Err}
use mathlib.Core.Path.{◌≡◌, refl, ap, ap₂, sym, subst, ◌∙◌}
use mathlib.Core.List.{List, [], ◌∷◌, ◌++◌, append-nil, append_assoc}
use Prim.Native.Nat.{ℕ, zero, suc, ◌+◌, ◌-◌, ◌≤◌, ◌<◌}
use native.Mathlib.Omega.{arith}
use native.Mathlib.Numerals.{add-one}
use lib.ListN.{length, get_or, take, drop, set, length-set, length-append, length-take, length-drop, drop_of_length-le, replicate, length-replicate}
use lib.Seq.{length-take-le, take_all, take-append_seam, drop-append_seam, drop-append-add, drop-drop, drop-cons, set-append_seam}
use Rattle.slices.specs.declared.Refusal.{Refusal}
use Rattle.slices.specs.Refusals.{Fault, sound, fault, unless}
use Rattle.slices.specs.Filling.{written, filled, Fills}
use Rattle.slices.specs.Tables.{tab, rows}
use Rattle.slices.proofs.Tables.{length-tab, get_or-first, get_or-tab, tab-get_or, rows-within}

-- the rest of a slice from n on, as it is lent
pub rest-lent : (w : List ℕ) (n : ℕ) → take (length w - n) (drop n w) ≡ drop n w
rest-lent w n = take_all (length w - n) (drop n w) (omega (arith, length-drop n w))

pub written_none : (old : List ℕ) → old ≡ written [] old
unfolding written
written_none [] = refl
written_none (x ∷ old) = refl

pub length-written : (d old : List ℕ) → length d ≤ length old → length (written d old) ≡ length old
unfolding written
length-written d old h = length-append d (drop (length d) old) ∙ omega (arith, length-drop (length d) old)

-- one cell more
pub written-cell : (d old : List ℕ) (i v z : ℕ) → length d ≡ i → i < length old → set (written d old) i v ≡ written (d ++ (v ∷ [])) old
unfolding written
written-cell d old i v z e h =
    ap₂ (λ (l : List ℕ) (k : ℕ). set (d ++ l) k v) (drop-cons old (length d) z (omega arith)) (sym e)
    ∙ (set-append_seam d _ (drop (suc (length d)) old) v
    ∙ (sym (append_assoc d (v ∷ []) (drop (suc (length d)) old)) ∙ ap (λ (k : ℕ). (d ++ (v ∷ [])) ++ drop k old) next))
  where
    next : suc (length d) ≡ length (d ++ (v ∷ []))
    next = omega (arith, length-append d (v ∷ []))

-- what is left behind the cells that are filled, and those cells
left : (d old : List ℕ) → drop (length d) (written d old) ≡ drop (length d) old
unfolding written
left d old = drop-append_seam d (drop (length d) old)

pub written-front : (d old : List ℕ) {n : ℕ} → length d ≡ n → take n (written d old) ≡ d
unfolding written
written-front d old e = ap (λ (k : ℕ). take k (written d old)) (sym e) ∙ take-append_seam d (drop (length d) old)

-- one part more: a part from a on is lent, filled from its start, and comes back
pub written-part : (d chunk old : List ℕ) (a n : ℕ) → length d ≡ a → length old ≡ n → a + length chunk ≤ n
    → take a (written d old) ++ (written chunk (take (n - a) (drop a (written d old))) ++ drop (n - a) (drop a (written d old))) ≡ written (d ++ chunk) old
unfolding written
written-part d chunk old a n e f h =
    ap (λ (k : ℕ). take k (written d old) ++ (written chunk (take (n - k) (drop k (written d old))) ++ drop (n - k) (drop k (written d old)))) (sym e)
    ∙ (ap₂ (λ (x y : List ℕ). x ++ (written chunk (take (n - length d) y) ++ drop (n - length d) y)) (written-front d old refl) (left d old)
    ∙ (ap₂ (λ (x y : List ℕ). d ++ (written chunk x ++ y)) (take_all (n - length d) rest whole) (none (n - length d) rest whole)
    ∙ (ap (λ (x : List ℕ). d ++ x) (append-nil (written chunk rest)) ∙ (sym (append_assoc d chunk (drop (length chunk) rest)) ∙ ap (λ (x : List ℕ). (d ++ chunk) ++ x) after))))
  where
    rest : List ℕ
    rest = drop (length d) old

    whole : length rest ≤ n - length d
    whole = omega (arith, length-drop (length d) old)

    none : (k : ℕ) (l : List ℕ) → length l ≤ k → drop k l ≡ []
    none k l h = drop_of_length-le l h

    after : drop (length chunk) rest ≡ drop (length (d ++ chunk)) old
    after = drop-drop (length chunk) (length d) old ∙ ap (λ (k : ℕ). drop k old) (sym (length-append d chunk))

-- the first n cells are lent, filled as a whole, and come back
pub written-prefix : (d old : List ℕ) {n : ℕ} → length d ≡ n → written d (take n old) ++ drop n old ≡ written d old
unfolding written
written-prefix d old {n} e =
    ap₂ (λ (x y : List ℕ). (d ++ x) ++ y) (drop_of_length-le (take n old) {i = length d} (omega (arith, length-take n old))) (ap (λ (k : ℕ). drop k old) (sym e))
    ∙ ap (λ (x : List ℕ). x ++ drop (length d) old) (append-nil d)

-- A slice that was filled from its start with d.
pub record Begun (d old out : List ℕ) : Type 0 where
  pub cells : out ≡ written d old
  pub same : length out ≡ length old

pub begun-none : (old : List ℕ) → Begun [] old old
begun-none old = record { cells = written_none old; same = refl }

pub begun_first : {d old out : List ℕ} → out ≡ written d old → length d ≤ length old → Begun d old out
begun_first {d} {old} e h = record { cells = e; same = ap length e ∙ length-written d old h }

pub begun-as : {d e old out : List ℕ} → d ≡ e → Begun d old out → Begun e old out
begun-as {old = old} {out = out} p b = subst (λ (x : List ℕ). Begun x old out) p b

-- the part from a on, as it is lent, has what is left
pub lent_length : {d old out : List ℕ} {a : ℕ} → Begun d old out → a ≤ length old → length (take (length out - a) (drop a out)) ≡ length old - a
lent_length {out = out} {a = a} b h =
    let e : length (take (length out - a) (drop a out)) ≡ length out - a = length-take-le (length out - a) (drop a out) (omega (arith, length-drop a out)) in
    omega (arith, b.same)

-- it comes back filled with one chunk more
pub begun_more : {d old out : List ℕ} (chunk last : List ℕ) {a : ℕ} → Begun d old out → length d ≡ a → a + length chunk ≤ length old
    → last ≡ written chunk (take (length out - a) (drop a out)) → Begun (d ++ chunk) old (take a out ++ (last ++ drop (length out - a) (drop a out)))
begun_more {d} {old} {out} chunk last {a} b e h l = begun_first (back ∙ written-part d chunk old a (length out) e (sym b.same) (omega (arith, b.same))) (omega (arith, length-append d chunk))
  where
    back : take a out ++ (last ++ drop (length out - a) (drop a out)) ≡ take a (written d old) ++ (written chunk (take (length out - a) (drop a (written d old))) ++ drop (length out - a) (drop a (written d old)))
    back = ap (λ (y : List ℕ). take a out ++ (y ++ drop (length out - a) (drop a out))) l
        ∙ ap (λ (w : List ℕ). take a w ++ (written chunk (take (length out - a) (drop a w)) ++ drop (length out - a) (drop a w))) b.cells

-- filling again from the start, at least as far
pub written-again : (d e old : List ℕ) → length d ≤ length e → written e (written d old) ≡ written e old
unfolding written
written-again d e old h =
    ap (λ (l : List ℕ). e ++ l)
    (ap (λ (k : ℕ). drop k (d ++ drop (length d) old)) (sym far)
    ∙ (drop-append-add d (drop (length d) old) (length e - length d) ∙ (drop-drop (length e - length d) (length d) old ∙ ap (λ (k : ℕ). drop k old) far)))
  where
    far : length d + (length e - length d) ≡ length e
    far = omega arith

-- one cell more
pub begun-cell : {d old out : List ℕ} (v : ℕ) {i : ℕ} → Begun d old out → length d ≡ i → i < length old → Begun (d ++ (v ∷ [])) old (set out i v)
begun-cell {d} {old} {out} v {i} b e h = record {
  cells = ap (λ (l : List ℕ). set l i v) b.cells ∙ written-cell d old i v 0 e h;
  same = length-set out i v ∙ b.same;
}

-- A slice of which the first i cells are filled with f, of m that will be.
pub record Filling (m : ℕ) (f : ℕ → ℕ) (old out : List ℕ) (i : ℕ) : Type 0 where
  pub room : m ≤ length old
  pub upto : i ≤ m
  pub cells : out ≡ written (tab i f) old
  pub same : length out ≡ length old

pub filling-none : (m : ℕ) (f : ℕ → ℕ) (old : List ℕ) → m ≤ length old → Filling m f old old 0
unfolding tab
filling-none m f old h = record { room = h; upto = omega arith; cells = written_none old; same = refl }

pub filling-more : {m : ℕ} {f : ℕ → ℕ} {old out : List ℕ} {i : ℕ} (v : ℕ) → Filling m f old out i → i < m → v ≡ f i → Filling m f old (set out i v) (i + 1)
unfolding tab
filling-more {m} {f} {old} {out} {i} v s h d = record { room = s.room; upto = omega arith; cells = cells; same = length-set out i v ∙ s.same }
  where
    cells : set out i v ≡ written (tab (i + 1) f) old
    cells =
        ap (λ (l : List ℕ). set l i v) s.cells
        ∙ (written-cell (tab i f) old i v 0 (length-tab i f) (omega (arith, s.room))
        ∙ (ap (λ (x : ℕ). written (tab i f ++ (x ∷ [])) old) d ∙ ap (λ (k : ℕ). written (tab k f) old) (sym (add-one i))))

pub filling-all : {m : ℕ} {f : ℕ → ℕ} {old out : List ℕ} {i : ℕ} → Filling m f old out i → m ≤ i → out ≡ written (tab m f) old
filling-all {m} {f} {old} {out} {i} s h = let e : i ≡ m = omega (arith, s.upto) in s.cells ∙ ap (λ (k : ℕ). written (tab k f) old) e

-- a new table of n cells of which the first m are filled: its length, and those cells
module _ (m n : ℕ) (f : ℕ → ℕ) (h : m ≤ n) where
  pub length-filled : length (written (tab m f) (replicate n 0)) ≡ n
  length-filled = length-written (tab m f) (replicate n 0) (omega (arith, h, length-tab m f, zeros)) ∙ zeros
    where
      zeros : length (replicate {A = ℕ} n 0) ≡ n
      zeros = length-replicate {A = ℕ} n 0

  pub get_or-filled : (i : ℕ) → i < m → get_or (written (tab m f) (replicate n 0)) i 0 ≡ f i
  unfolding written
  get_or-filled i l =
      get_or-first (tab m f) (drop (length (tab m f)) (replicate n 0)) i (omega (arith, l, length-tab m f)) ∙ get_or-tab m f i l

-- a list, copied cell by cell
pub filling-copied : (from : List ℕ) {old out : List ℕ} {i : ℕ} → Filling (length from) (λ k. get_or from k 0) old out i → length from ≤ i → out ≡ written from old
filling-copied from {old} s h = filling-all s h ∙ ap (λ (l : List ℕ). written l old) (tab-get_or from)

pub rows-begin : (f : ℕ → List ℕ) (old : List ℕ) → Begun (rows 0 f) old old
unfolding rows
rows-begin f old = begun-none old

pub rows_next : (f : ℕ → List ℕ) (x : ℕ) → rows x f ++ f x ≡ rows (x + 1) f
unfolding rows
rows_next f x = ap (λ (k : ℕ). rows k f) (sym (add-one x))

-- A slice of which the first x of m rows are filled; the next one begins at `at`, and is lent from there on.
pub record RowFilling (m : ℕ) (f : ℕ → List ℕ) (old out : List ℕ) (at x : ℕ) : Type 0 where
  pub room : length (rows m f) ≤ length old
  pub upto : x ≤ m
  pub begins : length (rows x f) ≡ at
  pub begun : Begun (rows x f) old out

pub rows_none : (m : ℕ) (f : ℕ → List ℕ) (old : List ℕ) → length (rows m f) ≤ length old → RowFilling m f old old 0 0
unfolding rows
rows_none m f old h = record { room = h; upto = omega arith; begins = refl; begun = begun-none old }

module _ {m : ℕ} {f : ℕ → List ℕ} {old out : List ℕ} {at x : ℕ} (s : RowFilling m f old out at x) where
  pub row_room : x < m → at + length (f x) ≤ length out
  row_room h = omega (arith, rows-within m f x h, s.room, s.begins, s.begun.same)

  pub row-lent : x < m → length (f x) ≤ length (take (length out - at) (drop at out))
  row-lent h = let r = row_room h in omega (arith, r, lent_length {a = at} s.begun (omega (arith, r, s.begun.same)), s.begun.same)

  pub rows_more : {k : ℕ} (last : List ℕ) → x < m → k ≡ length (f x) → last ≡ written (f x) (take (length out - at) (drop at out))
      → RowFilling m f old (take at out ++ (last ++ drop (length out - at) (drop at out))) (at + k) (x + 1)
  rows_more last h e l = record {
    room = s.room;
    upto = omega arith;
    begins = sym (ap length (rows_next f x)) ∙ (length-append (rows x f) (f x) ∙ omega (arith, s.begins, e));
    begun = begun-as (rows_next f x) (begun_more (f x) last s.begun s.begins (omega (arith, row_room h, s.begun.same)) l);
  }

  pub rows_all : m ≤ x → out ≡ written (rows m f) old
  rows_all h = let e : x ≡ m = omega (arith, s.upto) in s.begun.cells ∙ ap (λ (k : ℕ). written (rows k f) old) e

-- a call that fills the slice, where it is refused, and where it is not
pub fill-refused : (new old : List ℕ) {f : Fault} {r : Refusal} → f ≡ fault r → Fills f new old old (Err r)
fill-refused new old e = record {
  says = ap (λ (x : Fault). unless x (length new)) (sym e);
  cells = ap (λ (x : Fault). filled x new old) (sym e);
}

pub fill-given : (new : List ℕ) {old out : List ℕ} {f : Fault} {n : ℕ} → f ≡ sound → n ≡ length new → out ≡ written new old → Fills f new old out (Ok n)
fill-given new {old} e l d = record {
  says = ap Ok l ∙ ap (λ (x : Fault). unless x (length new)) (sym e);
  cells = d ∙ ap (λ (x : Fault). filled x new old) (sym e);
}

-- an empty part comes back
pub none-back : (ys old : List ℕ) → length ys ≡ 0 → ys ++ old ≡ old
none-back [] old e = refl
none-back (y ∷ ys) old e = absurd (omega arith)

-- what was filled is the front of the slice
pub filled-front : (u old : List ℕ) {f : Fault} {out : List ℕ} {k : ℕ} → f ≡ sound → k ≡ length u → out ≡ filled f u old → (k ≤ length out) × (take k out ≡ u)
unfolding written
filled-front u old {out = out} e h d = (
  omega (arith, ap length w, length-append u (drop (length u) old)),
  ap₂ take h w ∙ take-append_seam u (drop (length u) old),
)
  where
    w : out ≡ u ++ drop (length u) old
    w = d ∙ ap (λ (x : Fault). filled x u old) e

pub fills-as : {f g : Fault} {new old out : List ℕ} {r : Result ℕ Refusal} → f ≡ g → Fills f new old out r → Fills g new old out r
fills-as {new = new} {old = old} {out = out} {r = r} e h = subst (λ (x : Fault). Fills x new old out r) e h

-- a slice filled whole with one value
same-value : (m v : ℕ) → tab m (λ i. v) ≡ replicate m v
unfolding tab
same-value zero v = refl
same-value (suc m) v = ap (λ (l : List ℕ). l ++ (v ∷ [])) (same-value m v) ∙ snoc m
  where
    snoc : (k : ℕ) → replicate k v ++ (v ∷ []) ≡ v ∷ replicate k v
    snoc zero = refl
    snoc (suc k) = ap (λ (l : List ℕ). v ∷ l) (snoc k)

pub filling-value : {v : ℕ} {old out : List ℕ} {i : ℕ} → Filling (length old) (λ k. v) old out i → length old ≤ i → out ≡ replicate (length old) v
unfolding written
filling-value {v} {old} s h =
    filling-all s h
    ∙ (ap (λ (l : List ℕ). tab (length old) (λ k. v) ++ l) (drop_of_length-le old {i = length (tab (length old) (λ k. v))} (omega (arith, length-tab (length old) (λ k. v))))
    ∙ (append-nil (tab (length old) (λ k. v)) ∙ same-value (length old) v))
