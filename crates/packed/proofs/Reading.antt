-- The tables of a valid sheet can be walked over every word of its letters, and stay among their states. Assumes nothing.
use mathlib.Core.Path.{◌≡◌, refl, ap, sym, subst, ◌∙◌}
use mathlib.Core.Bool.{Bool, cond}
use mathlib.Core.List.{List}
use Prim.Native.Nat.{ℕ, ◌+◌, ◌*◌, ◌/◌, ◌%◌, ◌≤◌, ◌<◌}
use native.Mathlib.Omega.{arith}
use native.Mathlib.Decide.{dec_lt}
use lib.Dec.{ltb}
use lib.ListN.{length, get_or, take}
use borrow.Author.Tests.{lt-ltb, le-ltb}
use Rattle.slices.proofs.Filling.{length-filled, get_or-filled}
use Rattle.fdfa.specs.Words.{Over}
use Rattle.fdfa.specs.Family.{Closed, walk}
use Rattle.fdfa.proofs.Agreement.{walk_same}
use Rattle.fdfa.proofs.Words.{walk-closed, over-take, over-letter}
use Rattle.packed.specs.Layout.{letter_count, state_count, size_of, leading_at, progress_at_value, table_step, decode, Valid}
use Rattle.packed.specs.Columns.{column_step, column_cell, columns_of, Walkable}
use Rattle.packed.proofs.Bounds.{progress-first, progress-upto, Body, body}

-- a table by letter has the entries of the table itself
module _ (b : List ℕ) (at s m : ℕ) (few_letters : s ≤ 32) where
  pub length-columns : length (columns_of b at s m) ≡ 1024
  unfolding columns_of
  length-columns = length-filled (32 * s) 1024 (column_cell b at s m) (omega arith)

  column-cell : (q a : ℕ) → q < 32 → a < s → column_step (columns_of b at s m) q a ≡ cond (ltb q m) (table_step b at s q a) 0
  unfolding columns_of
  column-cell q a h l =
      get_or-filled (32 * s) 1024 (column_cell b at s m) (omega arith) (32 * a + q) (omega arith) ∙ by (32 * a + q) (omega arith) (omega arith)
    where
      by : (i : ℕ) → i % 32 ≡ q → i / 32 ≡ a → column_cell b at s m i ≡ cond (ltb q m) (table_step b at s q a) 0
      by i e d = λ k. cond (ltb (e k) m) (table_step b at s (e k) (d k)) 0

  column-step : m ≤ 32 → (q a : ℕ) → q < m → a < s → column_step (columns_of b at s m) q a ≡ table_step b at s q a
  column-step few_states q a h l =
      column-cell q a (omega arith) l ∙ ap (λ (t : Bool). cond t (table_step b at s q a) 0) (lt-ltb q m h)

  -- from a state that the automaton has not, each letter leads to state 0
  columns-closed : m ≤ 32 → Closed s m (table_step b at s) → Closed s 32 (column_step (columns_of b at s m))
  columns-closed few_states closed q a h l = by (dec_lt q m)
    where
      by : Dec (q < m) → column_step (columns_of b at s m) q a < 32
      by (yes k) = omega (arith, column-step few_states q a k l, closed q a k l)
      by (no k) =
          let e : column_step (columns_of b at s m) q a ≡ 0 =
          column-cell q a h l ∙ ap (λ (t : Bool). cond t (table_step b at s q a) 0) (le-ltb q m (omega arith)) in
          omega (arith, e)

  -- so it is walked as the table itself
  walks : {t : List ℕ} → t ≡ columns_of b at s m → m ≤ 32 → Closed s m (table_step b at s) → (q : ℕ) → q < m → {w : List ℕ} → Over s w
      → Walkable t q w × (walk (column_step t) q w ≡ walk (table_step b at s) q w)
  walks {t} is few_states closed q h {w} o = (record { inside = inside }, same o)
    where
      same : {x : List ℕ} → Over s x → walk (column_step t) q x ≡ walk (table_step b at s) q x
      same p = sym (walk_same closed (λ p a l k. sym (ap (λ (t : List ℕ). column_step t p a) is ∙ column-step few_states p a l k)) q h p)

      inside : (i : ℕ) → i < length w → 32 * get_or w i 0 + walk (column_step t) q (take i w) < length t
      inside i l =
          let below : walk (table_step b at s) q (take i w) < m = walk-closed closed h (over-take i o) in
          omega (arith, same (over-take i o), below, over-letter o i l, ap length is ∙ length-columns)

module _ (b : List ℕ) (v : Valid b) where
  pub lead-fits : leading_at b + state_count b * letter_count b ≤ length b
  lead-fits = omega (arith, progress-first b, progress-upto b 0 (state_count b) (omega arith), v.exact)

  -- the leading table by letter: its length, its steps, its walks, and that it stays among 32 states
  module _ {t : List ℕ} (is : t ≡ columns_of b (leading_at b) (letter_count b) (state_count b)) where
    pub lead-long : length t ≡ 1024
    lead-long = ap length is ∙ length-columns b (leading_at b) (letter_count b) (state_count b) v.header.few_letters

    pub lead-steps : (q a : ℕ) → q < state_count b → a < letter_count b → column_step t q a ≡ (decode b).step q a
    lead-steps q a h l =
        ap (λ (t : List ℕ). column_step t q a) is
        ∙ column-step b (leading_at b) (letter_count b) (state_count b) v.header.few_letters v.header.few_states q a h l

    pub lead-walks : {q : ℕ} → q < state_count b → {w : List ℕ} → Over (letter_count b) w → Walkable t q w × (walk (column_step t) q w ≡ walk (decode b).step q w)
    lead-walks {q} h o =
        walks b (leading_at b) (letter_count b) (state_count b) v.header.few_letters is v.header.few_states v.leads q h o

    pub lead-closed : Closed (letter_count b) 32 (column_step t)
    lead-closed =
        subst (λ (t : List ℕ). Closed (letter_count b) 32 (column_step t)) (sym is)
        (columns-closed b (leading_at b) (letter_count b) (state_count b) v.header.few_letters v.header.few_states v.leads)

  -- the part of q: where it lies
  pub part_of : (q : ℕ) → q < state_count b → Body b q (progress_at_value b q) (size_of b q) (letter_count b)
  part_of q h = body b v.header v.exact h refl refl refl

  pub progress-walks : {at s m q p : ℕ} {t : List ℕ} → t ≡ columns_of b at s m → at ≡ progress_at_value b q → s ≡ letter_count b → m ≡ size_of b q → q < state_count b → p < size_of b q → {w : List ℕ} → Over (letter_count b) w
      → Walkable t p w × (walk (column_step t) p w ≡ walk ((decode b).progress q) p w)
  progress-walks {q = q} {p = p} is ea es em h l o =
      walks b (progress_at_value b q) (letter_count b) (size_of b q) v.header.few_letters (is ∙ (λ i. columns_of b (ea i) (es i) (em i))) (v.header.few_size q h) (v.progresses q h) p l o
