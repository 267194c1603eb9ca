-- The leading table by letter of a valid sheet: the pass by it is the pass in the leading automaton. Assumes nothing.
use mathlib.Core.Path.{◌≡◌, ap, sym, subst, ◌∙◌}
use mathlib.Core.List.{List}
use Prim.Native.Nat.{ℕ, ◌+◌, ◌*◌, ◌≤◌}
use native.Mathlib.Omega.{arith}
use lib.ListN.{length}
use Rattle.fdfa.specs.Pass.{Pass, reached, unknown, pass_over}
use Rattle.fdfa.proofs.Pass.{pass-failed, pass_same}
use Rattle.packed.specs.declared.Sizes.{Sizes}
use Rattle.packed.specs.Layout.{letter_count, state_count, leading_at, decode, Valid}
use Rattle.packed.specs.Faults.{sizes_of}
use Rattle.packed.specs.Columns.{column_step, columns_of}
use Rattle.packed.proofs.Reading.{lead-fits, lead-long, lead-steps, lead-closed}
use Rattle.prefix_pass.specs.Steps.{Stepping, Within}

module _ (b : List ℕ) (v : Valid b) {z : Sizes} (own : z ≡ sizes_of b) where
  -- the table can be read off the sheet
  pub columns-fit : (2 + z.states + z.states * z.letters ≤ length b) × (z.letters ≤ 32)
  columns-fit =
      let e : 2 + z.states + z.states * z.letters ≡ leading_at b + state_count b * letter_count b = λ i. 2 + (own i).states + (own i).states * (own i).letters in
      (omega (arith, e, lead-fits b v), omega (arith, ap (λ (z : Sizes). z.letters) own, v.header.few_letters))

  module _ {t : List ℕ} (is : t ≡ columns_of b (2 + z.states) z.letters z.states) where
    pub lead-table : t ≡ columns_of b (leading_at b) (letter_count b) (state_count b)
    lead-table = is ∙ (λ i. columns_of b (2 + (own i).states) (own i).letters (own i).states)

    pub stepping : Stepping t z.letters
    stepping = subst (Stepping t) (ap (λ (z : Sizes). z.letters) (sym own)) by-sheet
      where
        by-sheet : Stepping t (letter_count b)
        by-sheet = record {
          few_letters = v.header.few_letters;
          long = omega (arith, lead-long b v lead-table);
          closed = lead-closed b v lead-table;
        }

    pub leading-pass : (p : Pass) (w : List ℕ) → Within (state_count b) p → pass_over z.letters (column_step t) p w ≡ pass_over (letter_count b) (decode b).step p w
    leading-pass p w h = ap (λ (z : Sizes). pass_over z.letters (column_step t) p w) own ∙ by-sheet p h
      where
        by-sheet : (p : Pass) → Within (state_count b) p → pass_over (letter_count b) (column_step t) p w ≡ pass_over (letter_count b) (decode b).step p w
        by-sheet (reached q i) h = sym (pass_same v.leads (λ q a l k. sym (lead-steps b v lead-table q a l k)) q i h w)
        by-sheet (unknown i) h =
            pass-failed (letter_count b) (column_step t) i w ∙ sym (pass-failed (letter_count b) (decode b).step i w)
