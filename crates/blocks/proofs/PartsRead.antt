-- The third block: its rows, as a loop reads them part by part, and the whole. Assumes nothing.
use Rattle.std.specs.Prelude.{Result, Ok}
use Rattle.slices.specs.declared.Refusal.{Refusal}
use mathlib.Core.Path.{◌≡◌, ap, sym, ◌∙◌}
use mathlib.Core.List.{List, ◌++◌}
use Prim.Native.Nat.{ℕ, ◌+◌, ◌*◌, ◌≤◌}
use native.Mathlib.Omega.{arith}
use native.Mathlib.Nat.{add-mul}
use lib.ListN.{length, take, length-append}
use Rattle.slices.specs.declared.Part.TheVariants.{First}
use Rattle.slices.specs.Tables.{sum}
use Rattle.format.specs.declared.Row.{Row}
use Rattle.format.specs.Format.{Format, Found, reading, Fits, each}
use Rattle.format.specs.Rows.{row, numbered}
use Rattle.format.specs.Steps.{Reads}
use Rattle.format.proofs.Inverse.{reading-was}
use Rattle.format.proofs.Repeating.{Partly, each_next}
use Rattle.format.proofs.Following.{got, got-all}
use Rattle.blocks.specs.Text.{progress_row_of, part_format, letters_in, states_in, size_in, parts_format}
use Rattle.blocks.specs.Values.{front_format, Whole}
use Rattle.blocks.proofs.Measures.{sum-next}
use Rattle.blocks.proofs.Shapes.{parts-long, whole-readable}

-- the rows that the code reads are those of the part
pub part-rows : (t : List ℕ) (p s q : ℕ) {k z : ℕ} {r : Row} → k ≡ z → r ≡ progress_row_of s q k 0 → reading First t (part_format s z q) p ≡ reading First t (each k (λ j. row (numbered r 1 j))) p
part-rows t p s q ek er = λ i. reading First t (each (sym ek i) (λ j. row (numbered (sym (er ∙ ap (λ (k : ℕ). progress_row_of s q k 0) ek) i) 1 j))) p

module _ (s : ℕ) (size : ℕ → ℕ) where
  abbrev pub parted : ℕ → Format
  parted q = part_format s (size q) q

  module _ {t : List ℕ} {n at : ℕ} {old new : List ℕ} {p w q : ℕ} (h : at ≤ length t) (x : Partly First t parted n at old new p w q) where
    -- where the part of q begins, and where it ends
    part-begins : w ≡ sum q size * (s + 3)
    part-begins = sym x.long ∙ parts-long s q size x.values (reading-was First t (each q parted) at _ h x.says).fits

    pub part-ends : w + size q * (s + 3) ≡ sum (q + 1) size * (s + 3)
    part-ends = omega (arith, part-begins, ap (λ (m : ℕ). m * (s + 3)) (sum-next size q), add-mul (sum q size) (size q) (s + 3))

    -- what was read of it is as long
    pub part-long : {g : Found} → reading First t (parted q) p ≡ Ok g → size q * (s + 3) ≡ length g.values
    part-long {g} e =
        let all = parts-long s (q + 1) size (x.values ++ g.values) (reading-was First t (each (q + 1) parted) at _ h (each_next First t parted at q x.says e)).fits in
        omega (arith, all, part-ends, x.long, length-append x.values g.values)

-- The third block, at the start of a slice; it ends at e.
pub record Closed (t front new : List ℕ) (at e : ℕ) : Type 0 where
  pub parts : List ℕ
  pub says : reading First t (parts_format front) at ≡ Ok (record { values = parts; next = e })
  pub whole : Whole front parts
  pub here : {m : ℕ} → m ≡ sum (states_in front) (size_in front) * (letters_in front + 3) → take m new ≡ parts

pub closed : {t front old new : List ℕ} {r : Result ℕ Refusal} {at e : ℕ} → at ≤ length t → Fits front_format front → Reads (reading First t (parts_format front) at) old new r → r ≡ Ok e → Closed t front new at e
closed {t} {front} {at = at} h f d n =
    let g = got First t (parts_format front) at d h n in
    let w : Whole front g.found.values = record { first = f; second = g.fits } in
    record {
      parts = g.found.values;
      says = g.says ∙ ap (λ (m : ℕ). Ok (record { values = g.found.values; next = m })) g.next;
      whole = w;
      here = λ k. got-all g (k ∙ sym (whole-readable front g.found.values w).parts_length);
    }
