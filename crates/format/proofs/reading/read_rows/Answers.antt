-- `format::reading::read_rows` meets its contract. Assumes nothing.
use Rattle.slices.proofs.Refusals.{handed}
use Rattle.std.specs.Prelude.{Result, Ok}
use Rattle.slices.specs.declared.Refusal.{Refusal}
use mathlib.Core.Path.{◌≡◌, refl, ap, sym, subst, ◌∙◌}
use mathlib.Core.List.{List}
use Prim.Native.Nat.{ℕ, ◌+◌, ◌*◌, ◌-◌, ◌≤◌, ◌<◌}
use native.Mathlib.Omega.{arith}
use lib.ListN.{length, take, drop}
use borrow.Rule.Slice.PartMut.{put_mid, same_len_mid}
use Rattle.slices.proofs.Tables.{row-after, row-end}
use Rattle.slices.proofs.Filling.{lent_length}
use Rattle.slices.specs.declared.Part.{Part}
use Rattle.format.specs.declared.Row.{Row}
use Rattle.format.specs.Format.{Format, reading}
use Rattle.format.specs.Rows.{row, numbered}
use Rattle.format.specs.Steps.{Reads}
use Rattle.format.proofs.Steps.{placed-refused, placed-given}
use Rattle.format.proofs.Rows.{numbered-count, row-was}
use Rattle.format.proofs.Repeating.{Partly, partly_none, step-was, partly-row, partly-refused, partly-all}
use Rattle.format.proofs.reading.read_rows.Goals as goal

-- the rows that are read, and the slice once a row has filled the part that it was lent
abbrev steps : Row → ℕ → ℕ → Format
steps r turn j = row (numbered r turn j)

abbrev filled : ℕ → List ℕ → List ℕ → List ℕ
filled w new last = put_mid w (length new - w) new last

-- the next row has room
room : (width : ℕ) (old new : List ℕ) {w i count : ℕ} → w ≡ i * width → i < count → count * width ≤ length old → length new ≡ length old → (w + width ≤ length old) × (length new ≡ length old)
room width old new {w} {i} {count} e h l s = (omega (arith, row-end i count width h), s)

module _ (r : Row) (turn : ℕ) {part : Part} {t : List ℕ} {count at : ℕ} {old new : List ℕ} {p w i : ℕ} {q : Row} {last : List ℕ} {x : Result ℕ Refusal} (e : w ≡ i * r.count)
    (s : Partly part t (steps r turn) count at old new p w i) (h : i < count) (l : count * r.count ≤ length old) (is : q ≡ numbered r turn i)
    (d : Reads (reading part t (row q) p) (take (length new - w) (drop w new)) last x) where
  -- what reading the row did
  did : Reads (reading part t (steps r turn i) p) (take (length new - w) (drop w new)) last x
  did = subst (λ (k : Row). Reads (reading part t (row k) p) (take (length new - w) (drop w new)) last x) is d

  back : length (filled w new last) ≡ length old
  back = same_len_mid w (length new - w) new last did.same ∙ s.begun.same

  next : {n : ℕ} → x ≡ Ok n → Partly part t (steps r turn) count at old (filled w new last) n (w + r.count) (i + 1)
  next {n} a =
      let g = placed-given (reading part t (steps r turn i) p) (sym did.says ∙ a) in
      let long : r.count ≡ length g.0.values = sym ((row-was (numbered r turn i) g.0.values (step-was s g.1).fits).count ∙ numbered-count r turn i) in
      subst (λ (k : ℕ). Partly part t (steps r turn) count at old (filled w new last) k (w + r.count) (i + 1)) g.2
      (partly-row s last h g.1 long (room r.count old new e h l s.begun.same).0 (did.cells g.0 g.1))

pub loop-i-init : goal.loop-i-init
loop-i-init c = (omega arith, partly_none _ _ _ _ _ _ c.requires.0)

pub read_row-requires : goal.read_row-requires
read_row-requires c =
    let i = c.loop-i in
    let r = room c.args.r.count c.args.values.now i.values i.invariant.0 (omega arith) c.requires.2 i.invariant.1.begun.same in (
      i.invariant.1.inside,
      omega (arith, ap (λ (x : Row). x.count) c.numbered.ensures, numbered-count c.args.r c.args.turn i.i, r, lent_length {a = i.w} i.invariant.1.begun (omega (arith, r.0))),
    )

pub returns-in_err-p : goal.returns-in_err-p
returns-in_err-p c = rw (handed c.from_residual.ensures)
    (let i = c.loop-i in
    let d = did c.args.r c.args.turn i.invariant.0 i.invariant.1 (omega arith) c.requires.2 c.numbered.ensures c.read_row.ensures in
    partly-refused i.invariant.1 (omega arith) (placed-refused (reading c.args.part c.args.text.now (steps c.args.r c.args.turn i.i) i.p) (sym d.says ∙ c.in_err-p.was)) refl
    (back c.args.r c.args.turn i.invariant.0 i.invariant.1 (omega arith) c.requires.2 c.numbered.ensures c.read_row.ensures))

pub loop-i-preserved : goal.loop-i-preserved
loop-i-preserved c =
    let i = c.loop-i in
    (omega (arith, i.invariant.0, row-after i.i c.args.r.count), next c.args.r c.args.turn i.invariant.0 i.invariant.1 (omega arith) c.requires.2 c.numbered.ensures c.read_row.ensures (c.in_ok-p.was))

pub returns : goal.returns
returns c = partly-all c.loop-i.invariant.1 (omega arith) refl
