-- Packing the numbers of a text, outcome by outcome. Assumes nothing.
use Rattle.slices.specs.declared.Reason.TheVariants.{OffLayout, TooLittleRoom}
use Rattle.std.specs.Prelude.{Result, Ok, Err}
use mathlib.Core.Path.{◌≡◌, ap, sym, subst, ◌∙◌}
use mathlib.Core.Bool.{Bool, cond}
use mathlib.Core.List.{List}
use Prim.Native.Nat.{ℕ, ◌≤◌, ◌<◌}
use lib.Dec.{ltb}
use lib.ListN.{length}
use borrow.Author.Tests.{lt-ltb, le-ltb, eq-eqb, ne_eqb}
use Rattle.slices.specs.declared.Part.TheVariants.{First, Out, Seconds}
use Rattle.slices.specs.declared.Refusal.{Refusal}
use Rattle.slices.specs.Refusals.{sound, when, mapped, fault_in}
use Rattle.slices.specs.Filling.{written}
use Rattle.slices.proofs.Refusals.{when-fails, when-passes, passed, failed}
use Rattle.slices.proofs.Filling.{fill-refused, fill-given}
use Rattle.packed.specs.Layout.{pack}
use Rattle.format.specs.Format.{Found, refused_at}
use Rattle.blocks.specs.Numbers.{Blocks, family_of, times_of}
use Rattle.notation.specs.Reading.{Numbers, ended, sheet_of, said}
use Rattle.notation.specs.Steps.{Packs}

-- after the last line feed
module _ (t : List ℕ) (b : Blocks) (parts : List ℕ) (at : ℕ) where
  abbrev found : Result Found Refusal
  found = Ok (record { values = parts; next = at })

  abbrev pub numbers : Numbers
  numbers = record { front = b.front; timings = b.timings; parts = parts }

  abbrev by : Bool → Result Numbers Refusal
  by c = cond c (Ok numbers) (refused_at OffLayout First at)

  pub ended-early : (at ≡ length t → ⊥) → ended t b found ≡ refused_at OffLayout First at
  ended-early n = ap by (ne_eqb at (length t) n)

  pub ended-there : at ≡ length t → ended t b found ≡ Ok numbers
  ended-there e = ap by (eq-eqb at (length t) e)

pub packs-as : (cells : ℕ) {x y : Result Numbers Refusal} {old out : List ℕ} {r : Result ℕ Refusal} → x ≡ y → Packs y cells old out r → Packs x cells old out r
packs-as cells {old = old} {out = out} {r = r} e h = subst (λ (z : Result Numbers Refusal). Packs z cells old out r) (sym e) h

pub packs-refused : (old : List ℕ) (cells : ℕ) {x : Result Numbers Refusal} {r : Refusal} → x ≡ Err r → Packs x cells old old (Err r)
packs-refused old cells {x} e = fill-refused (said (mapped sheet_of x)).bytes old (failed _ (ap (λ (z : Result Numbers Refusal). fault_in (mapped sheet_of z)) e))

-- the room
module _ (old : List ℕ) (cells : ℕ) (v : Numbers) {need m : ℕ} (en : need ≡ length (pack (family_of v.front v.parts))) (em : m ≡ length (times_of v.front v.timings)) {x : Result Numbers Refusal} (e : x ≡ Ok v) where
  abbrev sheet : List ℕ
  sheet = pack (family_of v.front v.parts)

  pub packs-short : length old < need → Packs x cells old old (Err (record { reason = TooLittleRoom; part = Out; place = need }))
  packs-short h =
      packs-as cells e (fill-refused sheet old (failed _ ((λ i. when (ltb (length old) (sym en i)) TooLittleRoom Out (sym en i)) ∙ when-fails TooLittleRoom Out need (lt-ltb (length old) need h))))

  long : need ≤ length old → when (ltb (length old) (length sheet)) TooLittleRoom Out (length sheet) ≡ sound
  long h = (λ i. when (ltb (length old) (sym en i)) TooLittleRoom Out (sym en i)) ∙ when-passes TooLittleRoom Out need (le-ltb (length old) need h)

  pub packs-untimed : need ≤ length old → cells < m → Packs x cells old old (Err (record { reason = TooLittleRoom; part = Seconds; place = m }))
  packs-untimed h l =
      packs-as cells e (fill-refused sheet old (passed _ (long h) ∙ ((λ i. when (ltb cells (sym em i)) TooLittleRoom Seconds (sym em i)) ∙ when-fails TooLittleRoom Seconds m (lt-ltb cells m l))))

  pub packs-filled : {out : List ℕ} → need ≤ length old → m ≤ cells → out ≡ written sheet old → Packs x cells old out (Ok need)
  packs-filled h l d =
      packs-as cells e (fill-given sheet (passed _ (long h) ∙ ((λ i. when (ltb cells (sym em i)) TooLittleRoom Seconds (sym em i)) ∙ when-passes TooLittleRoom Seconds m (le-ltb cells m l))) en d)
