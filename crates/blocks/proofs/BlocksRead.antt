-- The blocks before the last, one after the other, as the code reads them into two slices. Assumes nothing.
use Rattle.std.specs.Prelude.{Result, Ok, Err}
use mathlib.Core.Path.{◌≡◌, refl, ap, sym, subst, ◌∙◌}
use mathlib.Core.List.{List, ◌++◌}
use Prim.Native.Nat.{ℕ, ◌+◌, ◌*◌, ◌-◌, ◌≤◌, ◌<◌}
use native.Mathlib.Omega.{arith}
use native.Mathlib.Nat.{mul-le-mul}
use lib.ListN.{length, get_or, take, drop, length-append, take-append-drop, length-drop}
use lib.Seq.{get_or-take}
use borrow.Rule.Slice.PartMut.{same_len_mid}
use Rattle.slices.specs.declared.Part.TheVariants.{First}
use Rattle.slices.specs.declared.Refusal.{Refusal}
use Rattle.slices.specs.Refusals.{mapped}
use Rattle.slices.proofs.Refusals.{never-given, given-was}
use Rattle.slices.specs.Filling.{written}
use Rattle.slices.proofs.Filling.{Begun, begun_more, written-again, rest-lent}
use Rattle.format.specs.Format.{Found, reading, Fits, each}
use Rattle.format.specs.Rows.{row}
use Rattle.format.specs.Steps.{placed, Reads}
use Rattle.format.proofs.Inverse.{reading-was}
use Rattle.format.proofs.Fixed.{then-was}
use Rattle.format.proofs.Following.{Got, lost, got-all}
use Rattle.blocks.specs.Text.{leading_title, leading_row_of, counts_format, seconds_format, leading_format}
use Rattle.blocks.specs.Numbers.{following, Blocks, blocks_from, blocks_of}
use Rattle.blocks.specs.Values.{ReadsBlocks}
use Rattle.blocks.proofs.Shapes.{Counts, counts-was, fixed-head, leading-long}

-- what follows
module _ {A : Type 0} (go : List ℕ → ℕ → Result A Refusal) where
  following-refused : {x : Result Found Refusal} {r : Refusal} → x ≡ Err r → following x go ≡ Err r
  following-refused e = ap (λ (z : Result Found Refusal). following z go) e

  pub following-given : {x : Result Found Refusal} {f : Found} → x ≡ Ok f → following x go ≡ go f.values f.next
  following-given e = ap (λ (z : Result Found Refusal). following z go) e

  pub following-was : (x : Result Found Refusal) {a : A} → following x go ≡ Ok a → (f : Found) × (x ≡ Ok f) × (go f.values f.next ≡ Ok a)
  following-was (Ok f) e = (f, refl, e)
  following-was (Err r) e = absurd (never-given e)

-- What was read where blocks were: the seconds, then the leading automaton.
pub record Were (t counts : List ℕ) (at : ℕ) (b : Blocks) : Type 0 where
  pub seconds : Found
  pub leading : Found
  pub seconds_read : reading First t (seconds_format (get_or counts 0 0) (get_or counts 1 0)) at ≡ Ok seconds
  pub leading_read : reading First t (leading_format (get_or counts 1 0) (get_or counts 2 0)) seconds.next ≡ Ok leading
  pub said : record { front = counts ++ leading.values; timings = seconds.values; next = leading.next } ≡ b

pub were : (t counts : List ℕ) (at : ℕ) {b : Blocks} → blocks_from t counts at ≡ Ok b → Were t counts at b
unfolding blocks_from
were t counts at e =
    let x = following-was _ (reading First t (seconds_format (get_or counts 0 0) (get_or counts 1 0)) at) e in
    let y = following-was _ (reading First t (leading_format (get_or counts 1 0) (get_or counts 2 0)) x.0.next) x.2 in
    record { seconds = x.0; leading = y.0; seconds_read = x.1; leading_read = y.1; said = given-was y.2 }

pub first_count : (front : List ℕ) (i : ℕ) → i < 3 → get_or front i 0 ≡ get_or (take 3 front) i 0
first_count front i h = sym (get_or-take 3 front i 0 h)

-- after the counts, which lie at the start of a slice
module _ (t front seconds : List ℕ) (at : ℕ) {level s n : ℕ} (c : Counts (take 3 front)) (room : 1091 ≤ length front) (el : level ≡ get_or (take 3 front) 0 0) (es : s ≡ get_or (take 3 front) 1 0) (en : n ≡ get_or (take 3 front) 2 0) where
  abbrev counts : List ℕ
  counts = take 3 front

  pub few : (s ≤ 32) × (n ≤ 32)
  few = (omega (arith, es, c.few_letters), omega (arith, en, c.few_states))

  pub leading-few : n * (s + 2) ≤ 1088
  leading-few = let w : s + 2 ≤ 34 = omega (arith, few.0) in mul-le-mul few.1 w

  pub leading-room : n * (s + 2) ≤ length (take (length front - 3) (drop 3 front))
  leading-room = omega (arith, leading-few, room, ap length (rest-lent front 3), length-drop 3 front)

  abbrev finish : List ℕ → List ℕ → ℕ → Result Blocks Refusal
  finish times leading e = Ok (record { front = counts ++ leading; timings = times; next = e })

  abbrev go : List ℕ → ℕ → Result Blocks Refusal
  go times e = following (reading First t (leading_format (get_or counts 1 0) (get_or counts 2 0)) e) (finish times)

  seconds-as : {x : Result Found Refusal} → reading First t (seconds_format level s) at ≡ x → reading First t (seconds_format (get_or counts 0 0) (get_or counts 1 0)) at ≡ x
  seconds-as e = (λ i. reading First t (seconds_format (sym el i) (sym es i)) at) ∙ e

  -- no seconds
  pub without-seconds : {times : List ℕ} {x : Refusal} {r : Result ℕ Refusal} → Reads (reading First t (seconds_format level s) at) seconds times r → r ≡ Err x → ReadsBlocks (blocks_from t counts at) front front seconds times (Err x)
  unfolding blocks_from
  without-seconds d e =
      let z = following-refused go (seconds-as (lost First t (seconds_format level s) at d e)) in
      record {
        says = ap (mapped (λ (b : Blocks). b.next)) (sym z);
        front_same = refl;
        seconds_same = d.same;
        cells = λ b k. absurd (never-given (sym z ∙ k));
      }

  -- the leading automaton follows the seconds
  module _ {times : List ℕ} {e : ℕ} (g : Got First t (seconds_format level s) at seconds times e) where
    abbrev leads : Result Found Refusal
    leads = reading First t (leading_format s n) e

    from : blocks_from t counts at ≡ following leads (finish g.found.values)
    unfolding blocks_from
    from =
        following-given go (seconds-as g.says)
        ∙ (λ i. following (reading First t (leading_format (sym es i) (sym en i)) (g.next i)) (finish g.found.values))

    next_of : (x : Result Found Refusal) → mapped (λ (b : Blocks). b.next) (following x (finish g.found.values)) ≡ placed x
    next_of (Ok f) = refl
    next_of (Err r) = refl

    kept : Begun counts front front
    unfolding written
    kept = record { cells = cut; same = refl }
      where
        cut : front ≡ counts ++ drop (length counts) front
        cut = sym (take-append-drop 3 front) ∙ ap (λ (k : ℕ). counts ++ drop k front) (sym c.three)

    pub with-leading : {last : List ℕ} {r : Result ℕ Refusal} → Reads leads (take (length front - 3) (drop 3 front)) last r
        → ReadsBlocks (blocks_from t counts at) front (take 3 front ++ (last ++ drop (length front - 3) (drop 3 front))) seconds times r
    with-leading {last} d = record {
      says = d.says ∙ (sym (next_of leads) ∙ ap (mapped (λ (b : Blocks). b.next)) (sym from));
      front_same = same_len_mid 3 (length front - 3) front last d.same;
      seconds_same = g.begun.same;
      cells = λ b k.
          let f = following-was (finish g.found.values) leads (sym from ∙ k) in
          let fit = (reading-was First t (leading_format s n) e f.0 g.inside f.1).fits in
          let long = leading-long s n f.0.values (then-was (fixed-head leading_title s) (λ vs. each n (λ q. row (leading_row_of s n q))) f.0.values fit) in
          let is = given-was f.2 in (
            (begun_more f.0.values last kept c.three (omega (arith, long, leading-few, room)) (d.cells f.0 f.1)).cells ∙ ap (λ (z : Blocks). written z.front front) is,
            g.begun.cells ∙ ap (λ (z : Blocks). written z.timings seconds) is,
          );
    }

-- after the counts were read
module _ {t old front : List ℕ} {e : ℕ} (g : Got First t counts_format 0 old front e) where
  counts-read : Counts g.found.values
  counts-read = counts-was g.found.values g.fits

  counts-here : take 3 front ≡ g.found.values
  counts-here = got-all g (sym counts-read.three)

  pub counts-fit : Fits counts_format (take 3 front)
  counts-fit = subst (Fits counts_format) (sym counts-here) g.fits

  whole : blocks_of t ≡ blocks_from t (take 3 front) e
  unfolding blocks_of
  whole = following-given (blocks_from t) g.says ∙ (λ i. blocks_from t (sym counts-here i) (g.next i))

  pub blocks-read : {last seconds times : List ℕ} {r : Result ℕ Refusal} → ReadsBlocks (blocks_from t (take 3 front) e) front last seconds times r → ReadsBlocks (blocks_of t) old last seconds times r
  blocks-read {last} d = record {
    says = d.says ∙ ap (mapped (λ (b : Blocks). b.next)) (sym whole);
    front_same = d.front_same ∙ g.begun.same;
    seconds_same = d.seconds_same;
    cells = λ b k.
        let w = were t (take 3 front) e (sym whole ∙ k) in
        let long : length g.found.values ≤ length b.front = omega (arith, ap (λ (z : Blocks). length z.front) w.said, length-append (take 3 front) w.leading.values, ap length counts-here) in
        let again = written-again g.found.values b.front old long in
        let c = d.cells b (sym whole ∙ k) in
        (c.0 ∙ (ap (written b.front) g.begun.cells ∙ again), c.1);
  }

pub counts-lost : (t seconds : List ℕ) {old front : List ℕ} {r : Result ℕ Refusal} {x : Refusal} → Reads (reading First t counts_format 0) old front r → r ≡ Err x → ReadsBlocks (blocks_of t) old front seconds seconds (Err x)
unfolding blocks_of
counts-lost t seconds d e =
    let z = following-refused (blocks_from t) (lost First t counts_format 0 d e) in
    record {
      says = ap (mapped (λ (b : Blocks). b.next)) (sym z);
      front_same = d.same;
      seconds_same = refl;
      cells = λ b k. absurd (never-given (sym z ∙ k));
    }
