-- The blocks before the last at the starts of two slices, and what follows from the answer of the rest. Assumes nothing.
use Rattle.slices.specs.declared.Reason.TheVariants.{OffLayout, TooLittleRoom}
use Rattle.std.specs.Prelude.{Result, Ok, Err}
use mathlib.Core.Path.{◌≡◌, refl, ap, sym, subst, ◌∙◌}
use mathlib.Core.Bool.{Bool, true, false, cond}
use mathlib.Core.List.{List}
use Prim.Native.Nat.{ℕ, ◌+◌, ◌*◌, ◌≤◌, ◌<◌}
use native.Mathlib.Omega.{arith}
use lib.Dec.{eqb, ltb}
use lib.ListN.{length, get_or, take, drop}
use borrow.Author.Tests.{ltb-false}
use Rattle.slices.specs.declared.Part.TheVariants.{First, Out, Seconds}
use Rattle.slices.specs.declared.Refusal.{Refusal}
use Rattle.slices.specs.Refusals.{Fault, sound, when, mapped, fault_in}
use Rattle.slices.specs.Filling.{written, filled, Fills}
use Rattle.slices.proofs.Refusals.{then-left, then-right, when-sound, never-given, given-was, was-given, was-refused, refuses, gives, mapped-given, mapped-refused, sound-given}
use Rattle.slices.proofs.Filling.{written-front}
use Rattle.slices.proofs.Tables.{length-tab, get_or-first, tab-same}
use Rattle.format.specs.Format.{Found, reading, Fits}
use Rattle.blocks.specs.Text.{timed, level_in, letters_in, states_in, parts_format}
use Rattle.blocks.specs.Numbers.{Blocks, blocks_of, cells_of, times_of}
use Rattle.blocks.specs.Values.{front_format, ReadsBlocks}
use Rattle.blocks.proofs.Shapes.{FrontFits, front-was}
use Rattle.blocks.proofs.Durations.{timed-few, seconds-long}
use Rattle.blocks.proofs.FrontRead.{front_long, front-end}
use Rattle.blocks.proofs.BlocksText.{BlocksFit, blocks-were}
use Rattle.notation.specs.Reading.{Numbers, ended, onward, numbers_of, Sheet, sheet_of, sheet_in, said, room_fault, read_fault, told_of, SheetRead}
use Rattle.notation.specs.Steps.{Packs, Opened}
use Rattle.notation.proofs.Outcomes.{packs-as}

-- what was read last leaves the numbers before it
ended-was : (t : List ℕ) (b : Blocks) (z : Result Found Refusal) {v : Numbers} → ended t b z ≡ Ok v → (v.front ≡ b.front) × (v.timings ≡ b.timings)
ended-was t b (Err r) e = absurd (never-given e)
ended-was t b (Ok f) {v} e = by (eqb f.next (length t)) e
  where
    by : (c : Bool) → cond {A = Result Numbers Refusal} c (Ok (record { front = b.front; timings = b.timings; parts = f.values })) (Err (record { reason = OffLayout; part = First; place = f.next })) ≡ Ok v → (v.front ≡ b.front) × (v.timings ≡ b.timings)
    by true k = (sym (ap (λ (x : Numbers). x.front) (given-was k)), sym (ap (λ (x : Numbers). x.timings) (given-was k)))
    by false k = absurd (never-given k)

-- where the blocks were read
module _ (t : List ℕ) {old new seconds seconds' : List ℕ} {r : Result ℕ Refusal} (d : ReadsBlocks (blocks_of t) old new seconds seconds' r) where
  pub opened : {e : ℕ} → r ≡ Ok e → 1091 ≤ length old → 64 ≤ length seconds → Opened t new seconds' e
  opened k h l =
      let b = mapped-given (λ (z : Blocks). z.next) (blocks_of t) (sym d.says ∙ k) in
      let c = d.cells b.0 b.1 in
      record {
        blocks = b.0;
        says = b.1;
        next = b.2;
        front_old = old;
        front_cells = c.0;
        front_room = omega (arith, h, d.front_same);
        seconds_old = seconds;
        seconds_cells = c.1;
        seconds_room = omega (arith, l, d.seconds_same);
      }

  pub unopened : {x : Refusal} (out cells : List ℕ) → r ≡ Err x → SheetRead (sheet_in t) out cells out cells (Err x)
  unfolding sheet_in numbers_of
  unopened {x} out cells k =
      let e = ap (λ (z : Result Blocks Refusal). mapped sheet_of (onward t z)) (mapped-refused (λ (z : Blocks). z.next) (blocks_of t) (sym d.says ∙ k)) in
      subst (λ (z : Result Sheet Refusal). SheetRead z out cells out cells (Err x)) (sym e) (record { says = refl; sheet = refl; times = refl })

module _ {t front rows : List ℕ} {at : ℕ} (o : Opened t front rows at) where
  abbrev blocks : Blocks
  blocks = o.blocks

  pub fit : BlocksFit t blocks
  fit = blocks-were t o.says

  facts : FrontFits blocks.front
  facts = front-was blocks.front fit.front

  pub inside : at ≤ length t
  inside = omega (arith, o.next, fit.next, fit.here.within)

  entry : (i : ℕ) → i < 3 → get_or front i 0 ≡ get_or blocks.front i 0
  unfolding written
  entry i h = ap (λ (l : List ℕ). get_or l i 0) o.front_cells ∙ get_or-first blocks.front (drop (length blocks.front) o.front_old) i (omega (arith, facts.long))

  module _ {level s n m : ℕ} (el : level ≡ get_or front 0 0) (es : s ≡ get_or front 1 0) (en : n ≡ get_or front 2 0) (em : m ≡ timed level s) where
    level-is : level ≡ level_in blocks.front
    level-is = el ∙ entry 0 (omega arith)

    letters-are : s ≡ letters_in blocks.front
    letters-are = es ∙ entry 1 (omega arith)

    states-are : n ≡ states_in blocks.front
    states-are = en ∙ entry 2 (omega arith)

    times-are : m ≡ timed (level_in blocks.front) (letters_in blocks.front)
    times-are = em ∙ (λ i. timed (level-is i) (letters-are i))

    pub ends : 3 + n * (s + 2) ≡ length blocks.front
    ends = front-end blocks.front fit.front s n letters-are states-are

    pub few : (s ≤ 32) × (n ≤ 32) × (3 + n * (s + 2) ≤ 1091) × (m ≤ 32)
    few = (
      omega (arith, letters-are, facts.few_letters),
      omega (arith, states-are, facts.few_states),
      omega (arith, ends, front_long blocks.front fit.front),
      omega (arith, em, timed-few level s, letters-are, facts.few_letters),
    )

    pub taken : take (3 + n * (s + 2)) front ≡ blocks.front
    taken = ap (take (3 + n * (s + 2))) o.front_cells ∙ written-front blocks.front o.front_old (sym ends)

    -- what reading the rest needs
    abbrev Needed : List ℕ → Type 0
    Needed l = (at ≤ length t) × Fits front_format l × (s ≡ letters_in l) × (n ≡ states_in l) × (m ≡ timed (level_in l) s)

    pub needed : Needed (take (3 + n * (s + 2)) front)
    needed = subst Needed (sym taken) (inside, fit.front, letters-are, states-are, em ∙ (λ i. timed (level-is i) s))

    -- the whole text, as it is read from there
    abbrev rest : List ℕ → ℕ → Result Numbers Refusal
    rest l p = ended t (record { front = l; timings = blocks.timings; next = p }) (reading First t (parts_format l) p)

    whole : numbers_of t ≡ rest (take (3 + n * (s + 2)) front) at
    unfolding numbers_of
    whole = ap (onward t) o.says ∙ (λ i. rest (sym taken i) (o.next i))

    -- the answer of the rest
    module _ (seconds : List ℕ) {out out' : List ℕ} {r : Result ℕ Refusal} (p : Packs (rest (take (3 + n * (s + 2)) front) at) (length seconds) out out' r) where
      abbrev x : Result Sheet Refusal
      x = sheet_in t

      abbrev f : Fault
      f = read_fault (sheet_in t) (length out) (length seconds)

      fills : Fills f (said x).bytes out out' r
      unfolding sheet_in
      fills = packs-as (length seconds) whole p

      pub refused-rest : {z : Refusal} → r ≡ Err z → SheetRead (sheet_in t) out seconds out' seconds (Err z)
      refused-rest e =
          let k = was-refused f (length (said x).bytes) (sym e ∙ fills.says) in
          record {
            says = refuses (told_of (said x)) k;
            sheet = fills.cells;
            times = ap (λ (y : Fault). filled y (said x).seconds seconds) (sym k);
          }

      module _ {k : ℕ} (e : r ≡ Ok k) where
        sounds : (f ≡ sound) × (k ≡ length (said x).bytes)
        sounds = was-given f (length (said x).bytes) (sym e ∙ fills.says)

        sheet : (y : Sheet) × (x ≡ Ok y)
        sheet = sound-given x (then-left (fault_in x) (room_fault (said x) (length out) (length seconds)) sounds.0)

        v : (a : Numbers) × (numbers_of t ≡ Ok a) × (sheet_of a ≡ sheet.0)
        unfolding sheet_in
        v = mapped-given sheet_of (numbers_of t) sheet.1

        kept : (v.0.front ≡ blocks.front) × (v.0.timings ≡ blocks.timings)
        kept = let a = ended-was t (record { front = take (3 + n * (s + 2)) front; timings = blocks.timings; next = at }) (reading First t (parts_format (take (3 + n * (s + 2)) front)) at) (sym whole ∙ v.1) in (a.0 ∙ taken, a.1)

        says-it : said x ≡ sheet_of v.0
        says-it = ap said sheet.1 ∙ sym v.2

        level-said : level ≡ (said x).level
        level-said = sym (ap (λ (y : Sheet). y.level) says-it ∙ (ap level_in kept.0 ∙ sym level-is))

        -- the cells that are filled are the seconds said
        cell : (a : ℕ) → a < m → get_or rows (a * 2 + 1) 0 ≡ get_or blocks.timings (a * 2 + 1) 0
        unfolding written
        cell a h =
            ap (λ (l : List ℕ). get_or l (a * 2 + 1) 0) o.seconds_cells
            ∙ get_or-first blocks.timings (drop (length blocks.timings) o.seconds_old) (a * 2 + 1) (omega (arith, h, times-are, seconds-long _ _ blocks.timings fit.seconds))

        cells-said : cells_of m rows ≡ (said x).seconds
        cells-said =
            tab-same m (λ a. get_or rows (a * 2 + 1) 0) (λ a. get_or blocks.timings (a * 2 + 1) 0) cell
            ∙ ((λ i. cells_of (times-are i) blocks.timings) ∙ sym (ap (λ (y : Sheet). y.seconds) says-it ∙ (λ i. times_of (kept.0 i) (kept.1 i))))

        pub room : (m ≤ 32) × (m * 2 ≤ length rows) × (m ≤ length seconds)
        room =
            let short = when (ltb (length out) (length (said x).bytes)) TooLittleRoom Out (length (said x).bytes) in
            let untimed = when (ltb (length seconds) (length (said x).seconds)) TooLittleRoom Seconds (length (said x).seconds) in
            let h : length (said x).seconds ≤ length seconds = ltb-false (length seconds) (length (said x).seconds) (when-sound (ltb (length seconds) (length (said x).seconds)) TooLittleRoom Seconds (length (said x).seconds) (then-right short untimed (then-right (fault_in x) (room_fault (said x) (length out) (length seconds)) sounds.0))) in
            (few.3, omega (arith, few.3, o.seconds_room), omega (arith, h, ap length cells-said, length-tab m (λ a. get_or rows (a * 2 + 1) 0)))

        pub filled-rest : {seconds' : List ℕ} → seconds' ≡ written (cells_of m rows) seconds → SheetRead (sheet_in t) out seconds out' seconds' (Ok (record { level = level; filled = k }))
        filled-rest d = record {
          says = (λ i. Ok (record { level = level-said i; filled = sounds.1 i })) ∙ gives (told_of (said x)) sounds.0;
          sheet = fills.cells;
          times = d ∙ (ap (λ (l : List ℕ). written l seconds) cells-said ∙ ap (λ (y : Fault). filled y (said x).seconds seconds) (sym sounds.0));
        }
