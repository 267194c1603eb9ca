-- Reading succeeds exactly on the texts of valid sheets, at both levels, and reading and writing are inverse. Assumes nothing.
use Rattle.slices.specs.declared.Reason.TheVariants.{UnknownLevel}
use Rattle.std.specs.Prelude.{Result, Ok}
use Rattle.slices.specs.declared.Refusal.{Refusal}
use mathlib.Core.Path.{◌≡◌, refl, ap, ap₂, sym, subst, ◌∙◌}
use mathlib.Core.Bool.{Bool}
use mathlib.Core.List.{List, [], ◌∷◌, ◌++◌, append_assoc}
use Prim.Native.Nat.{ℕ, ◌+◌, ◌*◌, ◌≤◌, ◌<◌}
use native.Mathlib.Omega.{arith}
use lib.ListN.{length, get_or, take, drop, length-take}
use lib.Seq.{length-take-le, take_all, get_or-take}
use Rattle.slices.specs.declared.Part.TheVariants.{First}
use Rattle.slices.specs.Refusals.{Fault, sound, when, mapped, fault_in, ◌then◌}
use Rattle.slices.specs.Scans.{outside}
use Rattle.slices.specs.Seconds.{TimesFit, seconds_fault}
use Rattle.slices.specs.Tables.{tab, rows}
use Rattle.slices.proofs.Refusals.{passed, then-left, then-right, when-sound, when-passes, given-was, mapped-given, sound-given}
use Rattle.slices.proofs.Scans.{inside, not-outside}
use Rattle.slices.proofs.Timings.{seconds-fit, fit-seconds}
use Rattle.slices.proofs.Tables.{length-tab, tab-get_or, tab-same, rows_same}
use Rattle.fdfa.specs.Family.{Fdfa, Agrees}
use Rattle.packed.specs.Layout.{decode, mark, pack, letter_count, Valid, Packable}
use Rattle.packed.specs.Faults.{sheet_fault}
use Rattle.packed.proofs.Soundness.{sound-valid, valid-sound, valid-packable}
use Rattle.packed.proofs.Packing.{pack-same, pack-decode, decode-pack, pack-valid}
use Rattle.format.specs.Format.{printed}
use Rattle.blocks.specs.Text.{timed, counts_format, seconds_format, leading_format, level_in, letters_in, states_in, parts_format, counts_of, seconds_values, seconds_of, leading_values_of, leading_of, progress_values_of, front_of, parts_of, text_for, text_of}
use Rattle.blocks.specs.Numbers.{family_of, times_of}
use Rattle.blocks.specs.Values.{Whole}
use Rattle.blocks.proofs.Shapes.{FrontFits, front-was, whole-readable}
use Rattle.blocks.proofs.Durations as durations
use Rattle.blocks.proofs.Families.{family-is, front-is, parts_is}
use Rattle.notation.specs.Reading.{Numbers, numbers_of, Sheet, sheet_of, sheet_in, said, room_fault, read_fault}
use Rattle.notation.specs.Writing.{out_fault, times_fault, write_fault, sheet_text, Writable}
use Rattle.notation.proofs.Whole.{text-numbers, ReadWhole, numbers-was}

-- families that agree have one text
module _ (level : ℕ) (w : List ℕ) (F G : Fdfa) (a : Agrees F G) where
  leading-same : (q : ℕ) → q < F.states → leading_values_of F q ≡ leading_values_of G q
  leading-same q h =
      ap₂ (λ (k : ℕ) (l : List ℕ). q ∷ k ∷ l) (a.sizes q h)
      (tab-same F.letters (F.step q) (G.step q) (λ b l. a.steps q b h l) ∙ ap (λ (m : ℕ). tab m (G.step q)) a.letters)

  progress-same : (q p : ℕ) → q < F.states → p < F.size q → progress_values_of F q p ≡ progress_values_of G q p
  progress-same q p h k =
      ap₂ (λ (m : Bool) (l : List ℕ). q ∷ p ∷ mark m ∷ l) (a.marks q p h k)
      (tab-same F.letters (F.progress q p) (G.progress q p) (λ b l. a.progresses q p b h k l) ∙ ap (λ (m : ℕ). tab m (G.progress q p)) a.letters)

  rows_of : leading_of F ≡ leading_of G
  unfolding leading_of
  rows_of = rows_same F.states (leading_values_of F) (leading_values_of G) leading-same ∙ ap (λ (m : ℕ). rows m (leading_values_of G)) a.states

  front_same : front_of level F ≡ front_of level G
  front_same = λ i. (level ∷ a.letters i ∷ a.states i ∷ []) ++ rows_of i

  parts_same : parts_of F ≡ parts_of G
  unfolding parts_of
  parts_same =
      rows_same F.states (λ q. rows (F.size q) (progress_values_of F q)) (λ q. rows (G.size q) (progress_values_of G q))
      (λ q h. rows_same (F.size q) (progress_values_of F q) (progress_values_of G q) (λ p k. progress-same q p h k) ∙ ap (λ (m : ℕ). rows m (progress_values_of G q)) (a.sizes q h))
      ∙ ap (λ (m : ℕ). rows m (λ q. rows (G.size q) (progress_values_of G q))) a.states

  text_same : text_for level w F ≡ text_for level w G
  text_same = λ i.
      printed counts_format (level ∷ a.letters i ∷ a.states i ∷ [])
      ++ (printed (seconds_format level (a.letters i)) (seconds_of level (a.letters i) w)
      ++ (printed (leading_format (a.letters i) (a.states i)) (rows_of i) ++ printed (parts_format (front_same i)) (parts_same i)))

-- the text of a valid sheet is read, to that sheet and the seconds of its letters
module _ (level : ℕ) (low : 3 ≤ level) (high : level < 5) (b : List ℕ) (v : Valid b) (w : List ℕ) (fit : TimesFit (timed level (letter_count b)) w) where
  abbrev F : Fdfa
  F = decode b

  abbrev m : ℕ
  m = timed level (letter_count b)

  packs : Packable F
  packs = valid-packable b v

  bytes : pack (family_of (front_of level F) (parts_of F)) ≡ b
  bytes = sym (pack-same F (family_of (front_of level F) (parts_of F)) (family-is F packs level)) ∙ pack-decode b v

  cells : times_of (front_of level F) (seconds_of level (letter_count b) w) ≡ take m w
  cells =
      durations.cells-of level (letter_count b) w
      ∙ (tab-same m (λ a. get_or w a 0) (λ a. get_or (take m w) a 0) (λ a h. sym (get_or-take m w a 0 h))
      ∙ (ap (λ (k : ℕ). tab k (λ a. get_or (take m w) a 0)) (sym (length-take-le m w fit.many)) ∙ tab-get_or (take m w)))

  text-said : sheet_in (text_of level w b) ≡ Ok (record { level = level; bytes = b; seconds = take m w })
  unfolding sheet_in text_of
  text-said =
      ap (mapped sheet_of) (text-numbers level low high F packs w fit)
      ∙ (λ i. Ok (record { level = level; bytes = bytes i; seconds = cells i }))

-- what is read is a valid sheet with its seconds, and its text is what was read
module _ (t : List ℕ) (v : Numbers) (d : numbers_of t ≡ Ok v) where
  abbrev G : Fdfa
  G = family_of v.front v.parts

  abbrev l : ℕ
  l = level_in v.front

  abbrev s : ℕ
  s = letters_in v.front

  abbrev times : List ℕ
  times = times_of v.front v.timings

  read : ReadWhole t v
  read = numbers-was t v d

  whole : Whole v.front v.parts
  whole = record { first = read.front; second = read.parts }

  facts : FrontFits v.front
  facts = front-was v.front read.front

  packable : Packable G
  packable = (whole-readable v.front v.parts whole).packable

  front-back : front_of l G ≡ v.front
  front-back = front-is v.front v.parts whole

  family-text : text_for l times G ≡ t
  family-text =
      (λ i. printed counts_format (take 3 (front-back i))
      ++ (printed (seconds_format l s) (sym (durations.seconds-are l s v.timings read.seconds) i)
      ++ (printed (leading_format s (states_in v.front)) (drop 3 (front-back i)) ++ printed (parts_format (front-back i)) (parts_is v.front v.parts whole i))))
      ∙ (assoc (printed counts_format (take 3 v.front)) (printed (seconds_format l s) v.timings) (printed (leading_format s (states_in v.front)) (drop 3 v.front)) (printed (parts_format v.front) v.parts) ∙ sym read.text)
    where
      assoc : (x y z u : List ℕ) → x ++ (y ++ (z ++ u)) ≡ (x ++ (y ++ z)) ++ u
      assoc x y z u = sym (append_assoc x (y ++ z) u ∙ ap (λ (k : List ℕ). x ++ k) (append_assoc y z u))

  writable : Writable (sheet_of v)
  writable = record {
    low = facts.low_level;
    high = facts.high_level;
    valid = pack-valid G packable;
    exact = length-tab (timed l s) (λ a. get_or v.timings (a * 2 + 1) 0);
    times = durations.times-fit l s v.timings read.seconds;
  }

  text-back : sheet_text (sheet_of v) ≡ t
  unfolding text_of
  text-back = sym (text_same l times G (decode (pack G)) (decode-pack G packable)) ∙ family-text

-- The two-way rule, for both levels: reading gives a sheet exactly on its text, and only sheets that have one.
pub text-read : (x : Sheet) → Writable x → sheet_in (sheet_text x) ≡ Ok x
text-read x w =
    text-said x.level w.low w.high x.bytes w.valid x.seconds w.times
    ∙ ap (λ (k : List ℕ). Ok (record { level = x.level; bytes = x.bytes; seconds = k })) (take_all (timed x.level (letter_count x.bytes)) x.seconds (omega (arith, w.exact)))

pub read-text : (t : List ℕ) (x : Sheet) → sheet_in t ≡ Ok x → Writable x × (sheet_text x ≡ t)
unfolding sheet_in
read-text t x e =
    let v = mapped-given sheet_of (numbers_of t) e in
    subst (λ (y : Sheet). Writable y × (sheet_text y ≡ t)) v.2 (writable t v.0 v.1, text-back t v.0 v.1)

pub text-once : (x y : Sheet) → Writable x → Writable y → sheet_text x ≡ sheet_text y → x ≡ y
text-once x y v w e = given-was (sym (text-read x v) ∙ (ap sheet_in e ∙ text-read y w))

-- The same of the two calls. What was written is read: 21 where a slice is too short, else the level, the sheet, and the seconds of the letters.
module _ (level : ℕ) (w b : List ℕ) (room : ℕ) (e : write_fault level w b room ≡ sound) where
  abbrev sheet : Sheet
  sheet = record { level = level; bytes = b; seconds = take (timed level (letter_count b)) w }

  good-level : (3 ≤ level) × (level < 5)
  unfolding write_fault
  good-level = inside 3 5 level (when-sound (outside 3 5 level) UnknownLevel First 0 (then-left (when (outside 3 5 level) UnknownLevel First 0) _ e))

  after-level : sheet_fault First b then times_fault level w b room ≡ sound
  unfolding write_fault
  after-level = then-right (when (outside 3 5 level) UnknownLevel First 0) (sheet_fault First b then times_fault level w b room) e

  times-good : TimesFit (timed level (letter_count b)) w
  times-good =
      seconds-fit (timed level (letter_count b)) w
      (then-left (seconds_fault (timed level (letter_count b)) w) (out_fault (text_of level w b) room) (then-right (sheet_fault First b) (times_fault level w b room) after-level))

  pub written-said : sheet_in (text_of level w b) ≡ Ok sheet
  written-said = text-said level good-level.0 good-level.1 b (sound-valid First b (then-left (sheet_fault First b) (times_fault level w b room) after-level)) w times-good

  pub written_read : (out cells : ℕ) → read_fault (sheet_in (text_of level w b)) out cells ≡ room_fault sheet out cells
  written_read out cells = ap (λ (x : Result Sheet Refusal). read_fault x out cells) written-said

-- Of the seconds a text has the cells of the letters that have some, and no others are judged.
module _ (level : ℕ) (b w u : List ℕ) where
  abbrev n : ℕ
  n = timed level (letter_count b)

  same-cell : take n w ≡ take n u → (a : ℕ) → a < n → get_or w a 0 ≡ get_or u a 0
  same-cell e a h = sym (get_or-take n w a 0 h) ∙ (ap (λ (k : List ℕ). get_or k a 0) e ∙ get_or-take n u a 0 h)

  same_rows : take n w ≡ take n u → seconds_of level (letter_count b) w ≡ seconds_of level (letter_count b) u
  unfolding seconds_of
  same_rows e = rows_same n (seconds_values w) (seconds_values u) (λ a h. ap (λ (x : ℕ). a ∷ x ∷ []) (same-cell e a h))

  pub text-cells : take n w ≡ take n u → text_of level w b ≡ text_of level u b
  unfolding text_of
  text-cells e = λ i.
      printed counts_format (counts_of level (decode b))
      ++ (printed (seconds_format level (letter_count b)) (same_rows e i)
      ++ (printed (leading_format (letter_count b) (decode b).states) (leading_of (decode b)) ++ printed (parts_format (front_of level (decode b))) (parts_of (decode b))))

  times-cells : take n w ≡ take n u → n ≤ length w → TimesFit n u → TimesFit n w
  times-cells e h t = record {
    many = h;
    good = λ a l. subst (λ (x : ℕ). (1 ≤ x) × (x < 1000)) (sym (same-cell e a l)) (t.good a l);
  }

-- At level three the seconds are neither judged nor written, nor said.
none-fit : (w : List ℕ) → TimesFit 0 w
none-fit w = record { many = omega arith; good = λ a h. absurd (omega arith) }

pub three-written : (w u b : List ℕ) → text_of 3 w b ≡ text_of 3 u b
unfolding timed
three-written w u b = text-cells 3 b w u refl

pub three-judged : (w u b : List ℕ) (room : ℕ) → write_fault 3 w b room ≡ write_fault 3 u b room
unfolding write_fault timed
three-judged w u b room =
    ap₂ (λ (x y : Fault). sheet_fault First b then (x then y)) (fit-seconds 0 w (none-fit w) ∙ sym (fit-seconds 0 u (none-fit u)))
    (ap (λ (k : List ℕ). out_fault k room) (three-written w u b))

pub three_said : (x : Sheet) → Writable x → x.level ≡ 3 → length x.seconds ≡ 0
unfolding timed
three_said x w e = w.exact ∙ ap (λ (l : ℕ). timed l (letter_count x.bytes)) e

-- What was read is written, to the same text, with its seconds at the start of a slice of any length: only the out slice may be too short.
module _ (t : List ℕ) (e : fault_in (sheet_in t) ≡ sound) where
  abbrev x : Sheet
  x = said (sheet_in t)

  found : Writable x × (sheet_text x ≡ t)
  found =
      let y = sound-given (sheet_in t) e in
      subst (λ (z : Sheet). Writable z × (sheet_text z ≡ t)) (sym (ap said y.1)) (read-text t y.0 y.1)

  pub read-writable : Writable x
  read-writable = found.0

  module _ (w : List ℕ) (h : take (length x.seconds) w ≡ x.seconds) where
    abbrev many : ℕ
    many = timed x.level (letter_count x.bytes)

    same : take many w ≡ take many x.seconds
    same =
        ap (λ (k : ℕ). take k w) (sym read-writable.exact)
        ∙ (h ∙ sym (take_all many x.seconds (omega (arith, read-writable.exact))))

    pub read_back : text_of x.level w x.bytes ≡ t
    read_back = text-cells x.level x.bytes w x.seconds same ∙ found.1

    pub read-written : (room : ℕ) → write_fault x.level w x.bytes room ≡ out_fault t room
    unfolding write_fault
    read-written room =
        let r = read-writable in
        let long : many ≤ length w = omega (arith, ap length h, length-take (length x.seconds) w, r.exact) in
        passed _ (when-passes UnknownLevel First 0 (not-outside 3 5 x.level r.low r.high))
        ∙ (passed _ (valid-sound First x.bytes r.valid)
        ∙ (passed _ (fit-seconds many w (times-cells x.level x.bytes w x.seconds same long r.times)) ∙ ap (λ (k : List ℕ). out_fault k room) read_back))
