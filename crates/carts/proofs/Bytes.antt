-- The bytes of shows are read as those shows, and bytes that are read are those of the shows that were read. Assumes nothing.
use Rattle.std.specs.Prelude.{Ok}
use mathlib.Core.Path.{◌≡◌, refl, ap, ap₂, sym, subst, ◌∙◌}
use mathlib.Core.List.{List, [], ◌∷◌, ◌++◌, append-nil, append_assoc}
use Prim.Native.Nat.{ℕ, zero, suc, ◌+◌, ◌/◌, ◌%◌, ◌≤◌, ◌<◌}
use native.Mathlib.Omega.{arith}
use native.Mathlib.Numerals.{add-one}
use lib.ListN.{length, get_or, take, drop, length-append, drop_of_length-le, take-append-drop}
use lib.Seq.{take_at, drop_at, drop-append-add, get_or-append-add, drop-cons, drop-drop}
use Rattle.slices.specs.Halves.{half_bytes_of}
use Rattle.slices.specs.Refusals.{sound}
use Rattle.slices.specs.Tables.{rows}
use Rattle.slices.proofs.Refusals.{gives, was-given}
use Rattle.fdfa.specs.Family.{Words}
use Rattle.carts.specs.Layout as layout
use Rattle.carts.specs.Layout.{show_bytes, each_show, cart_bytes, ShortParts, Cartable}
use Rattle.carts.specs.Reading.{count_of, length_at, prefix_length, period_length, prefix_at, period_at, end_at, show_at, shows_from, end_from, shows_of}
use Rattle.carts.specs.Faults.{layout_fault, cart_in}
use Rattle.carts.proofs.Onward.{end-rises, count-shows}
use Rattle.carts.proofs.Shows.{part_length}
use Rattle.carts.proofs.Layouts.{layout-byte, layout-count, layout-exact, layout-sound}

-- the header of a show
pub header : (m n : ℕ) → half_bytes_of (m ∷ n ∷ []) ≡ m % 256 ∷ m / 256 ∷ n % 256 ∷ n / 256 ∷ []
unfolding half_bytes_of rows
header m n = refl

show-length : (w : Words) → length (show_bytes w) ≡ 4 + length w.prefix + length w.period
show-length w =
    ap (λ (h : List ℕ). length (h ++ w.prefix ++ w.period)) (header (length w.prefix) (length w.period))
    ∙ omega (arith, length-append (four ++ w.prefix) w.period, length-append four w.prefix)
  where
    four : List ℕ
    four = length w.prefix % 256 ∷ length w.prefix / 256 ∷ length w.period % 256 ∷ length w.period / 256 ∷ []

-- a show that stands between other bytes
module _ (front : List ℕ) (w : Words) (rest : List ℕ) (few : length w.prefix < 65536) (few' : length w.period < 65536) where
  abbrev u : List ℕ
  u = w.prefix

  abbrev v : List ℕ
  v = w.period

  abbrev whole : List ℕ
  whole = front ++ (show_bytes w ++ rest)

  abbrev behind : List ℕ
  behind = length u % 256 ∷ length u / 256 ∷ length v % 256 ∷ length v / 256 ∷ (u ++ (v ++ rest))

  laid : show_bytes w ++ rest ≡ behind
  laid =
      ap (λ (h : List ℕ). h ++ u ++ v ++ rest) (header (length u) (length v))
      ∙ (append_assoc (length u % 256 ∷ length u / 256 ∷ length v % 256 ∷ length v / 256 ∷ u) v rest ∙ refl)

  byte_at : (k : ℕ) → get_or whole (length front + k) 0 ≡ get_or behind k 0
  byte_at k = ap (λ (l : List ℕ). get_or (front ++ l) (length front + k) 0) laid ∙ get_or-append-add front behind k 0

  from : (k : ℕ) → drop (length front + k) whole ≡ drop k behind
  from k = ap (λ (l : List ℕ). drop (length front + k) (front ++ l)) laid ∙ drop-append-add front behind k

  pub prefix-length : prefix_length whole (length front) ≡ length u
  prefix-length =
      let low : get_or whole (length front) 0 ≡ length u % 256 = ap (λ (k : ℕ). get_or whole k 0) (omega arith) ∙ byte_at 0 in
      let high : get_or whole (length front + 1) 0 ≡ length u / 256 = byte_at 1 in
      omega arith

  period-length : period_length whole (length front) ≡ length v
  period-length =
      let low : get_or whole (length front + 2) 0 ≡ length v % 256 = byte_at 2 in
      let high : get_or whole (length front + 2 + 1) 0 ≡ length v / 256 = ap (λ (k : ℕ). get_or whole k 0) (omega arith) ∙ byte_at 3 in
      omega arith

  pub end_is : end_at whole (length front) ≡ length (front ++ show_bytes w)
  end_is = omega (arith, prefix-length, period-length, length-append front (show_bytes w), show-length w)

  pub show-is : show_at whole (length front) ≡ w
  show-is = λ i. record { prefix = prefix_is i; period = period_is i }
    where
      prefix_is : take (prefix_length whole (length front)) (drop (prefix_at (length front)) whole) ≡ u
      prefix_is = ap₂ take prefix-length (from 4) ∙ take_at u (v ++ rest) (length u) refl

      period_is : take (period_length whole (length front)) (drop (period_at whole (length front)) whole) ≡ v
      period_is =
          ap₂ take period-length (ap (λ (k : ℕ). drop k whole) begins ∙ (from (4 + length u) ∙ drop_at behind-four (v ++ rest) (4 + length u) (omega arith)))
          ∙ take_at v rest (length v) refl
        where
          begins : period_at whole (length front) ≡ length front + (4 + length u)
          begins = omega (arith, prefix-length)

          behind-four : List ℕ
          behind-four = length u % 256 ∷ length u / 256 ∷ length v % 256 ∷ length v / 256 ∷ u

-- shows, one after the other, between other bytes
abbrev Shown : List Words → List ℕ → List ℕ → Type 0
Shown ws front rest =
    (shows_from (front ++ (each_show ws ++ rest)) (length front) (length ws) ≡ ws) × (end_from (front ++ (each_show ws ++ rest)) (length front) (length ws) ≡ length (front ++ each_show ws))

shown-more : (w : Words) (ws : List Words) (front rest : List ℕ) → length w.prefix < 65536 → length w.period < 65536 → Shown ws (front ++ show_bytes w) rest → Shown (w ∷ ws) front rest
unfolding shows_from end_from each_show
shown-more w ws front rest p q ih = (
  (λ i. show_at (near i) (length front) ∷ shows_from (near i) (end_at (near i) (length front)) (length ws))
      ∙ ((λ i. show-is front w more p q i ∷ shows_from (apart i) (end_is front w more p q i) (length ws)) ∙ ap (λ (l : List Words). w ∷ l) ih.0),
  (λ i. end_from (near i) (end_at (near i) (length front)) (length ws))
      ∙ ((λ i. end_from (apart i) (end_is front w more p q i) (length ws)) ∙ (ih.1 ∙ ap length (append_assoc front (show_bytes w) (each_show ws)))),
)
  where
    more : List ℕ
    more = each_show ws ++ rest

    near : front ++ ((show_bytes w ++ each_show ws) ++ rest) ≡ front ++ (show_bytes w ++ more)
    near = ap (λ (l : List ℕ). front ++ l) (append_assoc (show_bytes w) (each_show ws) rest)

    apart : front ++ (show_bytes w ++ more) ≡ (front ++ show_bytes w) ++ more
    apart = sym (append_assoc front (show_bytes w) more)

pub bytes-shows : (ws : List Words) → ShortParts ws → (front rest : List ℕ) → Shown ws front rest
unfolding shows_from end_from each_show
bytes-shows [] s front rest = (refl, ap length (sym (append-nil front)))
bytes-shows (w ∷ ws) (layout.ShortParts.more p q s) front rest = shown-more w ws front rest p q (bytes-shows ws s (front ++ show_bytes w) rest)

whole-shown : (ws : List Words) → ShortParts ws → (shows_from (cart_bytes ws) 1 (length ws) ≡ ws) × (end_from (cart_bytes ws) 1 (length ws) ≡ length (cart_bytes ws))
whole-shown ws s =
    subst (λ (l : List ℕ). (shows_from (length ws ∷ l) 1 (length ws) ≡ ws) × (end_from (length ws ∷ l) 1 (length ws) ≡ length (cart_bytes ws))) (append-nil (each_show ws))
    (bytes-shows ws s (length ws ∷ []) [])

-- The cart of shows is read as these shows.
pub bytes-sound : (ws : List Words) → Cartable ws → layout_fault (cart_bytes ws) ≡ sound
bytes-sound ws f = layout-sound (cart_bytes ws) (λ e. omega arith) f.some f.few (whole-shown ws f.parts).1

pub bytes-shown : (ws : List Words) → Cartable ws → shows_of (cart_bytes ws) ≡ ws
bytes-shown ws f = (whole-shown ws f.parts).0

pub bytes_read : (ws : List Words) → Cartable ws → cart_in (cart_bytes ws) ≡ Ok ws
bytes_read ws f = sym (gives (shows_of (cart_bytes ws)) (bytes-sound ws f)) ∙ ap Ok (bytes-shown ws f)

-- bytes that are read
module _ (b : List ℕ) (small : (i : ℕ) → i < length b → get_or b i 0 < 256) where
  next-byte : (at : ℕ) → at < length b → drop at b ≡ get_or b at 0 ∷ drop (at + 1) b
  next-byte at h = drop-cons b at 0 h ∙ ap (λ (k : ℕ). get_or b at 0 ∷ drop k b) (sym (add-one at))

  next-part : (o m : ℕ) → take m (drop o b) ++ drop (o + m) b ≡ drop o b
  next-part o m = ap (λ (l : List ℕ). take m (drop o b) ++ l) (sym (drop-drop m o b)) ∙ take-append-drop m (drop o b)

  -- the show at a place, within the cart
  module _ (at : ℕ) (within : end_at b at ≤ length b) where
    prefix-short : length (show_at b at).prefix ≡ prefix_length b at
    prefix-short = part_length b (prefix_at at) (prefix_length b at) (omega arith)

    period-short : length (show_at b at).period ≡ period_length b at
    period-short = part_length b (period_at b at) (period_length b at) within

    low : (i : ℕ) → i + 1 < length b → (length_at b i % 256 ≡ get_or b i 0) × (length_at b i / 256 ≡ get_or b (i + 1) 0) × (length_at b i < 65536)
    low i h =
        let l : get_or b i 0 < 256 = small i (omega arith) in
        let u : get_or b (i + 1) 0 < 256 = small (i + 1) h in
        (omega arith, omega arith, omega arith)

    header_is : half_bytes_of (length (show_at b at).prefix ∷ length (show_at b at).period ∷ []) ++ drop (at + 4) b ≡ drop at b
    header_is =
        (λ i. header (prefix-short i) (period-short i) i ++ drop (at + 4) b)
        ∙ ((λ i. p.0 i ∷ p.1 i ∷ q.0 i ∷ q.1 i ∷ drop (at + 4) b) ∙ sym four)
      where
        p : (length_at b at % 256 ≡ get_or b at 0) × (length_at b at / 256 ≡ get_or b (at + 1) 0) × (length_at b at < 65536)
        p = low at (omega arith)

        q : (length_at b (at + 2) % 256 ≡ get_or b (at + 2) 0) × (length_at b (at + 2) / 256 ≡ get_or b (at + 2 + 1) 0) × (length_at b (at + 2) < 65536)
        q = low (at + 2) (omega arith)

        step : (k : ℕ) → k < 4 → drop (at + k) b ≡ get_or b (at + k) 0 ∷ drop (at + (k + 1)) b
        step k h = next-byte (at + k) (omega arith) ∙ ap (λ (n : ℕ). get_or b (at + k) 0 ∷ drop n b) after
          where
            after : at + k + 1 ≡ at + (k + 1)
            after = omega arith

        third : at + (2 + 1) ≡ at + 2 + 1
        third = omega arith

        four : drop at b ≡ get_or b at 0 ∷ get_or b (at + 1) 0 ∷ get_or b (at + 2) 0 ∷ get_or b (at + 2 + 1) 0 ∷ drop (at + 4) b
        four =
            next-byte at (omega arith)
            ∙ ap (λ (l : List ℕ). get_or b at 0 ∷ l)
            (step 1 (omega arith)
            ∙ ap (λ (l : List ℕ). get_or b (at + 1) 0 ∷ l)
            (step 2 (omega arith)
            ∙ ap (λ (l : List ℕ). get_or b (at + 2) 0 ∷ l)
            (step 3 (omega arith) ∙ ap (λ (k : ℕ). get_or b k 0 ∷ drop (at + 4) b) third)))

    show-bytes : show_bytes (show_at b at) ++ drop (end_at b at) b ≡ drop at b
    show-bytes =
        append_assoc (h ++ (show_at b at).prefix) (show_at b at).period (drop (end_at b at) b)
        ∙ (ap (λ (l : List ℕ). h ++ (show_at b at).prefix ++ l) (next-part (period_at b at) (period_length b at))
        ∙ (append_assoc h (show_at b at).prefix (drop (period_at b at) b)
        ∙ (ap (λ (l : List ℕ). h ++ l) (next-part (prefix_at at) (prefix_length b at)) ∙ header_is)))
      where
        h : List ℕ
        h = half_bytes_of (length (show_at b at).prefix ∷ length (show_at b at).period ∷ [])

  -- so many shows from a place on
  shows-bytes : (c at : ℕ) → at ≤ length b → end_from b at c ≡ length b → (each_show (shows_from b at c) ≡ drop at b) × ShortParts (shows_from b at c)
  unfolding shows_from end_from each_show
  shows-bytes zero at h e = (sym (drop_of_length-le b {i = at} (omega (arith, e))), layout.ShortParts.done)
  shows-bytes (suc c) at h e =
      let within : end_at b at ≤ length b = omega (arith, e, end-rises b (end_at b at) c) in
      let ih = shows-bytes c (end_at b at) within e in (
        ap (λ (l : List ℕ). show_bytes (show_at b at) ++ l) ih.0 ∙ show-bytes at within,
        layout.ShortParts.more {w = show_at b at} (omega (arith, prefix-short at within, (low at within at (omega arith)).2)) (omega (arith, period-short at within, (low at within (at + 2) (omega arith)).2)) ih.1,
      )

  -- Only the carts of shows are read, each as those shows.
  pub read-bytes : (ws : List Words) → cart_in b ≡ Ok ws → Cartable ws × (b ≡ cart_bytes ws)
  read-bytes ws e =
      subst (λ (l : List Words). Cartable l × (b ≡ cart_bytes l)) (sym g.1) (
        record {
          some = omega (arith, (layout-count b fine).0, count);
          few = omega (arith, (layout-count b fine).1, count);
          parts = read.1;
        },
        next-byte 0 byte ∙ (λ i. sym count i ∷ sym read.0 i),
      )
    where
      g : (layout_fault b ≡ sound) × (ws ≡ shows_of b)
      g = was-given (layout_fault b) (shows_of b) (sym e)

      fine : layout_fault b ≡ sound
      fine = g.0

      byte : 0 < length b
      byte = omega (arith, layout-byte b fine)

      count : length (shows_of b) ≡ count_of b
      count = count-shows b 1 (count_of b)

      read : (each_show (shows_of b) ≡ drop 1 b) × ShortParts (shows_of b)
      read = shows-bytes (count_of b) 1 (omega (arith, byte)) (layout-exact b fine)
