-- One letter of a breadth-first search: an entry is stored at the tail in any case, the state's status becomes 0, and the tail moves by
-- what it was. Assumes nothing.
use mathlib.Core.Path.{◌≡◌, refl, ap, sym, subst, ◌∙◌}
use mathlib.Core.Bool.{Bool, true, false}
use mathlib.Core.List.{List}
use mathlib.Core.Logic.{◌⊎◌, inl, inr}
use Prim.Native.Nat.{ℕ, zero, suc, ◌+◌, ◌*◌, ◌-◌, ◌/◌, ◌≤◌, ◌<◌}
use native.Mathlib.Omega.{arith}
use native.Mathlib.Decide.{dec_lt, ℕ_discrete}
use native.Mathlib.Nat.{not-suc-le-zero}
use native.Mathlib.Numerals.{lt-add-one}
use lib.Dec.{ltb}
use lib.ListN.{length, get_or, set, length-set}
use lib.Seq.{get_or-set_same, get_or-set_other, set-get_or}
use borrow.Author.Tests.{lt-ltb, le-ltb}
use Rattle.search.specs.Words.{Word, ε, ◌·◌, ◌⊏◌, last, less, Over}
use Rattle.search.specs.Queue.{entry}
use Rattle.search.specs.Paths.{Path, at_root, at_step}
use Rattle.search.specs.Search.{Space, reach, Bounded, Hit, Entry, Search, Ends}
use Rattle.search.proofs.Shortlex.{⊏-trans, ⊑-of-eq}
use Rattle.search.proofs.Status.{met-set, met-most}
use Rattle.search.proofs.Theory.{next-first}

abbrev pick : Bool → Word → Word → Word
pick true v w = v
pick false v w = w

-- a code's word is the one that the cells have
module _ {P : Space} (B : Bounded P) {cells : List ℕ} (W : ℕ → Word) (start : W 0 ≡ ε) (total : ℕ) (over : (j : ℕ) → j < total → Over P.letters (W j))
    (inside : (j : ℕ) → j < total → reach P (W j) < P.states) (entries : (i : ℕ) → suc i < total → Entry P W cells i) where
  pub path-of : (c : ℕ) → c < total → Path cells c (W c)
  path-of c h = go (suc c) c (omega arith) h
    where
      letter : (w v : Word) (a : ℕ) → w ≡ v · a → Over P.letters w → a < P.letters
      letter w v a e o = let o' : Over P.letters (v · a) = subst (Over P.letters) e o in o'.1

      go : (m c : ℕ) → c < m → c < total → Path cells c (W c)
      go zero c g l = absurd (not-suc-le-zero g)
      go (suc m) zero g l = subst (Path cells 0) (sym start) at_root
      go (suc m) (suc i) g l =
          let e = entries i l in
          let x : reach P (W (suc i)) < P.states = inside (suc i) l in
          let y = B.few_rows (reach P (W (suc i))) x in
          let a : e.letter < P.letters = letter (W (suc i)) (W e.parent) e.letter e.word (over (suc i) l) in
          subst (Path cells (suc i)) (sym e.word)
          (at_step e.older (omega (arith, e.stands, B.few_states, B.few_letters)) (omega (arith, e.stands, B.few_states, B.few_letters)) (go m e.parent (omega (arith, e.older)) (omega (arith, e.older))))

-- a search after a step, with the word of the code that is expanded
pub record After (P : Space) (status cells : List ℕ) (total head b : ℕ) (h : Word) : Type 0 where
  pub now : Search P status cells total head b
  pub keeps : now.W head ≡ h

module _ {P : Space} (B : Bounded P) {status cells : List ℕ} {total head b : ℕ} (S : Search P status cells total head b)
    (hd : head < total) (bs : b < P.letters) {x : ℕ} (xe : P.step (reach P (S.W head)) b ≡ x) where
  x_n : x < P.states
  x_n = rw (← xe) (B.closed (reach P (S.W head)) b (S.inside head hd) bs)

  abbrev e : ℕ
  e = entry x (x / P.width) b head

  abbrev cells' : List ℕ
  cells' = set cells (total - 1) e

  pub few : total ≤ P.states + P.lo
  few = omega (arith, S.counted, met-most status, S.size)

  room : total - 1 < length cells
  room = omega (arith, few, S.some, S.room)

  next : (w : Word) → w · b ⊏ w · (b + 1)
  next w = last (lt-add-one b)

  -- a letter is done that was done, or is the one of this step
  split : (c a : ℕ) → a < P.letters → c * 32 + a < head * 32 + (b + 1) → (c * 32 + a < head * 32 + b) ⊎ ((c ≡ head) × (a ≡ b))
  split c a al h = by (dec_lt (c * 32 + a) (head * 32 + b))
    where
      by : Dec (c * 32 + a < head * 32 + b) → (c * 32 + a < head * 32 + b) ⊎ ((c ≡ head) × (a ≡ b))
      by (yes d) = inl d
      by (no d) = inr (omega (arith, B.few_letters), omega (arith, B.few_letters))

  old-entry : (i : ℕ) → suc i < total → get_or cells' i 0 ≡ get_or cells i 0
  old-entry i h = get_or-set_other cells (total - 1) i e 0 (λ d. omega arith)

  -- an entry that is there stays
  keep-entry : {W : ℕ → Word} (i : ℕ) → suc i < total → Entry P W cells i → Entry P W cells' i
  keep-entry i h n = record { parent = n.parent; letter = n.letter; older = n.older; word = n.word; stands = old-entry i h ∙ n.stands }

  -- the state was met before: the entry at the tail is none
  seen : get_or status x 0 ≡ 0 → Search P (set status x 0) cells' total head (b + 1)
  seen on = record {
    W = S.W;
    start = S.start;
    size = rw same-status S.size;
    room = rw (length-set cells (total - 1) e) S.room;
    some = S.some;
    upto = S.upto;
    counted = rw same-status S.counted;
    over = S.over;
    inside = S.inside;
    rising = S.rising;
    fence = λ j h g. ⊏-trans (S.fence j h g) (next (S.W head));
    closed = λ c a ct al h. by c a ct al (split c a al h);
    by = rw same-status S.by;
    lit = rw same-status S.lit;
    kept = rw same-status S.kept;
    calm = S.calm;
    entries = λ i h. keep-entry i h (S.entries i h);
  }
    where
      same-status : set status x 0 ≡ status
      same-status = ap (set status x) (sym on) ∙ set-get_or status x 0

      by : (c a : ℕ) → c < total → a < P.letters → (c * 32 + a < head * 32 + b) ⊎ ((c ≡ head) × (a ≡ b))
          → Hit P P.lo total S.W (P.step (reach P (S.W c)) a) (S.W c · a)
      by c a ct al (inl h) = S.closed c a ct al h
      by c a ct al (inr h) =
          let m = S.by x x_n on in
          let g : Hit P P.lo total S.W (P.step (reach P (S.W head)) b) (S.W head · b)
          = record { at = m.0; from = m.1; below = m.2; state = m.3 ∙ sym xe; early = less (S.fence m.0 m.2 hd) } in
          rw (h.0, h.1) g

  -- the words with one code more
  more : ℕ → Word
  more c = pick (ltb c total) (S.W c) (S.W head · b)

  more-old : (c : ℕ) → c < total → more c ≡ S.W c
  unfolding more
  more-old c h = ap (λ (t : Bool). pick t (S.W c) (S.W head · b)) (lt-ltb c total h)

  more-new : more total ≡ S.W head · b
  unfolding more
  more-new = ap (λ (t : Bool). pick t (S.W total) (S.W head · b)) (le-ltb total total (omega arith))

  new-state : reach P (more total) ≡ x
  new-state = rw more-new xe

  -- each code is one that was there or the new one
  code : (Q : ℕ → Type 0) → ((j : ℕ) → j < total → Q j) → Q total → (j : ℕ) → j < total + 1 → Q j
  code Q a z j h = by (dec_lt j total)
    where
      by : Dec (j < total) → Q j
      by (yes d) = a j d
      by (no d) = subst Q (omega arith) z

  more-over : (j : ℕ) → j < total + 1 → Over P.letters (more j)
  more-over = code (λ j. Over P.letters (more j)) (λ j h. rw (more-old j h) (S.over j h)) (rw more-new (S.over head hd, bs))

  more-inside : (j : ℕ) → j < total + 1 → reach P (more j) < P.states
  more-inside = code (λ j. reach P (more j) < P.states) (λ j h. rw (more-old j h) (S.inside j h)) (rw new-state x_n)

  more-entries : (i : ℕ) → suc i < total + 1 → Entry P more cells' i
  more-entries i h = by (dec_lt (suc i) total)
    where
      by : Dec (suc i < total) → Entry P more cells' i
      by (yes d) =
          let n = S.entries i d in
          record {
            parent = n.parent;
            letter = n.letter;
            older = n.older;
            word = more-old (suc i) d ∙ (n.word ∙ ap (λ (w : Word). w · n.letter) (sym (more-old n.parent (omega (arith, n.older)))));
            stands = old-entry i d ∙ rw (more-old (suc i) d) n.stands;
          }
      by (no d) =
          let t : total ≡ suc i = omega arith in
          let at : i ≡ total - 1 = omega arith in
          record {
            parent = head;
            letter = b;
            older = omega arith;
            word = ap more (sym t) ∙ (more-new ∙ ap (λ (w : Word). w · b) (sym (more-old head hd)));
            stands = ap (λ (k : ℕ). get_or cells' k 0) at
                ∙ (get_or-set_same cells (total - 1) e 0 room ∙ ap (λ (y : ℕ). entry y (y / P.width) b head) (sym new-state ∙ ap (λ (c : ℕ). reach P (more c)) t));
          }

  -- the state was not met: one code more
  module _ (off : get_or status x 0 ≡ P.fresh x) (one : P.fresh x ≡ 1) where
    xin : x < length status
    xin = rw S.size x_n

    raise : {y : ℕ} {w : Word} → Hit P P.lo total S.W y w → Hit P P.lo (total + 1) more y w
    raise h = record { at = h.at; from = h.from; below = omega (arith, h.below); state = rw (more-old h.at h.below) h.state; early = rw (more-old h.at h.below) h.early }

    new-hit : Hit P P.lo (total + 1) more (P.step (reach P (S.W head)) b) (S.W head · b)
    new-hit = record { at = total; from = omega (arith, B.low, S.some); below = omega arith; state = new-state ∙ sym xe; early = ⊑-of-eq more-new }

    new-closed : (c a : ℕ) → c < total → a < P.letters → (c * 32 + a < head * 32 + b) ⊎ ((c ≡ head) × (a ≡ b)) → Hit P P.lo (total + 1) more (P.step (reach P (S.W c)) a) (S.W c · a)
    new-closed c a ct al (inl h) = raise (S.closed c a ct al h)
    new-closed c a ct al (inr h) = rw (h.0, h.1) new-hit

    new_by : (y : ℕ) → y < P.states → get_or (set status x 0) y 0 ≡ 0 → (j : ℕ) × (P.lo ≤ j) × (j < total + 1) × (reach P (more j) ≡ y)
    new_by y h on = by (ℕ_discrete y x)
      where
        by : Dec (y ≡ x) → (j : ℕ) × (P.lo ≤ j) × (j < total + 1) × (reach P (more j) ≡ y)
        by (yes d) = (total, omega (arith, B.low, S.some), omega arith, new-state ∙ sym d)
        by (no d) =
            let m = S.by y h (sym (get_or-set_other status x y 0 0 d) ∙ on) in
            (m.0, m.1, omega (arith, m.2), rw (more-old m.0 m.2) m.3)

    old-lit : (j : ℕ) → j < total → P.lo ≤ j → get_or (set status x 0) (reach P (more j)) 0 ≡ 0
    old-lit j h l =
        rw (more-old j h)
        (get_or-set_other status x (reach P (S.W j)) 0 0 (λ d. omega (arith, sym (ap (λ (y : ℕ). get_or status y 0) d), S.lit j l h, off, one)) ∙ S.lit j l h)

    new-kept : (y : ℕ) → y < P.states → (get_or (set status x 0) y 0 ≡ 0 → ⊥) → get_or (set status x 0) y 0 ≡ P.fresh y
    new-kept y h n = by (ℕ_discrete y x)
      where
        by : Dec (y ≡ x) → get_or (set status x 0) y 0 ≡ P.fresh y
        by (yes d) = absurd (n (ap (λ (z : ℕ). get_or (set status x 0) z 0) d ∙ get_or-set_same status x 0 0 xin))
        by (no d) = let g = get_or-set_other status x y 0 0 d in g ∙ S.kept y h (λ z. n (g ∙ z))

    fresh : Search P (set status x 0) cells' (total + 1) head (b + 1)
    fresh = record {
      W = more;
      start = more-old 0 S.some ∙ S.start;
      size = length-set status x 0 ∙ S.size;
      room = rw (length-set cells (total - 1) e) S.room;
      some = omega arith;
      upto = omega (arith, S.upto);
      counted = omega (arith, met-set status x 0 xin, off, one, S.counted);
      over = more-over;
      inside = more-inside;
      rising = λ i j l h. code (λ j. i < j → more i ⊏ more j)
          (λ j g l. rw (more-old i (omega arith), more-old j g) (S.rising i j l g))
          (λ l. rw (more-old i l, more-new) (S.fence i l hd)) j h l;
      fence = λ j h g. code (λ j. more j ⊏ more head · (b + 1))
          (λ j h. rw (more-old j h, more-old head hd) (⊏-trans (S.fence j h hd) (next (S.W head))))
          (rw (more-new, more-old head hd) (next (S.W head))) j h;
      closed = λ c a ct al h. rw (more-old c (omega arith)) (new-closed c a (omega arith) al (split c a al h));
      by = new_by;
      lit = λ j l h. code (λ j. P.lo ≤ j → get_or (set status x 0) (reach P (more j)) 0 ≡ 0) old-lit (λ l. rw new-state (get_or-set_same status x 0 0 xin)) j h l;
      kept = new-kept;
      calm = λ j l h. code (λ j. P.lo ≤ j → P.fresh (reach P (more j)) ≡ 1) (λ j h l. rw (more-old j h) (S.calm j l h)) (λ l. rw new-state one) j h l;
      entries = more-entries;
    }

  -- the status that was read
  unmet : (get_or status x 0 ≡ 0 → ⊥) → (get_or status x 0 ≡ 2 → ⊥) → P.fresh x ≡ 1
  unmet n m = omega (arith, S.kept x x_n n, B.status x x_n)

  pub step-on : (get_or status x 0 ≡ 2 → ⊥) → After P (set status x 0) cells' (total + get_or status x 0) head (b + 1) (S.W head)
  unfolding seen fresh
  step-on m = by (ℕ_discrete (get_or status x 0) 0)
    where
      moved : {t t' : ℕ} → t ≡ t' → After P (set status x 0) cells' t head (b + 1) (S.W head) → After P (set status x 0) cells' t' head (b + 1) (S.W head)
      moved d A = subst (λ (t : ℕ). After P (set status x 0) cells' t head (b + 1) (S.W head)) d A

      by : Dec (get_or status x 0 ≡ 0) → After P (set status x 0) cells' (total + get_or status x 0) head (b + 1) (S.W head)
      by (yes d) = moved (omega arith) (record { now = seen d; keeps = refl })
      by (no d) = moved (omega (arith, S.kept x x_n d, unmet d m)) (record { now = fresh (S.kept x x_n d) (unmet d m); keeps = more-old head hd })

  pub step-ends : get_or status x 0 ≡ 2 → Ends P cells' total
  step-ends m = record {
    word = S.W head · b;
    path = subst (Path cells' total) more-new (path-of B more (more-old 0 S.some ∙ S.start) (total + 1) more-over more-inside more-entries total (omega arith));
    inside = rw (length-set cells (total - 1) e) (omega (arith, room, S.some));
    over = (S.over head hd, bs);
    some = λ d. nonempty (S.W head) b d;
    ends = rw xe (omega (arith, S.kept x x_n (λ z. omega arith), m));
    least = next-first B S hd;
  }
    where
      data-empty : Word → ℕ
      data-empty ε = 0
      data-empty (w · a) = 1

      nonempty : (w : Word) (a : ℕ) → w · a ≡ ε → ⊥
      nonempty w a d = let z : ◌≡◌ {A = ℕ} 0 1 = cc in omega arith
