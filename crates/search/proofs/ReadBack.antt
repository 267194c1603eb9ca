-- Reading a code's word off the cells: what the loops of `depth` and `fill` keep. Assumes nothing.
use mathlib.Core.Path.{◌≡◌, refl, ap, ap₂, sym, subst, ◌∙◌}
use mathlib.Core.List.{List, [], ◌∷◌, ◌++◌, append-nil, append_assoc}
use Prim.Native.Nat.{ℕ, zero, suc, ◌+◌, ◌-◌, ◌≤◌, ◌<◌}
use native.Mathlib.Omega.{arith}
use native.Mathlib.Nat.{not-suc-le-zero}
use lib.ListN.{length, set, take, drop, length-set, drop_of_length-le, take-append-drop}
use lib.Seq.{length-take-le, take-set-lt, drop-set-lt, drop-cons, get_or-set_same}
use Rattle.slices.specs.Filling.{written}
use Rattle.search.proofs.Letters.{length-letters}
use Rattle.search.specs.Words.{Word, ε, ◌·◌, size, letters}
use Rattle.search.specs.Queue.{letter_at, parent_at}
use Rattle.search.specs.Paths.{Path, at_root, at_step, Readable, Deep, Filled}

-- the last letter of a code's word, and its parent's word
pub record Back (cells : List ℕ) (i c : ℕ) (w : Word) : Type 0 where
  pub front : Word
  pub word : w ≡ front · letter_at cells i
  pub path : Path cells (parent_at cells i) front
  pub below : parent_at cells i < c

back : {cells : List ℕ} {c : ℕ} {w : Word} → Path cells c w → 0 < c → Back cells (c - 1) c w
back at_root h = absurd (not-suc-le-zero h)
back {cells} (at_step {i = i} {a = a} {w = w} o e l r) h =
    let j : i ≡ suc i - 1 = omega arith in
    subst (λ (m : ℕ). Back cells m (suc i) (w · a)) j
    (record { front = w; word = ap (λ (x : ℕ). w · x) l; path = subst (λ (x : ℕ). Path cells x w) e r; below = omega (arith, e) })

root-word : {cells : List ℕ} {c : ℕ} {w : Word} → Path cells c w → c ≡ 0 → size w ≡ 0
root-word at_root e = refl
root-word (at_step o e l r) z = absurd (omega arith)

pub record Counting (cells : List ℕ) (code c d : ℕ) : Type 0 where
  pub word : Word
  pub path : Path cells code word
  pub rest : Word
  pub on : Path cells c rest
  pub sum : size rest + d ≡ size word
  pub within : c + d ≤ code
  pub inside : code ≤ length cells

pub counting-start : {cells : List ℕ} {code : ℕ} → Readable cells code → Counting cells code code 0
counting-start R = record { word = R.word; path = R.path; rest = R.word; on = R.path; sum = omega arith; within = omega arith; inside = R.inside }

pub counting_more : {cells : List ℕ} {code c d : ℕ} → Counting cells code c d → 0 < c → Counting cells code (parent_at cells (c - 1)) (d + 1)
counting_more C h =
    let b = back C.on h in
    record { word = C.word; path = C.path; rest = b.front; on = b.path; sum = omega (arith, ap size b.word, C.sum); within = omega (arith, b.below, C.within); inside = C.inside }

pub counting-less : {cells : List ℕ} {code c d : ℕ} → Counting cells code c d → 0 < c → parent_at cells (c - 1) < c
counting-less C h = (back C.on h).below

pub counting-end : {cells : List ℕ} {code c d : ℕ} → Counting cells code c d → c ≤ 0 → Deep cells code d
counting-end C h =
    let z = root-word C.on (omega arith) in
    record { word = C.word; path = C.path; deep = omega (arith, C.sum); most = omega (arith, C.within) }

pub record Filling (cells : List ℕ) (code len : ℕ) (old out : List ℕ) (c at : ℕ) : Type 0 where
  pub kept : drop len out ≡ drop len old
  pub word : Word
  pub path : Path cells code word
  pub long : size word ≡ len
  pub rest : Word
  pub on : Path cells c rest
  pub sum : size rest ≡ at
  pub tail : letters word ≡ letters rest ++ drop at (take len out)
  pub upto : at ≤ len
  pub room : len ≤ length out
  pub within : c ≤ code
  pub inside : code ≤ length cells

pub filling-start : {cells : List ℕ} {code len : ℕ} (out : List ℕ) → Deep cells code len → code ≤ length cells → len ≤ length out → Filling cells code len out out code len
filling-start {len = len} out D h g = record {
  kept = refl;
  word = D.word;
  path = D.path;
  long = D.deep;
  rest = D.word;
  on = D.path;
  sum = D.deep;
  tail = sym (ap (λ (l : List ℕ). letters D.word ++ l) (drop_of_length-le (take len out) {i = len} (rw (length-take-le len out g) (omega arith))) ∙ append-nil (letters D.word));
  upto = omega arith;
  room = g;
  within = omega arith;
  inside = h;
}

store : (len m : ℕ) (out : List ℕ) (a : ℕ) → m < len → len ≤ length out → drop m (take len (set out m a)) ≡ a ∷ drop (suc m) (take len out)
store len m out a h g =
    let l = take len out in
    let n : m < length l = rw (length-take-le len out g) h in
    let n' : m < length (set l m a) = rw (length-set l m a) n in
    rw (take-set-lt len out m a h)
    (drop-cons (set l m a) m 0 n' ∙ rw (get_or-set_same l m a 0 n, drop-set-lt (suc m) l m a (omega arith)))

module _ {cells : List ℕ} {code len : ℕ} {old out : List ℕ} {c at : ℕ} (G : Filling cells code len old out c at) where
  pub filling-at : 0 < at → 0 < c
  filling-at h = by c refl
    where
      by : (b : ℕ) → c ≡ b → 0 < c
      by zero e = absurd (omega (arith, root-word G.on e, G.sum))
      by (suc b) e = omega arith

  pub filling-more : 0 < at → Filling cells code len old (set out (at - 1) (letter_at cells (c - 1))) (parent_at cells (c - 1)) (at - 1)
  filling-more h =
      let b = back G.on (filling-at h) in
      let a = letter_at cells (c - 1) in
      let s : size b.front ≡ at - 1 = omega (arith, ap size b.word, G.sum) in
      let m : suc (at - 1) ≡ at = omega arith in
      record {
        kept = drop-set-lt len out (at - 1) a (omega (arith, G.upto)) ∙ G.kept;
        word = G.word;
        path = G.path;
        long = G.long;
        rest = b.front;
        on = b.path;
        sum = s;
        tail = G.tail ∙ (ap (λ (w : Word). letters w ++ drop at (take len out)) b.word
            ∙ (append_assoc (letters b.front) (a ∷ []) (drop at (take len out))
            ∙ ap (λ (l : List ℕ). letters b.front ++ l) (ap (λ (i : ℕ). a ∷ drop i (take len out)) (sym m) ∙ sym (store len (at - 1) out a (omega (arith, G.upto)) G.room))));
        upto = omega (arith, G.upto);
        room = rw (length-set out (at - 1) a) G.room;
        within = omega (arith, b.below, G.within);
        inside = G.inside;
      }

  pub filling-end : at ≤ 0 → Filled cells code len old out
  unfolding written
  filling-end h = record {
    word = G.word;
    path = G.path;
    deep = G.long;
    holds = sym (take-append-drop len out) ∙ ap₂ ◌++◌ reads (G.kept ∙ ap (λ (i : ℕ). drop i old) (sym (length-letters G.word ∙ G.long)));
  }
    where
      z : at ≡ 0
      z = omega arith

      empty : (w : Word) → size w ≡ 0 → w ≡ ε
      empty ε e = refl
      empty (w · a) e = absurd (omega arith)

      reads : take len out ≡ letters G.word
      reads = sym (G.tail ∙ (ap (λ (w : Word). letters w ++ drop at (take len out)) (empty G.rest (G.sum ∙ z)) ∙ ap (λ (i : ℕ). drop i (take len out)) z))

-- a code has one word
pub path-one : {cells : List ℕ} {c : ℕ} {v w : Word} → Path cells c v → Path cells c w → v ≡ w
path-one at_root at_root = refl
path-one {cells} (at_step {w = v} o e l r) (at_step {w = w} o' e' l' r') = ap₂ ◌·◌ (path-one r (subst (λ (x : ℕ). Path cells x w) (e' ∙ sym e) r')) (l ∙ sym l')
