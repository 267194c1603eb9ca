-- What a search that is started knows, and what a code's expansion begins and ends with. Assumes nothing.
use mathlib.Core.Path.{◌≡◌, refl, ap, sym, ◌∙◌}
use mathlib.Core.List.{List}
use Prim.Native.Nat.{ℕ, ◌+◌, ◌-◌, ◌/◌, ◌≤◌, ◌<◌}
use native.Mathlib.Omega.{arith}
use native.Mathlib.Numerals.{lt-add-one}
use lib.ListN.{length, get_or, set}
use Rattle.search.specs.Words.{ε, short, front}
use Rattle.search.specs.Queue.{entry, met}
use Rattle.search.specs.Search.{Space, reach, Bounded, Search, Ends}
use Rattle.search.proofs.Shortlex.{⊏-trans}
use Rattle.search.proofs.Status.{met-most}
use Rattle.search.proofs.Steps.{step-on, step-ends}

-- a search where nothing is expanded
pub init : (P : Space) {status cells : List ℕ} → P.root < P.states → length status ≡ P.states → P.states + P.lo ≤ length cells → P.lo ≤ 1 → met status + P.lo ≡ 1
    → ((x : ℕ) → x < P.states → get_or status x 0 ≡ 0 → (P.lo ≡ 0) × (x ≡ P.root)) → (P.lo ≡ 0 → (get_or status P.root 0 ≡ 0) × (P.fresh P.root ≡ 1))
    → ((x : ℕ) → x < P.states → (get_or status x 0 ≡ 0 → ⊥) → get_or status x 0 ≡ P.fresh x) → Search P status cells 1 0 0
init P h size room low count status lit kept = record {
  W = λ j. ε;
  start = refl;
  size = size;
  room = room;
  some = omega arith;
  upto = omega arith;
  counted = count;
  over = λ j g. tt;
  inside = λ j g. h;
  rising = λ i j l g. absurd (omega arith);
  fence = λ j l g. short;
  closed = λ c a ct al g. absurd (omega arith);
  by = λ x i on. let m = status x i on in (0, omega (arith, m.0), omega arith, sym m.1);
  lit = λ j l g. (lit (omega arith)).0;
  kept = kept;
  calm = λ j l g. (lit (omega arith)).1;
  entries = λ i g. absurd (omega arith);
}

pub codes-few : {P : Space} {status cells : List ℕ} {total head b : ℕ} → Search P status cells total head b → total ≤ P.states + P.lo
codes-few {status = status} S = omega (arith, S.counted, S.size, met-most status)

-- the code `head`, whose state is x, is expanded by the letters below a
pub record Expanding (P : Space) (status cells : List ℕ) (total head a x : ℕ) : Type 0 where
  pub search : Search P status cells total head a
  pub state : reach P (search.W head) ≡ x
  pub going : head < total
  pub within : a ≤ P.letters

module _ {P : Space} (B : Bounded P) {status cells : List ℕ} {total head a x : ℕ} (E : Expanding P status cells total head a x) where
  pub expanding-in : x < P.states
  expanding-in = rw (← E.state) (E.search.inside head E.going)

  -- the tail of the queue lies within the cells
  pub expanding-room : total ≤ length cells
  expanding-room = omega (arith, codes-few E.search, E.search.room)

  pub expanding-on : {y : ℕ} → a < P.letters → P.step x a ≡ y → (get_or status y 0 ≡ 2 → ⊥)
      → Expanding P (set status y 0) (set cells (total - 1) (entry y (y / P.width) a head)) (total + get_or status y 0) head (a + 1) x
  expanding-on l e m =
      let s = step-on B E.search E.going l (ap (λ (z : ℕ). P.step z a) E.state ∙ e) m in
      record { search = s.now; state = ap (reach P) s.keeps ∙ E.state; going = omega (arith, E.going); within = omega arith }

  pub expanding-ends : {y : ℕ} → a < P.letters → P.step x a ≡ y → get_or status y 0 ≡ 2 → Ends P (set cells (total - 1) (entry y (y / P.width) a head)) total
  expanding-ends l e m = step-ends B E.search E.going l (ap (λ (z : ℕ). P.step z a) E.state ∙ e) m

  pub expanding-done : P.letters ≤ a → Search P status cells total (head + 1) 0
  expanding-done l =
      let S = E.search in
      record {
        W = S.W;
        start = S.start;
        size = S.size;
        room = S.room;
        some = S.some;
        upto = omega (arith, E.going);
        counted = S.counted;
        over = S.over;
        inside = S.inside;
        rising = S.rising;
        fence = λ j h g. ⊏-trans (S.fence j h E.going) (front (S.rising head (head + 1) (lt-add-one head) g));
        closed = λ c b ct bs h. S.closed c b ct bs (omega (arith, B.few_letters));
        by = S.by;
        lit = S.lit;
        kept = S.kept;
        calm = S.calm;
        entries = S.entries;
      }
