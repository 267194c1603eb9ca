-- One text more at the end of a list: what is refused first, and the cart. Assumes nothing.
use mathlib.Core.Path.{◌≡◌, refl, ap, sym, ◌∙◌}
use mathlib.Core.List.{List, [], ◌∷◌, ◌++◌, append_assoc}
use Prim.Native.Nat.{ℕ, suc, ◌+◌, ◌≤◌}
use native.Mathlib.Omega.{arith}
use lib.ListN.{length, take, drop, set, length-append}
use lib.Seq.{sets, sets-eq, take_at, take-set-lt, length-take-le}
use Rattle.slices.specs.Refusals.{Fault, sound, fault, ◌then◌}
use Rattle.fdfa.specs.Family.{Words}
use Rattle.lasso_text.specs.Reading.{words_in}
use Rattle.show_files.specs.Shown.{shown}
use Rattle.carts.specs.Layout.{show_bytes, each_show}
use Rattle.cart_files.specs.Decided.{first_fault, show_of, shows_in, cart_of}

pub then-sound : (f : Fault) → f then sound ≡ f
then-sound sound = refl
then-sound (fault r) = refl

then-then : (f g h : Fault) → f then (g then h) ≡ (f then g) then h
then-then sound g h = refl
then-then (fault r) g h = refl

pub fault-more : (test : List ℕ → Fault) (ts : List (List ℕ)) (t : List ℕ) → first_fault test (ts ++ (t ∷ [])) ≡ first_fault test ts then test t
unfolding first_fault
fault-more test [] t = then-sound (test t)
fault-more test (x ∷ ts) t = ap (λ (f : Fault). test x then f) (fault-more test ts t) ∙ then-then (test x) (first_fault test ts) (test t)

shows_more : (ts : List (List ℕ)) (t : List ℕ) → shows_in (ts ++ (t ∷ [])) ≡ shows_in ts ++ (words_in (shown t) ∷ [])
unfolding shows_in
shows_more [] t = refl
shows_more (x ∷ ts) t = ap (λ (ws : List Words). words_in (shown x) ∷ ws) (shows_more ts t)

each_more : (ws : List Words) (w : Words) → each_show (ws ++ (w ∷ [])) ≡ each_show ws ++ show_bytes w
unfolding each_show
each_more [] w = append-nil (show_bytes w)
  where
    append-nil : (x : List ℕ) → x ++ [] ≡ x
    append-nil [] = refl
    append-nil (c ∷ x) = ap (λ (y : List ℕ). c ∷ y) (append-nil x)
each_more (x ∷ ws) w = ap (λ (y : List ℕ). show_bytes x ++ y) (each_more ws w) ∙ sym (append_assoc (show_bytes x) (each_show ws) (show_bytes w))

pub shows-count : (ts : List (List ℕ)) → length (shows_in ts) ≡ length ts
unfolding shows_in
shows-count [] = refl
shows-count (t ∷ ts) = ap suc (shows-count ts)

pub count-more : (ts : List (List ℕ)) (t : List ℕ) → length (ts ++ (t ∷ [])) ≡ length ts + 1
count-more ts t = length-append ts (t ∷ [])

pub cart-more : (ts : List (List ℕ)) (t : List ℕ) {n : ℕ} → n ≡ length ts + 1 → cart_of (ts ++ (t ∷ [])) ≡ n ∷ (each_show (shows_in ts) ++ show_of t)
cart-more ts t e =
    let c : length (shows_in (ts ++ (t ∷ []))) ≡ _ = shows-count (ts ++ (t ∷ [])) ∙ (count-more ts t ∙ sym e) in
    λ i. c i ∷ (ap each_show (shows_more ts t) ∙ each_more (shows_in ts) (words_in (shown t))) i

-- the show lies behind the cart, and the count is raised
pub raised : (cart x body : List ℕ) (n c v : ℕ) → take n cart ≡ c ∷ body → n + length x ≤ length cart → 1 ≤ n
    → take (n + length x) (set (sets cart n x) 0 v) ≡ v ∷ (body ++ x)
raised cart x body n c v e h l =
    take-set-lt (n + length x) (sets cart n x) 0 v (omega arith)
    ∙ ap (λ (y : List ℕ). set y 0 v)
    (ap (take (n + length x)) (sets-eq x cart n h)
    ∙ (take_at (take n cart ++ x) (drop (n + length x) cart) (n + length x) seam ∙ ap (λ (y : List ℕ). y ++ x) e))
  where
    seam : length (take n cart ++ x) ≡ n + length x
    seam = length-append (take n cart) x ∙ ap (λ (k : ℕ). k + length x) (length-take-le n cart (omega arith))
