-- The words for the files that came, after one file more. Assumes nothing.
use mathlib.Core.Path.{◌≡◌, refl, ap, sym, subst, ◌∙◌}
use mathlib.Core.Bool.{true, false}
use mathlib.Core.List.{List, [], ◌∷◌, ◌++◌}
use Prim.Native.Nat.{ℕ}
use lib.ListN.{take, drop, length}
use lib.Seq.{take_at}
use Rattle.slices.specs.declared.Refusal.{Refusal}
use Rattle.slices.specs.Refusals.{Fault, sound, fault, ◌then◌}
use Rattle.slices.specs.Filling.{written}
use Rattle.slices.proofs.Refusals.{faulty, passed, failed, then-left, then-right}
use Rattle.console.specs.Printed.{Shows}
use Rattle.wording.specs.Words.{File}
use Rattle.cart_files.specs.declared.Kept.{Kept}
use Rattle.cart_files.specs.declared.Kept.TheVariants.{Nothing, Text, Long}
use Rattle.cart_files.specs.declared.Collected.{Collected}
use Rattle.cart_files.specs.Decided.{first_fault, long_test, text_test, too_long_fault, texts_fault}
use Rattle.cart_files.specs.Gathered.{long_in, text_in, Gathered, Adds}
use Rattle.cart_files.proofs.Lists.{fault-more}
use Rattle.cart.specs.Said.{text_words, is_new_of, refusal_in, Says, texts, words_or, first_words, chosen, Worded, Sourced}

-- what is shown lies at the front
shown-front : {d old out : List ℕ} {n : ℕ} → Shows d old out n → take n out ≡ d
unfolding written
shown-front {d} {old} {out} {n} s = ap (take n) s.cells ∙ take_at d (drop (length d) old) n (sym s.says)

texts-more : (fs : List File) (f : File) → texts (fs ++ (f ∷ [])) ≡ texts fs ++ (f.held ∷ [])
unfolding texts
texts-more [] f = refl
texts-more (x ∷ fs) f = ap (λ (ts : List (List ℕ)). x.held ∷ ts) (texts-more fs f)

-- the first that is refused, of one file more
words_more : (test : List ℕ → Fault) (fs : List File) (f : File) → first_words test (fs ++ (f ∷ [])) ≡ chosen (first_fault test (texts fs)) (first_words test fs) (words_or (test f.held) f [])
unfolding first_words first_fault texts
words_more test [] f = refl
words_more test (x ∷ fs) f = by (test x.held) (words_more test fs f)
  where
    by : (g : Fault) → first_words test (fs ++ (f ∷ [])) ≡ chosen (first_fault test (texts fs)) (first_words test fs) (words_or (test f.held) f [])
        → words_or g x (first_words test (fs ++ (f ∷ []))) ≡ chosen (g then first_fault test (texts fs)) (words_or g x (first_words test fs)) (words_or (test f.held) f [])
    by sound ih = ih
    by (fault r) ih = refl

words-none : (test : List ℕ → Fault) (fs : List File) → first_fault test (texts fs) ≡ sound → first_words test fs ≡ []
unfolding first_words first_fault texts
words-none test [] e = refl
words-none test (x ∷ fs) e =
    ap (λ (g : Fault). words_or g x (first_words test fs)) (then-left (test x.held) (first_fault test (texts fs)) e)
    ∙ words-none test fs (then-right (test x.held) (first_fault test (texts fs)) e)

-- what is said, by what was kept before the file and what is after it: the long files' fault F and the texts' T, and the file's own
module _ (f : File) (F L T X : Fault) (a b : List ℕ) (none : T ≡ sound → b ≡ []) where
  abbrev all : Fault → Fault → Fault → Fault → Fault → List ℕ
  all g h l t x = chosen g (chosen h a (words_or l f [])) (chosen t b (words_or x f []))

  kept-after : (k k' : Kept) {x y : List ℕ} → long_in k ≡ F → (F ≡ sound → text_in k ≡ T) → long_in k' ≡ F then L → (F then L ≡ sound → text_in k' ≡ T then X)
      → (is_new_of k k' ≡ false → y ≡ x) → ((q : Refusal) → is_new_of k k' ≡ true → refusal_in k' ≡ fault q → y ≡ text_words f q) → x ≡ chosen F a b → y ≡ all (F then L) F L T X
  kept-after k Nothing e d g h same fresh w =
      let l = sym g in
      let t = sym (h l) in
      same refl
      ∙ (w
      ∙ (ap (λ (z : Fault). chosen z a b) (then-left F L l)
      ∙ (none (then-left T X t) ∙ (λ i. all (g i) F L (sym (then-left T X t) i) (sym (then-right T X t) i)))))
  kept-after Nothing (Text q) e d g h same fresh w =
      let t = sym (d (sym e)) in
      fresh q refl refl ∙ (λ i. all (g i) F L (sym t i) ((h (sym g) ∙ passed X t) i))
  kept-after (Text p) (Text q) e d g h same fresh w =
      same refl ∙ (w ∙ ((λ i. chosen (sym e i) a b) ∙ (λ i. all (g i) F L (d (sym e) i) X)))
  kept-after (Long p) (Text q) e d g h same fresh w = absurd (faulty (e ∙ then-left F L (sym g)))
  kept-after Nothing (Long q) e d g h same fresh w = fresh q refl refl ∙ (λ i. all (g i) (e i) ((g ∙ passed L (sym e)) i) T X)
  kept-after (Text p) (Long q) e d g h same fresh w = fresh q refl refl ∙ (λ i. all (g i) (e i) ((g ∙ passed L (sym e)) i) T X)
  kept-after (Long p) (Long q) e d g h same fresh w = same refl ∙ (w ∙ ((λ i. chosen (sym e i) a b) ∙ (λ i. all (sym (failed L (sym e)) i) (e i) L T X)))

-- One file more.
module _ (f : File) {old new said said' : List ℕ} {held r : Collected} {n m : ℕ} (adds : Adds f.held old new held r) (says : Says f held.kept r.kept n said said' m) where
  pub worded-more : (fs : List File) → Worded fs old said held n → Worded (fs ++ (f ∷ [])) new said' r m
  worded-more fs w = record {
    gathered = subst (λ (ts : List (List ℕ)). Gathered ts new r) (sym (texts-more fs f)) after;
    words =
        kept-after f (too_long_fault (texts fs)) (long_test f.held) (texts_fault (texts fs)) (text_test f.held) (first_words long_test fs) (first_words text_test fs) (words-none text_test fs) held.kept
        r.kept w.gathered.long w.gathered.text (after.long ∙ long) (λ e. after.text (long ∙ e) ∙ fault-more text_test (texts fs) f.held)
        (λ e. let s = says.same e in λ i. take (s.0 i) (s.1 i)) (λ q e d. shown-front (says.fresh q e d)) w.words
        ∙ sym whole;
  }
    where
      after : Gathered (texts fs ++ (f.held ∷ [])) new r
      after = adds.gathered (texts fs) w.gathered

      long : too_long_fault (texts fs ++ (f.held ∷ [])) ≡ too_long_fault (texts fs) then long_test f.held
      long = fault-more long_test (texts fs) f.held

      whole : chosen (too_long_fault (texts (fs ++ (f ∷ [])))) (first_words long_test (fs ++ (f ∷ []))) (first_words text_test (fs ++ (f ∷ [])))
          ≡ chosen (too_long_fault (texts fs) then long_test f.held) (chosen (too_long_fault (texts fs)) (first_words long_test fs) (words_or (long_test f.held) f []))
          (chosen (texts_fault (texts fs)) (first_words text_test fs) (words_or (text_test f.held) f []))
      whole = λ i. chosen ((ap too_long_fault (texts-more fs f) ∙ long) i) (words_more long_test fs f i) (words_more text_test fs f i)

-- No file came yet.
pub sourced-none : {cart : List ℕ} (said : List ℕ) {held : Collected} → Gathered [] cart held → Sourced cart said held 0
unfolding texts first_words first_fault
sourced-none said g = record { files = []; worded = record { gathered = g; words = refl } }

pub sourced-more : (f : File) {old new said said' : List ℕ} {held r : Collected} {n m : ℕ} → Sourced old said held n
    → ((fs : List File) → Worded fs old said held n → Worded (fs ++ (f ∷ [])) new said' r m) → Sourced new said' r m
sourced-more f s more = record { files = s.files ++ (f ∷ []); worded = more s.files s.worded }
