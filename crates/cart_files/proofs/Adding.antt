-- What is held after one text more. Assumes nothing.
use Rattle.std.specs.Prelude.{Ok, Err}
use mathlib.Core.Logic.{◌⊎◌, inl, inr}
use mathlib.Core.Path.{◌≡◌, refl, ap, sym, subst, ◌∙◌}
use mathlib.Core.List.{List, [], ◌∷◌, ◌++◌}
use Prim.Native.Nat.{ℕ, zero, suc, ◌+◌, ◌≤◌, ◌<◌}
use native.Mathlib.Omega.{arith}
use lib.ListN.{length, take, set, length-append}
use lib.Seq.{sets}
use Rattle.slices.specs.declared.Refusal.{Refusal}
use Rattle.slices.specs.Refusals.{Fault, sound, fault, ◌then◌}
use Rattle.slices.proofs.Refusals.{passed, failed, faulty, then-left, then-right, was-given, was-refused}
use Rattle.slices.specs.Halves.{half_bytes_of}
use Rattle.slices.proofs.Halved.{length-half_bytes_of}
use Rattle.fdfa.specs.Family.{Words}
use Rattle.lasso_text.specs.Reading.{words_in}
use Rattle.show_files.specs.Shown.{shown}
use Rattle.show_files.proofs.Openings.{both-few}
use Rattle.carts.specs.Layout.{show_bytes, each_show}
use Rattle.cart_files.specs.declared.Kept.{Kept}
use Rattle.cart_files.specs.declared.Kept.TheVariants.{Nothing, Text, Long}
use Rattle.cart_files.specs.declared.Collected.{Collected}
use Rattle.cart_files.specs.Decided.{first_fault, long_test, text_test, too_long_fault, texts_fault, show_of, shows_in}
use Rattle.cart_files.specs.Gathered.{long_in, text_in, Gathered, Bounded, Adds, longer, placed, ShowPut}
use Rattle.cart_files.proofs.Lists.{then-sound, fault-more, count-more, cart-more, raised}

-- a show that is read takes 8,196 bytes at most
pub length-show : (w : Words) → length (show_bytes w) ≡ 4 + length w.prefix + length w.period
length-show w =
    let h = half_bytes_of (length w.prefix ∷ length w.period ∷ []) in
    omega (
      arith,
      length-append (h ++ w.prefix) w.period,
      length-append h w.prefix,
      length-half_bytes_of (length w.prefix ∷ length w.period ∷ []),
    )

show-few : (t : List ℕ) → text_test t ≡ sound → length (show_of t) ≤ 8196
show-few t e = let few = both-few t e in omega (arith, few.0, few.1, length-show (words_in (shown t)))

-- no text came yet
pub gathered_none : (cart : List ℕ) → 1 ≤ length cart → Gathered [] (set cart 0 0) (record { count = 0; length = 1; kept = Nothing })
unfolding first_fault shows_in each_show
gathered_none [] h = absurd (omega arith)
gathered_none (x ∷ cart) h = record { count = refl; long = refl; text = λ e. refl; cells = λ e d. refl }

-- what is refused of one text more
module _ (ts : List (List ℕ)) (t : List ℕ) where
  more-long : too_long_fault (ts ++ (t ∷ [])) ≡ too_long_fault ts then long_test t
  more-long = fault-more long_test ts t

  more-text : texts_fault (ts ++ (t ∷ [])) ≡ texts_fault ts then text_test t
  more-text = fault-more text_test ts t

  -- a text that is too long
  long-more : (k : Kept) {r : Refusal} → long_in k ≡ too_long_fault ts → long_test t ≡ fault r → long_in (longer k r) ≡ too_long_fault (ts ++ (t ∷ []))
  long-more Nothing e d = sym (more-long ∙ (passed _ (sym e) ∙ d))
  long-more (Text q) e d = sym (more-long ∙ (passed _ (sym e) ∙ d))
  long-more (Long q) e d = sym (more-long ∙ failed _ (sym e))

  pub gathered-long : {cart : List ℕ} {held r : Collected} {q : Refusal} → long_test t ≡ fault q → r ≡ record { count = held.count + 1; length = held.length; kept = longer held.kept q }
      → Gathered ts cart held → Gathered (ts ++ (t ∷ [])) cart r
  gathered-long {cart} {held} {r} {q} d e g = subst (Gathered (ts ++ (t ∷ [])) cart) (sym e) (record {
    count = ap (λ (n : ℕ). n + 1) g.count ∙ sym (count-more ts t);
    long = long-more held.kept g.long d;
    text = λ s. absurd (never s);
    cells = λ s. absurd (never s);
  })
    where
      never : too_long_fault (ts ++ (t ∷ [])) ≡ sound → ⊥
      never s = faulty (sym d ∙ then-right (too_long_fault ts) (long_test t) (sym more-long ∙ s))

  -- a text that is not too long, behind one that is refused
  long_same : long_test t ≡ sound → too_long_fault (ts ++ (t ∷ [])) ≡ too_long_fault ts
  long_same d = more-long ∙ (ap (λ (f : Fault). too_long_fault ts then f) d ∙ then-sound (too_long_fault ts))

  pub gathered-same : (k : Kept) {cart : List ℕ} {held r : Collected} → long_test t ≡ sound → held.kept ≡ k → (k ≡ Nothing → ⊥)
      → r ≡ record { count = held.count + 1; length = held.length; kept = held.kept } → Gathered ts cart held → Gathered (ts ++ (t ∷ [])) cart r
  gathered-same k {cart} {held} d h n e g = subst (Gathered (ts ++ (t ∷ [])) cart) (sym e) (record {
    count = ap (λ (m : ℕ). m + 1) g.count ∙ sym (count-more ts t);
    long = g.long ∙ sym (long_same d);
    text = λ s. (same k h n (g.text (sym (long_same d) ∙ s)) (g.long ∙ (sym (long_same d) ∙ s))).0;
    cells = λ s u. absurd ((same k h n (g.text (sym (long_same d) ∙ s)) (g.long ∙ (sym (long_same d) ∙ s))).1 u);
  })
    where
      same : (k : Kept) → held.kept ≡ k → (k ≡ Nothing → ⊥) → text_in held.kept ≡ texts_fault ts → long_in held.kept ≡ sound
          → (text_in held.kept ≡ texts_fault (ts ++ (t ∷ []))) × (texts_fault (ts ++ (t ∷ [])) ≡ sound → ⊥)
      same Nothing h n e l = absurd (n refl)
      same (Text q) h n e l =
          let is : texts_fault ts ≡ fault q = sym e ∙ ap text_in h in
          (ap text_in h ∙ sym (more-text ∙ failed (text_test t) is), λ u. faulty (sym is ∙ then-left (texts_fault ts) (text_test t) (sym more-text ∙ u)))
      same (Long q) h n e l = absurd (faulty (sym (ap long_in h) ∙ l))

  -- the first that is refused
  module _ {old : List ℕ} {held : Collected} (d : long_test t ≡ sound) (h : held.kept ≡ Nothing) (g : Gathered ts old held) where
    none-long : too_long_fault ts ≡ sound
    none-long = sym g.long ∙ ap long_in h

    none-refused : texts_fault ts ≡ sound
    none-refused = sym (g.text none-long) ∙ ap text_in h

    pub gathered-refused : {r : Collected} {q : Refusal} → text_test t ≡ fault q → r ≡ record { count = held.count + 1; length = held.length; kept = Text q }
        → Gathered (ts ++ (t ∷ [])) old r
    gathered-refused {r} {q} u e = subst (Gathered (ts ++ (t ∷ [])) old) (sym e) (record {
      count = ap (λ (m : ℕ). m + 1) g.count ∙ sym (count-more ts t);
      long = sym (long_same d ∙ none-long);
      text = λ s. sym is;
      cells = λ s v. absurd (faulty (sym is ∙ v));
    })
      where
        is : texts_fault (ts ++ (t ∷ [])) ≡ fault q
        is = more-text ∙ (passed (text_test t) none-refused ∙ u)

    -- none is refused
    pub gathered-filled : {n v : ℕ} → text_test t ≡ sound → n ≡ held.length + length (show_of t) → v ≡ held.count + 1 → held.length + length (show_of t) ≤ length old
        → Gathered (ts ++ (t ∷ [])) (set (sets old held.length (show_of t)) 0 v) (record { count = held.count + 1; length = n; kept = Nothing })
    gathered-filled {n} {v} u e k room = record {
      count = ap (λ (m : ℕ). m + 1) g.count ∙ sym (count-more ts t);
      long = sym (long_same d ∙ none-long);
      text = λ s. sym (more-text ∙ (passed (text_test t) none-refused ∙ u));
      cells = λ s w.
          ap (λ (m : ℕ). take m (set (sets old held.length (show_of t)) 0 v)) e
          ∙ (raised old (show_of t) (each_show (shows_in ts)) held.length (length (shows_in ts)) v (g.cells none-long none-refused) room (some held.length (g.cells none-long none-refused))
          ∙ sym (cart-more ts t (k ∙ ap (λ (m : ℕ). m + 1) g.count)));
    }
      where
        some : (n : ℕ) {c : ℕ} {b : List ℕ} → take n old ≡ c ∷ b → 1 ≤ n
        some zero {c} {b} e = let z : ◌≡◌ {A = ℕ} 0 (length (c ∷ b)) = ap length e in omega arith
        some (suc n) e = omega arith

-- something is refused
abbrev Some : Kept → Type 0
Some Nothing = ⊥
Some (Text q) = Unit {0}
Some (Long q) = Unit {0}

text-some : {q : Refusal} → Text q ≡ Nothing → ⊥
text-some e = subst Some e tt

long-some : {q : Refusal} → Long q ≡ Nothing → ⊥
long-some e = subst Some e tt

pub refused-some : {k : Kept} → ((q : Refusal) × (k ≡ Text q)) ⊎ ((q : Refusal) × (k ≡ Long q)) → k ≡ Nothing → ⊥
refused-some (inl h) e = text-some (sym h.1 ∙ e)
refused-some (inr h) e = long-some (sym h.1 ∙ e)

-- what the code answers
module _ (t : List ℕ) {old : List ℕ} {held : Collected} (few : held.count < 64) (bounded : Bounded held) where
  pub adds-long : {r : Collected} {q : Refusal} → long_test t ≡ fault q → r ≡ record { count = held.count + 1; length = held.length; kept = longer held.kept q } → Adds t old old held r
  adds-long d e = record {
    count = ap (λ (x : Collected). x.count) e;
    bounded = omega (arith, ap (λ (x : Collected). x.count) e, ap (λ (x : Collected). x.length) e);
    gathered = λ ts g. gathered-long ts t d e g;
  }

  module _ (d : long_test t ≡ sound) where
    pub adds_same : {r : Collected} → (held.kept ≡ Nothing → ⊥) → r ≡ record { count = held.count + 1; length = held.length; kept = held.kept } → Adds t old old held r
    adds_same n e = record {
      count = ap (λ (x : Collected). x.count) e;
      bounded = omega (arith, ap (λ (x : Collected). x.count) e, ap (λ (x : Collected). x.length) e);
      gathered = λ ts g. gathered-same ts t held.kept d refl n e g;
    }

    module _ (h : held.kept ≡ Nothing) {new : List ℕ} where
      pub adds-refused : {r : Collected} {q : Refusal} → ShowPut t old held.length new (Err q) → r ≡ record { count = held.count + 1; length = held.length; kept = Text q } → Adds t old new held r
      adds-refused {r} {q} p e = record {
        count = ap (λ (x : Collected). x.count) e;
        bounded = omega (arith, ap (λ (x : Collected). x.count) e, ap (λ (x : Collected). x.length) e);
        gathered = λ ts g. subst (λ (l : List ℕ). Gathered (ts ++ (t ∷ [])) l r) (sym kept) (gathered-refused ts t d h g is e);
      }
        where
          is : text_test t ≡ fault q
          is = was-refused (text_test t) (held.length + length (show_of t)) p.says

          kept : new ≡ old
          kept = p.cells ∙ ap (λ (f : Fault). placed f old held.length (show_of t)) is

      pub adds-filled : {n v : ℕ} → length old ≡ 524545 → ShowPut t old held.length new (Ok n) → v ≡ held.count + 1
          → Adds t old (set new 0 v) held (record { count = held.count + 1; length = n; kept = Nothing })
      adds-filled {n} {v} whole p k = record {
        count = refl;
        bounded = omega (arith, is.1, show-few t is.0);
        gathered = λ ts g. subst (λ (l : List ℕ). Gathered (ts ++ (t ∷ [])) (set l 0 v) (record { count = held.count + 1; length = n; kept = Nothing })) (sym put)
            (gathered-filled ts t d h g is.0 is.1 k (omega (arith, show-few t is.0)));
      }
        where
          is : (text_test t ≡ sound) × (n ≡ held.length + length (show_of t))
          is = was-given (text_test t) (held.length + length (show_of t)) p.says

          put : new ≡ sets old held.length (show_of t)
          put = p.cells ∙ ap (λ (f : Fault). placed f old held.length (show_of t)) is.0
