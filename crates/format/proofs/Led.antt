-- A word and a number, then a format that may depend on the number, or a fixed text: what fits, and its text. Assumes nothing.
use mathlib.Core.Path.{◌≡◌, ap, ◌∙◌}
use mathlib.Core.List.{List, [], ◌∷◌, ◌++◌}
use Prim.Native.Nat.{ℕ}
use Rattle.numbers.specs.Digits.{field}
use Rattle.format.specs.declared.Column.{Column}
use Rattle.format.specs.Format.{Format, printed, Takes, Fits, seq, literal}
use Rattle.format.specs.Rows.{choice}
use Rattle.format.specs.Lines.{labelled}
use Rattle.format.proofs.Sequences.{fits-seq, printed-seq, split}
use Rattle.format.proofs.Fixed.{fixed-literal, then-fits, then-was}
use Rattle.format.proofs.Lined.{labelled-text}

-- The first number, which its column takes, and those that follow it.
pub record Led (c : ℕ → Column) (end : ℕ) (g : List ℕ → Format) (ws : List ℕ) : Type 0 where
  pub number : ℕ
  pub rest : List ℕ
  pub whole : ws ≡ number ∷ rest
  pub takes : Takes (c number) end number
  pub follows : Fits (g (number ∷ [])) rest

module _ (word : List ℕ) (c : ℕ → Column) (end : ℕ) (g : List ℕ → Format) where
  pub led-was : (ws : List ℕ) → Fits (seq (labelled word c end) g) ws → Led c end g ws
  unfolding labelled Fits
  led-was ws h =
      let s = split (labelled word c end) g ws h in
      by s.left s.right s.whole (then-was (fixed-literal word) (λ us. choice c end) s.left s.first) s.second
    where
      by : (left right : List ℕ) → ws ≡ left ++ right → Fits (choice c end) left → Fits (g left) right → Led c end g ws
      by [] right e a b = absurd a
      by (v ∷ []) right e a b = record { number = v; rest = right; whole = e; takes = a.0; follows = b }
      by (v ∷ (u ∷ us)) right e a b = absurd a.1

  module _ (v : ℕ) (us : List ℕ) (takes : Takes (c v) end v) where
    one-fits : Fits (labelled word c end) (v ∷ [])
    unfolding labelled Fits
    one-fits = then-fits (fixed-literal word) (λ us. choice c end) (v ∷ []) (takes, tt)

    pub led-fits : Fits (g (v ∷ [])) us → Fits (seq (labelled word c end) g) (v ∷ us)
    led-fits h = fits-seq (labelled word c end) g (v ∷ []) us one-fits h

    pub led-text : printed (seq (labelled word c end) g) (v ∷ us) ≡ word ++ field v end ++ printed (g (v ∷ [])) us
    unfolding printed
    led-text =
        printed-seq (labelled word c end) g (v ∷ []) us one-fits ∙ ap (λ (l : List ℕ). l ++ printed (g (v ∷ [])) us) (labelled-text word (v ∷ []) c end)

-- a fixed text after the number
module _ (word x : List ℕ) (c : ℕ → Column) (end : ℕ) where
  abbrev closed : Format
  closed = seq (labelled word c end) (λ vs. literal x)

  pub closed-was : (ws : List ℕ) → Fits closed ws → (v : ℕ) × (ws ≡ v ∷ []) × Takes (c v) end v
  closed-was ws h =
      let l = led-was word c end (λ vs. literal x) ws h in
      (l.number, l.whole ∙ ap (λ (us : List ℕ). l.number ∷ us) ((fixed-literal x).none l.rest l.follows), l.takes)

  pub closed-fits : (v : ℕ) → Takes (c v) end v → Fits closed (v ∷ [])
  closed-fits v takes = led-fits word c end (λ vs. literal x) v [] takes (fixed-literal x).fits

  pub closed-text : (v : ℕ) → Takes (c v) end v → printed closed (v ∷ []) ≡ word ++ field v end ++ x
  closed-text v takes = led-text word c end (λ vs. literal x) v [] takes ∙ ap (λ (l : List ℕ). word ++ field v end ++ l) (fixed-literal x).text
