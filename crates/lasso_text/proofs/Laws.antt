-- Reading succeeds exactly on the texts of lassos, and reading and writing are inverse, in terms of what is refused. Assumes nothing.
use Rattle.slices.specs.declared.Reason.TheVariants.{TooLittleRoom}
use Rattle.std.specs.Prelude.{Result, Ok, Err}
use Rattle.slices.specs.declared.Refusal.{Refusal}
use mathlib.Core.Path.{◌≡◌, refl, ap, sym, ◌∙◌}
use mathlib.Core.List.{List}
use Prim.Native.Nat.{ℕ, ◌≤◌}
use native.Mathlib.Omega.{arith}
use lib.Dec.{ltb}
use lib.ListN.{length}
use Rattle.slices.specs.Capped.{capped}
use Rattle.slices.specs.declared.Part.{Part}
use Rattle.slices.specs.declared.Part.TheVariants.{Out}
use Rattle.slices.specs.Refusals.{sound, when}
use Rattle.slices.specs.LassoLetters.{letters_fault}
use Rattle.slices.proofs.Refusals.{passed, faulty, then-left}
use Rattle.fdfa.specs.Family.{Words}
use Rattle.fdfa.proofs.Letters.{letters-lasso, lasso-letters}
use Rattle.lasso_text.specs.Text.{lasso_text_of, Readable}
use Rattle.lasso_text.specs.Reading.{words_of, words_in, text_fault, room_fault, read_fault}
use Rattle.lasso_text.specs.Writing.{write_fault}
use Rattle.lasso_text.proofs.Texts.{text-words, words-was}

sound-given : (x : Result Words Refusal) → text_fault x ≡ sound → x ≡ Ok (words_in x)
sound-given (Ok w) e = refl
sound-given (Err r) e = absurd (faulty e)

module _ (s : ℕ) (part : Part) where
  -- the text of a lasso is not refused, its words are the lasso, and only the room is judged
  module _ (small : s ≤ 1000) (u v : List ℕ) (readable : Readable s u v) where
    pub text-sound : text_fault (words_of s part (lasso_text_of u v)) ≡ sound
    text-sound = ap text_fault (text-words s part small u v readable)

    pub text-lasso : words_in (words_of s part (lasso_text_of u v)) ≡ record { prefix = u; period = v }
    text-lasso = ap words_in (text-words s part small u v readable)

    pub text-read : (o p : ℕ) → read_fault (words_of s part (lasso_text_of u v)) o p ≡ room_fault (record { prefix = u; period = v }) o p
    text-read o p = ap (λ (x : Result Words Refusal). read_fault x o p) (text-words s part small u v readable)

  -- a text that is not refused is that of the lasso which is read
  pub read_is : (t : List ℕ) → text_fault (words_of s part t) ≡ sound
      → let w = words_in (words_of s part t) in Readable s w.prefix w.period × (t ≡ lasso_text_of w.prefix w.period)
  read_is t e = words-was s part t (words_in (words_of s part t)) (sound-given (words_of s part t) e)

  -- two lassos with one text are one lasso
  pub text-once : s ≤ 1000 → (u v a b : List ℕ) → Readable s u v → Readable s a b → lasso_text_of u v ≡ lasso_text_of a b → (u ≡ a) × (v ≡ b)
  text-once small u v a b h k e =
      let d : ◌≡◌ {A = Words} (record { prefix = u; period = v }) (record { prefix = a; period = b }) = sym (text-lasso small u v h) ∙ (ap (λ (t : List ℕ). words_in (words_of s part t)) e ∙ text-lasso small a b k) in
      (ap (λ (w : Words). w.prefix) d, ap (λ (w : Words). w.period) d)

-- what was written is read back: only the room is judged, and the words are those that were written
module _ (part : Part) (u v : List ℕ) (room : ℕ) (written : write_fault u v room ≡ sound) where
  pub written-readable : Readable 32 u v
  written-readable = letters-lasso 32 u v (then-left (letters_fault 32 u v) _ written)

  pub written_read : (o p : ℕ) → read_fault (words_of 32 part (lasso_text_of u v)) o p ≡ room_fault (record { prefix = u; period = v }) o p
  written_read = text-read 32 part (omega arith) u v written-readable

  pub written-lasso : words_in (words_of 32 part (lasso_text_of u v)) ≡ record { prefix = u; period = v }
  written-lasso = text-lasso 32 part (omega arith) u v written-readable

-- what was read is written back: only the room is judged, and the text is that which was read
module _ (part : Part) (t : List ℕ) (fine : text_fault (words_of 32 part t) ≡ sound) where
  abbrev w : Words
  w = words_in (words_of 32 part t)

  pub read-text : lasso_text_of w.prefix w.period ≡ t
  read-text = sym (read_is 32 part t fine).1

  pub read-written : (room : ℕ) → write_fault w.prefix w.period room ≡ when (ltb room (length t)) TooLittleRoom Out (capped (length t))
  read-written room =
      passed _ (lasso-letters 32 w.prefix w.period (read_is 32 part t fine).0) ∙ ap (λ (x : List ℕ). when (ltb room (length x)) TooLittleRoom Out (capped (length x))) read-text
