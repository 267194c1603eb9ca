-- Reading succeeds exactly on the texts of drawable automata, each text being of one, and fills the packed sheet of that very automaton's
-- family; in terms of what is refused. Assumes nothing.
use Rattle.slices.specs.declared.Reason.TheVariants.{TooLittleRoom}
use mathlib.Core.Path.{◌≡◌, ap, sym, subst, ◌∙◌}
use mathlib.Core.List.{List}
use Prim.Native.Nat.{ℕ}
use lib.Dec.{ltb}
use lib.ListN.{length}
use Rattle.slices.specs.declared.Part.TheVariants.{Out}
use Rattle.slices.specs.Refusals.{sound, when, fault_in}
use Rattle.slices.proofs.Refusals.{passed, then-left, given-was, sound-given}
use Rattle.fdfa.specs.Buchi.{Dba, SameDba, from_buchi}
use Rattle.fdfa.proofs.BuchiPairs.{same_back, same_then}
use Rattle.packed.specs.Layout.{pack}
use Rattle.buchi_import.specs.Text.{buchi_text, Drawable}
use Rattle.buchi_import.specs.Reading.{Numbers, numbers_of, automaton_of, bytes_in, bytes_of, read_fault}
use Rattle.buchi_import.proofs.Sheets.{same-pack}
use Rattle.buchi_import.proofs.Texts.{read-drawable, read-text, text-read}

module _ (D : Dba) (d : Drawable D) where
  -- the text of a drawable automaton is not refused, and its bytes are those of the automaton's family
  pub text-sound : fault_in (numbers_of (buchi_text D)) ≡ sound
  text-sound = ap fault_in (text-read D d).1

  pub text-bytes : bytes_of (buchi_text D) ≡ pack (from_buchi D)
  unfolding bytes_of
  text-bytes = let w = text-read D d in ap bytes_in w.1 ∙ sym (same-pack D (automaton_of w.0) d.complete w.2)

  -- for every out slice: too little room where it is too short, else the sheet
  pub text-room : (room : ℕ) → read_fault (buchi_text D) room ≡ when (ltb room (length (pack (from_buchi D)))) TooLittleRoom Out (length (pack (from_buchi D)))
  unfolding read_fault bytes_of
  text-room room = passed _ text-sound ∙ ap (λ (x : List ℕ). when (ltb room (length x)) TooLittleRoom Out (length x)) text-bytes

-- a text that is not refused is that of a drawable automaton, and the bytes are its family's
pub sound-text : (t : List ℕ) (room : ℕ) → read_fault t room ≡ sound → (D : Dba) × Drawable D × (buchi_text D ≡ t) × (bytes_of t ≡ pack (from_buchi D))
unfolding read_fault bytes_of
sound-text t room e =
    let w = sound-given (numbers_of t) (then-left (fault_in (numbers_of t)) _ e) in
    (automaton_of w.0, read-drawable t w.0 w.1, read-text t w.0 w.1, ap bytes_in w.1)

-- a text is that of one automaton
pub text-once : (D E : Dba) → Drawable D → Drawable E → buchi_text D ≡ buchi_text E → SameDba D E
text-once D E d e h =
    let v = text-read D d in
    let w = text-read E e in
    let z : v.0 ≡ w.0 = given-was (sym v.1 ∙ (ap numbers_of h ∙ w.1)) in
    same_then v.2 (same_back (subst (λ (x : Numbers). SameDba E (automaton_of x)) (sym z) w.2))
