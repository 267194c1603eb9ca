-- What an imported sheet says: it accepts a lasso exactly if the automaton's run on its infinite word enters accepting states without
-- end, and further turns leave its verdict alone. Assumes nothing.
use mathlib.Core.Path.{◌≡◌, ap, sym, subst, ◌∙◌}
use mathlib.Core.Bool.{true}
use mathlib.Core.List.{List}
use Prim.Native.Nat.{ℕ}
use native.Mathlib.Omega.{arith}
use Rattle.slices.specs.Refusals.{sound}
use Rattle.fdfa.specs.Family.{Agrees, Lasso}
use Rattle.fdfa.specs.Acceptance.{Verdict, accepts}
use Rattle.fdfa.specs.Invariance.{TurnProof}
use Rattle.fdfa.specs.OmegaWord.{letter_at}
use Rattle.fdfa.specs.Buchi.{Dba, AcceptsWord, from_buchi}
use Rattle.fdfa.proofs.Agreement.{verdict-same, turn-proof-same}
use Rattle.fdfa.proofs.BuchiPairs.{buchi-complete}
use Rattle.fdfa.proofs.Buchi.{accepted-enters, enters-accepted, buchi-turn-proof}
use Rattle.packed.specs.Layout.{decode, pack, Packable, Valid}
use Rattle.packed.proofs.Packing.{decode-pack, pack-valid}
use Rattle.buchi_import.specs.Text.{buchi_text, Drawable}
use Rattle.buchi_import.specs.Reading.{bytes_of, read_fault}
use Rattle.buchi_import.proofs.Laws.{sound-text}

-- The bytes b are a valid sheet that says what the automaton does.
pub record Says (D : Dba) (b : List ℕ) : Type 0 where
  pub valid : Valid b
  pub letters : (decode b).letters ≡ D.letters
  pub enters : (u v : List ℕ) → Lasso D.letters u v → accepts (decode b) u v ≡ true → AcceptsWord D (letter_at u v)
  pub accepted : (u v : List ℕ) → Lasso D.letters u v → AcceptsWord D (letter_at u v) → accepts (decode b) u v ≡ true
  pub turn_proof : TurnProof (decode b)

module _ (D : Dba) (d : Drawable D) where
  packable : Packable (from_buchi D)
  packable = record {
    complete = buchi-complete D d.complete;
    some_letters = d.some_letters;
    few_letters = d.few_letters;
    few_states = omega (arith, d.few_states);
    few_progress = λ q h. omega (arith, d.few_states);
  }

  same : Agrees (from_buchi D) (decode (pack (from_buchi D)))
  same = decode-pack (from_buchi D) packable

  verdicts : (u v : List ℕ) → Lasso D.letters u v → accepts (from_buchi D) u v ≡ accepts (decode (pack (from_buchi D))) u v
  verdicts u v l = ap (λ (x : Verdict). x.accepted) (verdict-same (from_buchi D) (decode (pack (from_buchi D))) packable.complete same u v l)

  pub pack-says : Says D (pack (from_buchi D))
  pack-says = record {
    valid = pack-valid (from_buchi D) packable;
    letters = sym same.letters;
    enters = λ u v l e. accepted-enters D d.complete u v l (verdicts u v l ∙ e);
    accepted = λ u v l h. sym (verdicts u v l) ∙ enters-accepted D d.complete u v l h;
    turn_proof = turn-proof-same (from_buchi D) (decode (pack (from_buchi D))) packable.complete same (buchi-turn-proof D d.complete);
  }

-- every text that is not refused is that of an automaton, and the sheet says what it does
pub imported : (t : List ℕ) (room : ℕ) → read_fault t room ≡ sound → (D : Dba) × Drawable D × (buchi_text D ≡ t) × Says D (bytes_of t)
imported t room e = let s = sound-text t room e in (s.0, s.1, s.2, subst (Says s.0) (sym s.3) (pack-says s.0 s.1))
