-- What the second reading found, as it lies in the slices, is the automaton that it says. Assumes nothing.
use Rattle.slices.specs.declared.Reason.TheVariants.{TooLittleRoom}
use Rattle.std.specs.Prelude.{Result, Ok, Err}
use mathlib.Core.Path.{◌≡◌, refl, ap, sym, subst, ◌∙◌}
use mathlib.Core.Bool.{Bool, true, false, cond}
use mathlib.Core.List.{List}
use Prim.Native.Nat.{ℕ, ◌+◌, ◌*◌, ◌≤◌, ◌<◌}
use native.Mathlib.Omega.{arith}
use lib.Dec.{eqb, ltb}
use lib.ListN.{length, get_or, replicate, length-replicate, get_or-replicate, drop}
use borrow.Author.Tests.{lt-ltb, le-ltb}
use Rattle.slices.specs.declared.Part.TheVariants.{Out}
use Rattle.slices.specs.declared.Refusal.{Refusal}
use Rattle.slices.specs.Refusals.{sound, fault, fault_of, ◌then◌, when, fault_in}
use Rattle.slices.proofs.Refusals.{when-fails, when-passes, given-was, mapped-given, mapped-refused}
use Rattle.slices.specs.Filling.{written, Fills}
use Rattle.slices.proofs.Tables.{length-tab, get_or-tab, get_or-first}
use Rattle.fdfa.specs.Buchi.{SameDba, from_buchi}
use Rattle.packed.specs.Layout.{pack}
use Rattle.numbers.proofs.Stores.{stored-written, stored-length}
use Rattle.buchi_import.specs.declared.Drawn.{Drawn}
use Rattle.buchi_import.specs.Reading.{Numbers, move_count, letters_in, states_in, numbers_below, again, numbers_of, is_in, automaton_of, bytes_in, pack_fault}
use Rattle.buchi_import.specs.Steps.{sizes_of, targets_in, TextRead, automaton_in, Stocked}
use Rattle.buchi_import.proofs.Numbers.{Was, numbers-was}
use Rattle.buchi_import.proofs.Stages.{wider}
use Rattle.buchi_import.proofs.Automata.{formed, few_letters, some_letters, few_states, some_states, product, within, was-complete}
use Rattle.buchi_import.proofs.Sheets.{few_moves, sheet-long, same-pack}

-- what was read, from what is said of it
abbrev sizes : Numbers → Drawn
sizes w = record { letters = letters_in w.moves; states = states_in w.moves }

pub lost : (x : Result Numbers Refusal) {r : Refusal} → sizes_of x ≡ Err r → x ≡ Err r
lost x e = mapped-refused sizes x e

pub sized : (x : Result Numbers Refusal) {s n : ℕ} → sizes_of x ≡ Ok (record { letters = s; states = n }) → (w : Numbers) × (x ≡ Ok w) × (letters_in w.moves ≡ s) × (states_in w.moves ≡ n)
sized x e = let g = mapped-given sizes x e in (g.0, g.1, ap (λ (z : Drawn). z.letters) g.2, ap (λ (z : Drawn). z.states) g.2)

noted-is : (b : Bool) → eqb (cond b 1 0) 1 ≡ b
noted-is true = refl
noted-is false = refl

module _ (t : List ℕ) (n : ℕ) {ts ms : List ℕ} {r : Result Drawn Refusal} (d : TextRead (numbers_below n t) (replicate 512 0) ts (replicate 16 0) ms r) (first : (w : Numbers) × (numbers_below 1000 t ≡ Ok w) × (states_in w.moves ≡ n)) {s m : ℕ} (e : r ≡ Ok (record { letters = s; states = m })) where
  found : (w : Numbers) × (numbers_below n t ≡ Ok w) × (letters_in w.moves ≡ s) × (states_in w.moves ≡ m)
  found = sized (numbers_below n t) (sym d.says ∙ e)

  abbrev w : Numbers
  w = found.0

  was : Was n t w
  was = numbers-was n t w found.1

  -- the limit is how many states there are
  limit : states_in w.moves ≡ n
  limit = ap (λ (v : Numbers). states_in v.moves) (given-was (sym (wider n t w found.1) ∙ first.1)) ∙ first.2

  long : length ts ≡ 512
  long = stored-length (d.targets w found.1) ∙ length-replicate {A = ℕ} 512 0

  few : move_count w.moves ≤ 512
  few = omega (arith, product was, few_moves (few_states was) (few_letters was))

  target : (i : ℕ) → i < move_count w.moves → get_or ts i 0 ≡ get_or w.moves (3 * i + 2) 0
  unfolding written
  target i h =
      let z = targets_in w.moves in
      ap (λ (l : List ℕ). get_or l i 0) (stored-written (d.targets w found.1) (omega (arith, length-tab (move_count w.moves) (λ j. get_or w.moves (3 * j + 2) 0), few, length-replicate {A = ℕ} 512 0)))
      ∙ (get_or-first z (drop (length z) (replicate 512 0)) i (omega (arith, length-tab (move_count w.moves) (λ j. get_or w.moves (3 * j + 2) 0))) ∙ get_or-tab (move_count w.moves) (λ j. get_or w.moves (3 * j + 2) 0) i h)

  same : SameDba (automaton_of w) (automaton_in s m ts ms)
  same = record {
    letters = found.2;
    states = found.3;
    steps = λ q a h l. sym (target (q * letters_in w.moves + a) (within was q a h l)) ∙ ap (λ (k : ℕ). get_or ts (q * k + a) 0) found.2;
    accepting = λ p h.
        sym (ap (λ (k : ℕ). eqb k 1) ((d.finals w found.1).cells p (omega (arith, few_states was, length-replicate {A = ℕ} 16 0)) ∙ ap (cond (is_in p w.finals) 1) (get_or-replicate 16 p 0 0 (omega (arith, few_states was)))) ∙ noted-is (is_in p w.finals));
  }

  pub stocked : Stocked s m ts ms
  stocked = record {
    some_letters = omega (arith, some_letters was, found.2);
    few_letters = omega (arith, few_letters was, found.2);
    some_states = omega (arith, some_states was, found.3);
    few_states = omega (arith, few_states was, found.3);
    moves = omega (arith, long, few, sizes);
    targets = λ i h. let k : i < move_count w.moves = omega (arith, sizes) in omega (arith, target i k, (formed was).target i k, limit, found.3);
    finals = omega (arith, few_states was, found.3, (d.finals w found.1).same, length-replicate {A = ℕ} 16 0);
  }
    where
      sizes : m * s ≡ move_count w.moves
      sizes = (λ i. sym found.3 i * sym found.2 i) ∙ product was

  pub sheet : bytes_in (numbers_below n t) ≡ pack (from_buchi (automaton_in s m ts ms))
  sheet = ap bytes_in found.1 ∙ same-pack (automaton_of w) (automaton_in s m ts ms) (was-complete was limit) same

  -- its length, and what it is judged by
  pub sheet-size : length (bytes_in (numbers_below n t)) ≡ 2 + m + m * s + m * (2 * m * (s + 1))
  sheet-size = ap length sheet ∙ sheet-long s m (automaton_in s m ts ms) refl refl

  whole : (room : ℕ) → pack_fault (numbers_below n t) room ≡ when (ltb room (2 + m + m * s + m * (2 * m * (s + 1)))) TooLittleRoom Out (2 + m + m * s + m * (2 * m * (s + 1)))
  whole room =
      ap (λ (x : Result Numbers Refusal). fault_in x then when (ltb room (length (bytes_in (numbers_below n t)))) TooLittleRoom Out (length (bytes_in (numbers_below n t)))) found.1
      ∙ ap (λ (k : ℕ). when (ltb room k) TooLittleRoom Out k) sheet-size

  pub short : {room len : ℕ} → len ≡ 2 + m + m * s + m * (2 * m * (s + 1)) → room < len → pack_fault (numbers_below n t) room ≡ fault_of TooLittleRoom Out len
  short {room} {len} e h = whole room ∙ (ap (λ (k : ℕ). when (ltb room k) TooLittleRoom Out k) (sym e) ∙ when-fails TooLittleRoom Out len (lt-ltb room len h))

  pub enough : {room len : ℕ} → len ≡ 2 + m + m * s + m * (2 * m * (s + 1)) → len ≤ room → pack_fault (numbers_below n t) room ≡ sound
  enough {room} {len} e h = whole room ∙ (ap (λ (k : ℕ). when (ltb room k) TooLittleRoom Out k) (sym e) ∙ when-passes TooLittleRoom Out len (le-ltb room len h))

-- a text that is refused
pub text-lost : (x : Result Numbers Refusal) (room : ℕ) {r : Refusal} → x ≡ Err r → pack_fault x room ≡ fault r
text-lost x room e = ap (λ (y : Result Numbers Refusal). pack_fault y room) e

-- the second reading is the answer
pub fills-again : (t : List ℕ) {n : ℕ} {old out : List ℕ} {r : Result ℕ Refusal} → (w : Numbers) × (numbers_below 1000 t ≡ Ok w) × (states_in w.moves ≡ n)
    → Fills (pack_fault (numbers_below n t) (length old)) (bytes_in (numbers_below n t)) old out r → Fills (pack_fault (numbers_of t) (length old)) (bytes_in (numbers_of t)) old out r
unfolding numbers_of
fills-again t {n} {old} {out} {r} f h = subst (λ (x : Result Numbers Refusal). Fills (pack_fault x (length old)) (bytes_in x) old out r) (sym (ap (again t) f.1 ∙ ap (λ (k : ℕ). numbers_below k t) f.2)) h
