-- The tests of a call, one after the other, and what the call then says. Assumes nothing.
use Rattle.slices.specs.declared.Reason.{Reason}
use Rattle.std.specs.Prelude.{Result, Ok, Err}
use Rattle.std.specs.Result.{IsErr, IsErrAnd}
use mathlib.Core.Path.{◌≡◌, refl, ap, sym, subst}
use mathlib.Core.Bool.{Bool, true, false}
use Prim.Native.Nat.{ℕ}
use Rattle.slices.specs.declared.Part.{Part}
use Rattle.slices.specs.declared.Refusal.{Refusal}
use Rattle.slices.specs.Refusals.{Fault, sound, fault, fault_of, ◌then◌, when, unless, mapped, fault_in}

pub when-fails : {t : Bool} (reason : Reason) (part : Part) (place : ℕ) → t ≡ true → when t reason part place ≡ fault_of reason part place
when-fails reason part place e = ap (λ (t : Bool). when t reason part place) e

pub when-passes : {t : Bool} (reason : Reason) (part : Part) (place : ℕ) → t ≡ false → when t reason part place ≡ sound
when-passes reason part place e = ap (λ (t : Bool). when t reason part place) e

-- a test that is not met is passed over, and one that is met is the refusal
pub passed : {f : Fault} (g : Fault) → f ≡ sound → f then g ≡ g
passed g e = ap (λ (x : Fault). x then g) e

pub failed : {f : Fault} {r : Refusal} (g : Fault) → f ≡ fault r → f then g ≡ fault r
failed g e = ap (λ (x : Fault). x then g) e

abbrev Faulty : Fault → Type 0
Faulty sound = ⊥
Faulty (fault r) = Unit {0}

pub faulty : {r : Refusal} → fault r ≡ sound → ⊥
faulty e = subst Faulty e tt

-- nothing is refused only where no test is met
pub then-left : (f g : Fault) → f then g ≡ sound → f ≡ sound
then-left sound g e = refl
then-left (fault r) g e = e

pub then-right : (f g : Fault) → f then g ≡ sound → g ≡ sound
then-right sound g e = e
then-right (fault r) g e = absurd (faulty e)

pub when-sound : (t : Bool) (reason : Reason) (part : Part) (place : ℕ) → when t reason part place ≡ sound → t ≡ false
when-sound true reason part place e = absurd (faulty e)
when-sound false reason part place e = refl

module _ {A : Type 0} where
  pub refuses : (z : A) {f : Fault} {r : Refusal} → f ≡ fault r → Err r ≡ unless f z
  refuses z e = ap (λ (f : Fault). unless f z) (sym e)

  pub gives : (z : A) {f : Fault} → f ≡ sound → Ok z ≡ unless f z
  gives z e = ap (λ (f : Fault). unless f z) (sym e)

  abbrev Refuses : Result A Refusal → Type 0
  Refuses (Ok a) = ⊥
  Refuses (Err r) = Unit {0}

  -- what a `?` hands on is the refusal that it met
  pub handed : {x : Result A Refusal} {r : Refusal} → IsErr x × IsErrAnd x (λ y. y ≡ r) → x ≡ Err r
  handed {x} {r} h = by x h.1
    where
      by : (x : Result A Refusal) → IsErrAnd x (λ y. y ≡ r) → x ≡ Err r
      by (Ok a) k = absurd k
      by (Err y) k = ap Err k

  -- an answer is no refusal, and equal ones have equal parts
  pub never-given : {r : Refusal} {a : A} → Err r ≡ Ok a → ⊥
  never-given e = subst Refuses e tt

  pub given-was : {a b : A} → ◌≡◌ {A = Result A Refusal} (Ok a) (Ok b) → a ≡ b
  given-was e = cc

  pub refused-was : {r s : Refusal} → ◌≡◌ {A = Result A Refusal} (Err r) (Err s) → r ≡ s
  refused-was e = cc

  -- what an answer, or a refusal, says of the tests
  pub was-given : (f : Fault) (z : A) {a : A} → Ok a ≡ unless f z → (f ≡ sound) × (a ≡ z)
  was-given sound z e = (refl, cc)
  was-given (fault r) z e = absurd (subst Refuses (sym e) tt)

  pub was-refused : (f : Fault) (z : A) {r : Refusal} → Err r ≡ unless f z → f ≡ fault r
  was-refused sound z e = absurd (subst Refuses e tt)
  was-refused (fault q) z {r} e = let d : q ≡ r = cc in ap fault d

-- what was turned into an answer, and into a refusal
module _ {A B : Type 0} (f : A → B) where
  pub mapped-given : (x : Result A Refusal) {b : B} → mapped f x ≡ Ok b → (a : A) × (x ≡ Ok a) × (f a ≡ b)
  mapped-given (Ok a) e = (a, refl, given-was e)
  mapped-given (Err r) e = absurd (never-given e)

  pub mapped-refused : (x : Result A Refusal) {r : Refusal} → mapped f x ≡ Err r → x ≡ Err r
  mapped-refused (Ok a) e = absurd (never-given (sym e))
  mapped-refused (Err s) e = ap Err (refused-was e)

-- nothing is refused only of an answer
pub sound-given : {A : Type 0} (x : Result A Refusal) → fault_in x ≡ sound → (a : A) × (x ≡ Ok a)
sound-given (Ok a) e = (a, refl)
sound-given (Err r) e = absurd (faulty e)
