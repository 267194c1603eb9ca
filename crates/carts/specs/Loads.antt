-- What loading a cart says and leaves in the out slice, for any bytes. Assumes nothing.
use Rattle.slices.specs.declared.Refusal.{Refusal}
use Rattle.std.specs.Prelude.{◌≡◌, true, false, cond, List, [], ◌∷◌, ◌++◌, ℕ, suc, eqb, length, Result, Ok, Err}
use Rattle.slices.specs.Refusals.{unless}
use Rattle.slices.specs.Filling.{written}
use Rattle.fdfa.specs.Family.{Fdfa, Words}
use Rattle.fdfa.specs.Acceptance.{accepts}
use Rattle.packed.specs.Layout.{decode}
use Rattle.carts.specs.declared.Loading.{Loading}
use Rattle.carts.specs.declared.Loading.TheVariants.{Loaded, Rejected}
use Rattle.carts.specs.Reading.{shows_of}
use Rattle.carts.specs.Faults.{load_fault}

-- How many shows come before the first that the family rejects; where it accepts all, how many there are.
unfoldable pub first_rejected_of : Fdfa → List Words → ℕ
first_rejected_of F [] = 0
first_rejected_of F (w ∷ ws) = cond (accepts F w.prefix w.period) (suc (first_rejected_of F ws)) 0

-- A cart is loaded, with its length, where every show is accepted, else rejected, with the index of a show.
abbrev pub load_by : Fdfa → List Words → ℕ → Loading
load_by F ws size = cond (eqb (first_rejected_of F ws) (length ws)) (Loaded size) (Rejected (first_rejected_of F ws))

-- The answer of the call, or the refusal.
abbrev pub load_of : List ℕ → List ℕ → ℕ → Result Loading Refusal
load_of sheet b room = unless (load_fault sheet b room) (load_by (decode sheet) (shows_of b) (length b))

-- The out slice afterwards: the cart's bytes at its start where it is loaded, else as it was.
abbrev pub out_after : Result Loading Refusal → List ℕ → List ℕ → List ℕ
out_after (Ok (Loaded n)) b old = written b old
out_after (Ok (Rejected i)) b old = old
out_after (Err r) b old = old

-- What the call says and leaves in the out slice, for every sheet, cart and out slice.
pub record CartLoaded (sheet b old out : List ℕ) (r : Result Loading Refusal) : Type 0 where
  pub says : r ≡ load_of sheet b (length old)
  pub cells : out ≡ out_after (load_of sheet b (length old)) b old

-- Every show is accepted.
pub data AllAccepted (F : Fdfa) : List Words → Type 0 where
  done : AllAccepted F []
  more : {w : Words} {ws : List Words} → accepts F w.prefix w.period ≡ true → AllAccepted F ws
      → AllAccepted F (w ∷ ws)

-- The show with index i is rejected, and every show before it is accepted.
pub record FirstRejected (F : Fdfa) (ws : List Words) (i : ℕ) : Type 0 where
  pub before : List Words
  pub show : Words
  pub behind : List Words
  pub whole : ws ≡ before ++ (show ∷ behind)
  pub index : i ≡ length before
  pub all : AllAccepted F before
  pub rejects : accepts F show.prefix show.period ≡ false
