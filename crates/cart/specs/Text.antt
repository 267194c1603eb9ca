-- What the cart program prints. Assumes nothing.
use Rattle.slices.specs.declared.Refusal.{Refusal}
use Rattle.std.specs.Prelude.{◌≡◌, List, [], ◌++◌, ℕ, ◌≤◌, length, Result, Ok, Err}
use Prim.Native.Char.{code}
use Rattle.slices.specs.Texts.{bytes}
use Rattle.numbers.specs.Digits.{field}
use Rattle.carts.specs.declared.Loading.{Loading}
use Rattle.carts.specs.declared.Loading.TheVariants.{Loaded, Rejected}
use Rattle.console.specs.Printed.{refusal_text_of, Shows}
use Rattle.cart_files.specs.declared.Collected.{Collected}
use Rattle.cart_files.specs.Decided.{decided}
use Rattle.cart_files.specs.Gathered.{Gathered}

-- The word, and the index of the show.
abbrev pub rejected_text : ℕ → List ℕ
rejected_text i = bytes "rejected\n" ++ field i (code "\n")

-- Nothing where the cart is loaded, and then made; else the first show that is rejected, or the refusal.
abbrev pub load_text : Result Loading Refusal → List ℕ
load_text (Ok (Loaded n)) = []
load_text (Ok (Rejected i)) = rejected_text i
load_text (Err r) = refusal_text_of r

-- What is printed for the bytes that came of the sheet's file, and of the texts of shows.
abbrev pub program_text : List ℕ → List (List ℕ) → List ℕ
program_text b ts = load_text (decided b ts)

-- What is decided of the sheet's file and of the texts that were gathered, and what is printed for it.
pub record Decides (b cart : List ℕ) (held : Collected) (answer : Result Loading Refusal) (old new : List ℕ) (n : ℕ)
    : Type 0 where
  pub fits : n ≤ length old
  pub answers : (ts : List (List ℕ)) → Gathered ts cart held → answer ≡ decided b ts
  pub prints : (ts : List (List ℕ)) → Gathered ts cart held → Shows (program_text b ts) old new n
