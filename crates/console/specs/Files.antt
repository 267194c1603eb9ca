-- The refusal of a file of more than 65,536 bytes. How much of a slice is filled. Assumes nothing.
use Rattle.std.specs.Prelude.{◌≡◌, List, ℕ, ◌≤◌, length, take, ltb, Result, Err}
use Rattle.slices.specs.declared.Part.{Part}
use Rattle.slices.specs.declared.Part.TheVariants.{First, Second}
use Rattle.slices.specs.declared.Reason.TheVariants.{FileTooLong}
use Rattle.slices.specs.declared.Refusal.{Refusal}
use Rattle.slices.specs.Refusals.{Fault, sound, fault, ◌then◌, when}

-- Of a file of which n bytes came.
abbrev pub length_fault : Part → ℕ → Fault
length_fault part n = when (ltb 65536 n) FileTooLong part 65536

-- Of two files, in reading order.
abbrev pub lengths_fault : ℕ → ℕ → Fault
lengths_fault n m = length_fault First n then length_fault Second m

-- What is said of files that are short enough, else the refusal.
abbrev pub after : {A : Type 0} → Fault → Result A Refusal → Result A Refusal
after sound x = x
after (fault r) x = Err r

-- So many bytes of a slice are its first, none beyond its end.
abbrev pub IsPrefixLen : ℕ → List ℕ → Type 0
IsPrefixLen n xs = (n ≤ length xs) × (n ≡ length (take n xs))
