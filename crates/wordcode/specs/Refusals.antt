-- Why the calls on words refuse, and the number that the caller is told. No refusal of the code carries further values.
use Rattle.std.specs.Prelude.{ℕ, Ok, Err, Result}
use Rattle.wordcode.specs.declared.refusal.Refusal.{Refusal}
use Rattle.wordcode.specs.declared.refusal.Refusal.TheVariants.{WrongLength, SpareBits, Unreadable}

abbrev pub number_of : Refusal → ℕ
number_of WrongLength = 2
number_of SpareBits = 7
number_of Unreadable = 8

-- an answer with its refusal by number
abbrev pub told : {A : Type 0} → Result A Refusal → Result A ℕ
told (Ok a) = Ok a
told (Err e) = Err (number_of e)
