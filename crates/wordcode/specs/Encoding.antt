-- What encode and read do to the caller's buffer.
use Rattle.std.specs.Prelude.{◌≡◌, ℕ, Bool, List, [], length, take, Ok, Err, Result}
use Rattle.gf2.specs.declared.field.Field.{Field}
use Rattle.gf2.specs.Words.{bits}
use Rattle.gf2.specs.Fields.{width}
use Rattle.inner.specs.Pages.{word_bits}
use Rattle.wordcode.specs.declared.refusal.Refusal.{Refusal}
use Rattle.wordcode.specs.declared.word.Reading.{Reading}
use Rattle.wordcode.specs.Refusals.{told}
use Rattle.wordcode.specs.Bytes.{padded}
use Rattle.wordcode.specs.Reading.{Answer, gives, unreadable, Reads}

-- accepted: the buffer holds the word, then zero bits; refused: it stays
abbrev pub Written : {A : Type 0} → Result A ℕ → List Bool → List ℕ → List ℕ → Type 0
Written (Ok a) word before after = bits after ≡ padded (length (bits before)) word
Written (Err n) word before after = after ≡ before

-- what an answer tells the caller
abbrev pub told_of : Answer → Result Reading ℕ
told_of (gives message d over) = Ok (record { distance = d; over = over })
told_of unreadable = Err 8

-- the message that an answer gives
abbrev pub message_in : Answer → List Bool
message_in (gives message d over) = message
message_in unreadable = []

-- a word that passes the checks is read by the rules; otherwise the refusal is that of the checks
abbrev pub ReadByTheRules : (k1 r1 t : ℕ) → Field → (List Bool → List Bool) → Result (Unit {0}) ℕ → List ℕ → List ℕ → List ℕ → Result Reading Refusal → Type 0
ReadByTheRules k1 r1 t F checks (Err n) word before after r = (told r ≡ Err n) × (after ≡ before)
ReadByTheRules k1 r1 t F checks (Ok passed) word before after r =
    (a : Answer) × Reads k1 r1 t F checks (take (word_bits k1 r1 (width F)) (bits word)) a × (told r ≡ told_of a) × Written (told_of a) (message_in a) before after
