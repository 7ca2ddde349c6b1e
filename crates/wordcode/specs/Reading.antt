-- What a reader answers for a word, by three rules. The word is x1, x2, x3 of 1, n1 and r2 bits; y is x2 with x1 added to its first bit.
use Rattle.std.specs.Prelude.{◌≡◌, ℕ, ◌+◌, ◌≤◌, Bool, true, false, List, [], ◌∷◌, length, take, drop}
use Rattle.gf2.specs.declared.field.Field.{Field}
use Rattle.gf2.specs.Words.{distance}
use Rattle.pagecode.specs.InnerData.{lead}
use Rattle.wordcode.specs.Codeword.{inner, codeword}

-- y
abbrev pub middle : ℕ → List Bool → List Bool
middle n1 [] = []
middle n1 (x ∷ xs) = lead x (take n1 xs)

-- x3
abbrev pub last_bits : ℕ → List Bool → List Bool
last_bits n1 word = drop (1 + n1) word

-- rule 1: the message's codeword is at most t bits from the whole word
pub record Within (k1 t : ℕ) (F : Field) (checks : List Bool → List Bool) (word message : List Bool) : Type 0 where
  pub long : length message ≡ k1 + 1
  pub near : distance word (codeword F checks message) ≤ t

-- rule 2: the v of the message is at most t bits from y, and the last r2 bits of its codeword are the word's
pub record Matches (k1 r1 t : ℕ) (F : Field) (checks : List Bool → List Bool) (word message : List Bool) : Type 0 where
  pub long : length message ≡ k1 + 1
  pub near : distance (middle (k1 + r1) word) (inner checks message) ≤ t
  pub same_last_bits : last_bits (k1 + r1) word ≡ last_bits (k1 + r1) (codeword F checks message)

-- a message with the distance of its codeword from the word, and whether it is over the bound; or none
pub data Answer : Type 0 where
  gives : List Bool → ℕ → Bool → Answer
  unreadable : Answer

-- rule 1 if a codeword is at most t bits away, otherwise rule 2, otherwise rule 3: the word cannot be read
abbrev pub Reads : (k1 r1 t : ℕ) → Field → (List Bool → List Bool) → List Bool → Answer → Type 0
Reads k1 r1 t F checks word (gives message d false) = Within k1 t F checks word message × (d ≡ distance word (codeword F checks message))
Reads k1 r1 t F checks word (gives message d true) =
    ((other : List Bool) → Within k1 t F checks word other → ⊥) × Matches k1 r1 t F checks word message × (d ≡ distance word (codeword F checks message))
Reads k1 r1 t F checks word unreadable =
    ((other : List Bool) → Within k1 t F checks word other → ⊥) × ((other : List Bool) → Matches k1 r1 t F checks word other → ⊥)
