-- The check bits: the remainder of the data's polynomial times x^(n+1) by x^(n+1) + g, kept as a number.
use Rattle.std.specs.Prelude.{◌≡◌, ℕ, ◌<◌, Bool, cond, List, [], ◌∷◌, length, bit_xor, slice_index}
use Rattle.gf2.specs.Words.{bits_of}
use Rattle.gf2.specs.Product.{times_x}

-- a value s that takes a step at each bit, and has e added where the bit is set
unfoldable pub running : (ℕ → ℕ) → ℕ → ℕ → List Bool → ℕ
running step e s [] = s
running step e s (b ∷ bs) = running step e (bit_xor (step s) (cond b e 0)) bs

-- the bits brought into the remainder r
abbrev pub remainder : ℕ → ℕ → ℕ → List Bool → ℕ
remainder n g r = running (times_x n g) g r

-- a table of the remainders of all bytes
pub record RemaindersOfBytes (n g : ℕ) (table : List ℕ) : Type 0 where
  pub long : length table ≡ 256
  pub each : (b : ℕ) → b < 256 → slice_index table b ≡ remainder n g 0 (bits_of 8 b)
