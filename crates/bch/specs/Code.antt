-- BCH codes. Bit j of a word of n bits is the coefficient of x^(n-j); a word is a codeword if its polynomial is 0 at alpha^1 to alpha^(2t).
use Rattle.std.specs.Prelude.{◌≡◌, ℕ, ◌+◌, ◌≤◌, Bool, cond, List, [], ◌∷◌, length, bit_xor}
use Rattle.gf2.specs.Polynomials.{power as power_under}
use Rattle.gf2.specs.declared.field.Field.{Field}
use Rattle.gf2.specs.Fields.{product, power, alpha}

-- the word's polynomial at z, under the product m
unfoldable pub word_value : (ℕ → ℕ → ℕ) → ℕ → List Bool → ℕ
word_value m z [] = 0
word_value m z (b ∷ bs) = bit_xor (cond b (power_under m z (length bs)) 0) (word_value m z bs)

-- the value at alpha^j
abbrev pub syndrome : Field → List Bool → ℕ → ℕ
syndrome F w j = word_value (product F) (power F alpha j) w

abbrev pub Codeword : Field → ℕ → List Bool → Type 0
Codeword F t w = (j : ℕ) → 1 ≤ j → j ≤ t + t → syndrome F w j ≡ 0
