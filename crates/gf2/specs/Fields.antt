-- The five binary fields. An element of the field of 2^m elements is m bits, the coefficients from x^(m-1) down to 1; alpha is x, the number 2.
use Rattle.std.specs.Prelude.{◌≡◌, ℕ, suc, ◌-◌, ◌%◌, ◌^◌, ◌<◌, ◌≤◌, cond, ◌≢◌, List, length, Some, None, Option, Result, ok_or, ◌==◌, bit_xor, slice_index, slice_index_or}
use Rattle.gf2.specs.Polynomials.{power as power_under}
use Rattle.gf2.specs.declared.field.Field.{Field}
use Rattle.gf2.specs.declared.field.NoSuchField.{NoSuchField}
use Rattle.gf2.specs.declared.field.Field.TheVariants.{Three, Five, Eight, Ten, Fourteen}
use Rattle.gf2.specs.Product.{times}

-- m - 1, the highest exponent in an element
abbrev pub top : Field → ℕ
top Three = 2
top Five = 4
top Eight = 7
top Ten = 9
top Fourteen = 13

-- the modulus without x^m: x+1, x^2+1, x^4+x^3+x^2+1, x^3+1, x^10+x^6+x+1
abbrev pub modulus_tail : Field → ℕ
modulus_tail Three = 0b011
modulus_tail Five = 0b0_0101
modulus_tail Eight = 0b0001_1101
modulus_tail Ten = 0b00_0000_1001
modulus_tail Fourteen = 0b00_0100_0100_0011

-- m, the bits of an element
abbrev pub width : Field → ℕ
width F = suc (top F)

-- the field of 2^m elements, if it is one of the five
abbrev pub field_of : ℕ → Option Field
field_of m =
    cond (m == 3) (Some Three) (cond (m == 5) (Some Five) (cond (m == 8) (Some Eight) (cond (m == 10) (Some Ten) (cond (m == 14) (Some Fourteen) None))))

-- the field whose elements have m bits, or the width m that none has
abbrev pub IsFieldOfWidth : ℕ → Result Field NoSuchField → Type 0
IsFieldOfWidth m r = r ≡ ok_or (field_of m) (record { 0 = m })

-- the element that a number stands for: its low m bits
abbrev pub element : Field → ℕ → ℕ
element F a = a % 2 ^ width F

abbrev pub sum : Field → ℕ → ℕ → ℕ
sum F a b = element F (bit_xor a b)

abbrev pub product : Field → ℕ → ℕ → ℕ
product F = times (top F) (modulus_tail F)

abbrev pub power : Field → ℕ → ℕ → ℕ
power F = power_under (product F)

abbrev pub alpha : ℕ
alpha = 2

-- the inverse of an element is its power 2^m - 2; the element 0 has none
abbrev pub inverse : Field → ℕ → Option ℕ
inverse F a = cond (element F a == 0) None (Some (power F a (2 ^ width F - 2)))

-- what makes r the inverse of a: an element whose product with a is 1, or none where a stands for 0
abbrev pub IsInverse : Field → ℕ → Option ℕ → Type 0
IsInverse F a None = element F a ≡ 0
IsInverse F a (Some b) = (b < 2 ^ width F) × (product F a b ≡ 1)

-- a table that begins with alpha^0, and where each entry is alpha times the one before
pub record PowersOfAlpha (F : Field) (table : List ℕ) : Type 0 where
  pub first : slice_index_or table 0 0 ≡ 1
  pub next : (i : ℕ) → suc i < length table → slice_index table (suc i) ≡ product F alpha (slice_index table i)

-- what holds of the product for every width m and modulus; only the unit and the sum ask for elements
pub record IsRing (m : ℕ) (mul : ℕ → ℕ → ℕ) : Type 0 where
  pub closed : (a b : ℕ) → mul a b < 2 ^ m
  pub commutative : (a b : ℕ) → mul a b ≡ mul b a
  pub associative : (a b c : ℕ) → mul (mul a b) c ≡ mul a (mul b c)
  pub distributive : (a b c : ℕ) → mul a (bit_xor b c) ≡ bit_xor (mul a b) (mul a c)
  pub unit : (a : ℕ) → a < 2 ^ m → mul 1 a ≡ a
  pub zero_product : (a : ℕ) → mul a 0 ≡ 0
  pub sum_closed : (a b : ℕ) → a < 2 ^ m → b < 2 ^ m → bit_xor a b < 2 ^ m
  -- of a number that is no element only the low m bits count
  pub low_bits_count : (a b : ℕ) → mul (a % 2 ^ m) b ≡ mul a b

-- what makes mul the product of polynomials modulo x^(n+1) + p: besides the laws of a ring, x moves each power of x up by one, and x^(n+1) is p
pub record IsPolynomialProduct (n p : ℕ) (mul : ℕ → ℕ → ℕ) : Type 0 where
  pub ring : IsRing (suc n) mul
  pub moves_up : 1 ≤ n → (i : ℕ) → i < n → mul 2 (2 ^ i) ≡ 2 ^ suc i
  pub wraps : 1 ≤ n → mul 2 (2 ^ n) ≡ p

pub record IsField (m : ℕ) (mul : ℕ → ℕ → ℕ) : Type 0 where
  pub ring : IsRing m mul
  pub nontrivial : 1 < 2 ^ m
  pub inverse : (a : ℕ) → a < 2 ^ m → a ≢ 0 → (b : ℕ) × (b < 2 ^ m) × (mul a b ≡ 1)
  pub no_zero_divisors : (a b : ℕ) → a < 2 ^ m → b < 2 ^ m → a ≢ 0 → mul a b ≡ 0 → b ≡ 0

-- alpha is a primitive element: its powers 0 to 2^m - 2 are distinct and run through every element but 0; the next is 1 again
pub record AlphaGenerates (m : ℕ) (mul : ℕ → ℕ → ℕ) : Type 0 where
  pub distinct : (i j : ℕ) → i < j → j < 2 ^ m - 1 → power_under mul alpha i ≢ power_under mul alpha j
  pub reaches : (a : ℕ) → a < 2 ^ m → a ≢ 0 → (i : ℕ) × (i < 2 ^ m - 1) × (power_under mul alpha i ≡ a)
  pub around : power_under mul alpha (2 ^ m - 1) ≡ 1
