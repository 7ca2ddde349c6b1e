-- The BCH codes in use: their fields, the bits t that they correct, their lengths and generators.
use Rattle.std.specs.Prelude.{ℕ, suc, ◌-◌, Bool, cond, List, length, take, drop, Some, None, Option, bit_xor, nat_le}
use Rattle.gf2.specs.Words.{bits_of, number}
use Rattle.gf2.specs.declared.field.Field.{Field}
use Rattle.gf2.specs.declared.field.Field.TheVariants.{Five, Fourteen}
use Rattle.bch.specs.declared.code.Bch.{Bch}
use Rattle.bch.specs.declared.code.Bch.TheVariants.{Worked, Long}
use Rattle.bch.specs.Checks.{remainder}

abbrev pub field : Bch → Field
field Worked = Five
field Long = Fourteen

-- t: as many wrong bits are corrected
abbrev pub errors : Bch → ℕ
errors Worked = 2
errors Long = 5

-- n1, the bits of a word
abbrev pub word_bits : Bch → ℕ
word_bits Worked = 28
word_bits Long = 8270

-- r1 - 1: the generator has the degree r1, the number of check bits
abbrev pub generator_top : Bch → ℕ
generator_top Worked = 9
generator_top Long = 69

-- the generator without x^r1
abbrev pub generator_tail : Bch → ℕ
generator_tail Worked = 0b11_0110_1001
generator_tail Long = 0xE_8FD4_F615_5365_4087

abbrev pub check_bits : Bch → ℕ
check_bits C = suc (generator_top C)

-- k1, the data bits of a word
abbrev pub data_bits : Bch → ℕ
data_bits C = word_bits C - check_bits C

-- the remainder of x^r1 times the polynomial of the data by the generator, as a number
abbrev pub checks_number : Bch → List Bool → ℕ
checks_number C = remainder (generator_top C) (generator_tail C) 0

-- the check bits of the data
abbrev pub checks : Bch → List Bool → List Bool
checks C d = bits_of (check_bits C) (checks_number C d)

-- the check bits of the first data bits, or none where there are fewer
abbrev pub checks_of_first : Bch → List Bool → Option ℕ
checks_of_first C w = cond (nat_le (data_bits C) (length w)) (Some (checks_number C (take (data_bits C) w))) None

-- the check bits that the first data bits ask for, added to those that follow them, as a number
abbrev pub rest : Bch → List Bool → ℕ
rest C w = bit_xor (checks_number C (take (data_bits C) w)) (number (take (check_bits C) (drop (data_bits C) w)))

-- the same of the first bits, or none where there are too few for a codeword
abbrev pub rest_of_first : Bch → List Bool → Option ℕ
rest_of_first C w = cond (nat_le (word_bits C) (length w)) (Some (rest C w)) None
