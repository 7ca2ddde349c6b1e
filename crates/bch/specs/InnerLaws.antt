-- The laws of an inner code: any data bits may come first and they fix the check bits; sums of codewords are codewords; two differ in more than 2t bits.
use Rattle.std.specs.Prelude.{◌≡◌, ◌+◌, ◌*◌, ◌≤◌, Bool, ◌≢◌, List, ◌++◌, length, take}
use Rattle.gf2.specs.Words.{add, distance, bits_of}
use Rattle.bch.specs.declared.code.Bch.{Bch}
use Rattle.bch.specs.Code.{Codeword}
use Rattle.bch.specs.Settings.{field, errors, word_bits, data_bits, check_bits, checks_number}

-- a codeword of the code's length
pub record WordOf (C : Bch) (w : List Bool) : Type 0 where
  pub long : length w ≡ word_bits C
  pub code : Codeword (field C) (errors C) w

pub record IsInnerCode (C : Bch) : Type 0 where
  pub data_are_free : (d : List Bool) → length d ≡ data_bits C → WordOf C (d ++ bits_of (check_bits C) (checks_number C d))
  pub data_fix_the_checks : (w x : List Bool) → WordOf C w → WordOf C x → take (data_bits C) w ≡ take (data_bits C) x → w ≡ x
  pub sums_stay_inside : (w x : List Bool) → WordOf C w → WordOf C x → WordOf C (add w x)
  pub apart : (w x : List Bool) → WordOf C w → WordOf C x → w ≢ x → 2 * errors C + 1 ≤ distance w x
