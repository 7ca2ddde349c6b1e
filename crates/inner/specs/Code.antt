-- Inner codes: sets of words of k1 data bits and r1 check bits behind them.
use Rattle.std.specs.Prelude.{◌≡◌, ℕ, ◌+◌, ◌*◌, ◌%◌, ◌<◌, ◌≤◌, Bool, ◌≢◌, List, ◌++◌, length}
use Rattle.gf2.specs.declared.field.Field.{Field}
use Rattle.gf2.specs.Words.{add, distance}
use Rattle.gf2.specs.Fields.{width}
use Rattle.inner.specs.Pages.{page_bytes}

-- the laws of the code whose words are those that Codeword holds of; checks gives the check bits of data bits
pub record IsInnerCode (k1 r1 t : ℕ) (Codeword : List Bool → Type 0) (checks : List Bool → List Bool) : Type 0 where
  pub corrects_some : 1 ≤ t
  pub long : (c : List Bool) → Codeword c → length c ≡ k1 + r1
  -- any data bits may come first, and they fix the check bits
  pub data_are_free : (d : List Bool) → length d ≡ k1 → Codeword (d ++ checks d)
  pub data_fix_the_checks : (d p : List Bool) → length d ≡ k1 → Codeword (d ++ p) → p ≡ checks d
  pub sums_stay_inside : (c d : List Bool) → Codeword c → Codeword d → Codeword (add c d)
  pub apart : (c d : List Bool) → Codeword c → Codeword d → c ≢ d → 2 * t + 1 ≤ distance c d

-- what r2 must meet beside the code; F is the field of 2^r2 elements, one of the five
pub record Setting (k1 r1 t r2 : ℕ) (F : Field) : Type 0 where
  pub width_of_a_field : r2 ≡ width F
  pub pairs_of_groups : k1 % (2 * r2) ≡ 0
  pub a_byte_at_least : 8 ≤ k1 + 1
  pub tail_as_far_as_the_code : 2 * t + 1 ≤ r2 + 2
  pub tail_above_errors : t < r2
  pub page_fits : page_bytes k1 r1 t r2 ≤ 2048
