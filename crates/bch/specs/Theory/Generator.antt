-- The generator's test: x^(top+1) + tail is 0 at several powers of alpha in a row.
use Rattle.std.specs.Prelude.{◌≡◌, ℕ, suc, ◌+◌, ◌^◌, ◌<◌, ◌≤◌, Bool, T, List, ◌++◌, length, bit_xor}
use Rattle.std.proofs.Common.{arith}
use Rattle.gf2.specs.declared.field.Field.{Field}
use Rattle.gf2.specs.Words.{bits_of, number}
use Rattle.gf2.specs.Fields.{width, product, power, alpha}
use Rattle.gf2.proofs.Five as five
use Rattle.gf2.proofs.Vandermonde.{xor_eq}
use Rattle.bch.specs.Code.{Codeword, syndrome}
use Rattle.bch.specs.Checks.{remainder}
use Rattle.bch.specs.Theory.Remainder.{digits_value, encoded, reduced}
use Rattle.bch.specs.Decoding.{zeros}
use Rattle.bch.specs.Theory.Zeros.{zero_at}

-- the generator's value at alpha^j
abbrev pub generator_value : Field → ℕ → ℕ → ℕ → ℕ
generator_value F top tail j = bit_xor (digits_value (product F) (power F alpha j) (suc top) tail) (power F (power F alpha j) (suc top))

module _ (F : Field) (top tail t : ℕ) (h : tail < 2 ^ suc top) (test : T (zeros (generator_value F top tail) 1 (t + t))) where
  root : (j : ℕ) → 1 ≤ j → j ≤ t + t → digits_value (product F) (power F alpha j) (suc top) tail ≡ power F (power F alpha j) (suc top)
  root j l u =
      xor_eq (digits_value (product F) (power F alpha j) (suc top) tail) (power F (power F alpha j) (suc top))
      (zero_at (generator_value F top tail) (t + t) 1 test j l (omega arith))

  -- data with their remainder behind them are a codeword
  pub completed : (d : List Bool) → Codeword F t (d ++ bits_of (suc top) (remainder top tail 0 d))
  completed d j l u = encoded (width F) (product F) (five.field F) (power F alpha j) top tail h (root j l u) d

  -- a word has the syndromes of its check bits added to those that its data ask for
  pub same_syndromes : (d p : List Bool) → length p ≡ suc top → (j : ℕ) → 1 ≤ j → j ≤ t + t
      → syndrome F (bits_of (suc top) (bit_xor (remainder top tail 0 d) (number p))) j ≡ syndrome F (d ++ p) j
  same_syndromes d p e j l u = reduced (width F) (product F) (five.field F) (power F alpha j) top tail h (root j l u) d p e
