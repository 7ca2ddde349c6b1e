-- The position code: data bits with given labels, and behind them r1 check bits with the labels 2^(r1-1) down to 1.
use Rattle.std.specs.Prelude.{◌≡◌, ℕ, ◌+◌, Bool, List, ◌++◌, length}
use Rattle.gf2.specs.Words.{bits_of}
use Rattle.position.specs.Labels.{label_sum, powers_of_two}

abbrev pub all_labels : ℕ → List ℕ → List ℕ
all_labels r1 labels = labels ++ powers_of_two r1

-- a word of k1 + r1 bits is a codeword if the labels of its set bits add to 0
pub record Codeword (k1 r1 : ℕ) (labels : List ℕ) (c : List Bool) : Type 0 where
  pub long : length c ≡ k1 + r1
  pub cancels : label_sum (all_labels r1 labels) c ≡ 0

-- the bits of the data bits' label sum
abbrev pub checks_of : ℕ → List ℕ → List Bool → List Bool
checks_of r1 labels d = bits_of r1 (label_sum labels d)
