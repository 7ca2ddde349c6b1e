-- The setting short: 544 data bits, and 10 check bits behind them. The data bits have as labels the numbers above 2 that are no powers of two.
use Rattle.std.specs.Prelude.{ℕ, Bool, List}
use Rattle.position.specs.Labels.{no_powers_of_two}
use Rattle.position.specs.Code.{all_labels, Codeword, checks_of}

-- those from 3 to 554; 8 of these are powers of two
unfoldable pub data_labels : List ℕ
data_labels = no_powers_of_two 3 552

abbrev pub short_labels : List ℕ
short_labels = all_labels 10 data_labels

abbrev pub ShortCodeword : List Bool → Type 0
ShortCodeword = Codeword 544 10 data_labels

abbrev pub short_checks : List Bool → List Bool
short_checks = checks_of 10 data_labels
