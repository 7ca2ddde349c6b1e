use Rattle.gf2.proofs.WordLaws.{bits_of_bytes, flipping, distance_is_a_metric, words_are_numbers}
use Rattle.gf2.proofs.laws.laws_of_words.Goals as goal

pub returns : goal.returns
returns c = record {
  bytes_hold_eight_bits_in_their_order = bits_of_bytes;
  flipping_changes_that_bit_alone_and_twice_nothing = flipping;
  distance_is_a_metric = distance_is_a_metric;
  words_are_numbers = words_are_numbers;
}
