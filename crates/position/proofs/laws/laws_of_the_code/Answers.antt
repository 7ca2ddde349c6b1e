use Rattle.position.specs.Theory.ShortLaws.{data_labels_length, short_inner_code}
use Rattle.position.proofs.laws.laws_of_the_code.Goals as goal

pub returns : goal.returns
returns c = record { each_data_bit_has_a_label = data_labels_length; it_is_an_inner_code = short_inner_code }
