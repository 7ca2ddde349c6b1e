use Rattle.gf2.specs.Words.{bits}
use Rattle.position.proofs.Words.{word_sum}
use Rattle.position.proofs.labels.word_sum.Goals as goal

pub returns : goal.returns
returns c =
    record {
      sum_over_the_word =
          word_sum (bits c.args.word.now) c.data_sum.result c.in_ok-checks.checks c.data_sum.ensures.sum_over_the_data_bits
          c.in_ok-checks.ensures.number_of_those_bits;
    }
