use Rattle.std.proofs.Common.{ℕ, ◌+◌, Bool, cond, List, ◌++◌, length, take, drop, sym, ap, ap₂, ◌∙◌, leb}
use Rattle.gf2.specs.Words.{bits, bits_of}
use Rattle.gf2.proofs.Sums.{bits_of_length}
use Rattle.position.proofs.Words.{data_part}
use Rattle.position.proofs.code.ShortInnerCode.complete.Goals as goal

pub returns-clause-check_bits_follow_the_data : goal.returns-clause-check_bits_follow_the_data
returns-clause-check_bits_follow_the_data c =
    let w = bits c.args.word.now in
    let n = c.from.result in
    let sum = c.from.ensures ∙ c.data_sum.ensures.sum_over_the_data_bits ∙ sym (data_part w) in
    c.put_number.ensures.only_those_bits_are_set_so
    ∙ ap (λ (v : List Bool). cond (leb 554 (length w)) v w)
    (ap₂ (λ (i : ℕ) (checks : List Bool). take 544 w ++ (checks ++ drop (544 + i) w)) (bits_of_length 10 n) (ap (bits_of 10) sum))
