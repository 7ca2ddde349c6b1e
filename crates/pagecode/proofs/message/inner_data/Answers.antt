use Rattle.std.proofs.Common.{Bool, List, not, get_or, set, false, ap, ◌∙◌, ap₂}
use mathlib.Core.Bool.{beq}
use Rattle.gf2.specs.Words.{bits}
use Rattle.pagecode.proofs.Copies.{with_u_added}
use Rattle.pagecode.proofs.message.inner_data.Goals as goal

pub returns-then-count-gt0-clause-writes_v_k_over_the_first_bits : goal.returns-then-count-gt0-clause-writes_v_k_over_the_first_bits
returns-then-count-gt0-clause-writes_v_k_over_the_first_bits c =
    let copied = c.copy_bits.ensures.copies_those_bits_alone in
    c.put.ensures.only_that_bit_is_set_so
    ∙ ap₂ (λ (n : List Bool) (b : Bool). set n 0 b) copied
    (ap₂ (λ (x y : Bool). not (beq x y)) (c.is_set.ensures.the_bit_there ∙ ap (λ (n : List Bool). get_or n 0 false) copied) c.is_set-then-count-gt0.ensures.the_bit_there)
    ∙ with_u_added (bits c.args.message.now) c.args.count (bits c.args.out.now) c.in_ok-copy_bits.ensures.accepts_where_both_have_the_bits c.if-count-gt0.true
