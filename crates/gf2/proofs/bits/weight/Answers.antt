use Rattle.std.proofs.Common.{◌≡◌, ◌∙◌, arith, rules, sum_by, count_ones}
use Rattle.gf2.proofs.Weights.{weight_bits}
use Rattle.gf2.proofs.bits.weight.Goals as goal

pub returns : goal.returns
returns c =
    let bs = c.args.bytes.now in
    let s : c.sum.result ≡ sum_by (λ b. count_ones b) bs = search rules in
    record { number_of_set_bits = s ∙ weight_bits bs (λ i. omega (arith, c.type_inv.bytes i)) }
