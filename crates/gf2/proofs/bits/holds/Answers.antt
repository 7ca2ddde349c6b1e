use Rattle.std.proofs.Common.{length, arith}
use Rattle.gf2.specs.Words.{bits}
use Rattle.gf2.proofs.Places.{bits_length, same_test}
use Rattle.gf2.proofs.bits.holds.Goals as goal

pub returns : goal.returns
returns c =
    let bs = c.args.bytes.now in
    let k = c.args.count in
    record { at_least_that_many_bits = same_test _ (length bs) k (length (bits bs)) (λ h. omega (arith, bits_length bs)) (λ h. omega (arith, bits_length bs)) }
