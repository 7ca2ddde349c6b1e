use Rattle.std.proofs.Common.{◌+◌, ◌-◌, ◌*◌, ◌/◌, ◌%◌, ◌^◌, ℕ, ap, ◌∙◌, ap₂, mod-lt, arith, pow_pos}
use Rattle.gf2.specs.Words.{bits_of}
use Rattle.gf2.proofs.Masks.{low_bits}
use Rattle.gf2.proofs.Copying.{run_of_two}
use Rattle.gf2.proofs.runs.few_behind.Goals as goal

pub returns : goal.returns
returns c =
    let bs = c.args.bytes.now in
    let s = c.args.skip in
    let k = c.args.count in
    let j = 16 - (s + k) in
    let x = (c.byte_or_0.result * 256 + c.byte_or_0-2.result) / 2 ^ j in
    let low = low_bits 32 k x (omega arith) in
    let read = low ∙ ap₂ (λ (a b : ℕ). (a * 256 + b) / 2 ^ j % 2 ^ k) c.byte_or_0.ensures.the_byte_or_0 c.byte_or_0-2.ensures.the_byte_or_0 in
    record {
      those_bits = ap (bits_of k) read ∙ run_of_two bs s k (λ i. omega (arith, c.type_inv.bytes i)) c.requires.near (omega arith) (omega arith) c.requires.has_them;
      no_more_bits = omega (arith, low, mod-lt x (pow_pos k));
    }
