use Rattle.std.proofs.Common.{◌≡◌, ℕ, ◌+◌, ◌-◌, ◌*◌, ◌/◌, ◌%◌, ◌^◌, ◌≤◌, length, get_or, take, drop, Some, sym, ap, ◌∙◌, ap₂, arith}
use Rattle.gf2.specs.Words.{bits, number}
use Rattle.gf2.proofs.Masks.{low_bits}
use Rattle.gf2.proofs.Places.{bits_length}
use Rattle.gf2.proofs.Windows.{run_number, no_number, that_number}
use Rattle.gf2.proofs.bits.number.Goals as goal

pub returns-then-not-hold_behind : goal.returns-then-not-hold_behind
returns-then-not-hold_behind c =
    let bs = c.args.bytes.now in
    record { number_of_those_bits = no_number 16 (bits bs) c.args.skip c.args.count (omega (arith, bits_length bs)) }

pub returns : goal.returns
returns c =
    let bs = c.args.bytes.now in
    let s = c.args.skip in
    let k = c.args.count in
    let a = s / 8 in
    let some : 1 ≤ k = omega arith in
    let few : k ≤ 16 = omega arith in
    let fit : s + k ≤ length (bits bs) = omega (arith, bits_length bs) in
    let shift = 2 ^ (24 - (s % 8 + k)) in
    let value : ((c.byte_or_0.result * 256 + c.byte_or_0-2.result) * 256 + c.byte_or_0-3.result) / shift % 2 ^ k ≡ number (take k (drop s (bits bs))) =
    ap₂ (λ (x y : ℕ). ((x * 256 + y) * 256 + c.byte_or_0-3.result) / shift % 2 ^ k) c.byte_or_0.ensures.the_byte_or_0 c.byte_or_0-2.ensures.the_byte_or_0
    ∙ ap (λ (z : ℕ). ((get_or bs a 0 * 256 + get_or bs (a + 1) 0) * 256 + z) / shift % 2 ^ k) c.byte_or_0-3.ensures.the_byte_or_0
    ∙ sym (run_number bs s k (λ i. omega (arith, c.type_inv.bytes i)) some (omega arith) fit) in
    record {
      number_of_those_bits =
          ap Some (low_bits 32 k (((c.byte_or_0.result * 256 + c.byte_or_0-2.result) * 256 + c.byte_or_0-3.result) / shift) (omega arith) ∙ value) ∙ that_number 16 (bits bs) s k some few fit;
    }
