use Rattle.std.proofs.Common.{◌≡◌, ℕ, ◌-◌, ◌*◌, ltb, length, drop, ap₂, arith, length-drop}
use Rattle.gf2.specs.Words.{bits}
use Rattle.gf2.proofs.Places.{bits_length}
use Rattle.wordcode.proofs.Counting.{at_most}
use Rattle.wordcode.proofs.page.is_marked.Goals as goal

pub overflow_mul-result : goal.overflow_mul-result
overflow_mul-result c = omega (arith, c.requires.small.1, c.set_bits_behind.ensures.set_bits_behind, at_most c.args.page.now c.args.count)

pub overflow_sub-result : goal.overflow_sub-result
overflow_sub-result c = omega (arith, c.requires.small.0, bits_length c.args.page.now)

pub returns : goal.returns
returns c =
    let P = c.args.page.now in
    let n = c.args.count in
    let rest : 8 * length P - n ≡ length (drop n (bits P)) = omega (arith, bits_length P, length-drop n (bits P)) in
    record { most_bits_of_the_mark_are_zero = ap₂ (λ (i j : ℕ). ltb (2 * i) j) c.set_bits_behind.ensures.set_bits_behind rest }
