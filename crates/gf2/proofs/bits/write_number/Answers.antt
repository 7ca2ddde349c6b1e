use Rattle.std.proofs.Common.{ℕ, ◌+◌, ◌-◌, ◌/◌, ◌^◌, ◌<◌, Bool, eqb, List, set, sym, ap, ◌∙◌, ap₂, arith}
use lib.Bits.{and_mask}
use Rattle.gf2.specs.Words.{bits, bits_of}
use Rattle.gf2.proofs.Sums.{bits_of_length}
use Rattle.gf2.proofs.Digits.{bits_of_at}
use Rattle.gf2.proofs.Overwriting.{run_more, run_all}
use Rattle.gf2.proofs.bits.write_number.Goals as goal

pub loop-done-preserved : goal.loop-done-preserved
loop-done-preserved c =
    let j = c.loop-done.done in
    let k = c.args.count in
    let n = c.args.number in
    let B = bits c.args.bytes.now in
    let lt : j < k = c.loop-done-test.true in
    c.put.ensures.only_that_bit_is_set_so
    ∙ ap₂ (λ (w : List Bool) (v : Bool). set w (c.args.skip + j) v) c.loop-done.invariant
    (ap (λ (x : ℕ). eqb x 1) (and_mask (n / 2 ^ (k - 1 - j)) 1) ∙ sym (bits_of_at k j n lt))
    ∙ run_more c.args.skip j (bits_of k n) B (omega (arith, bits_of_length k n)) (omega (arith, c.requires.room))

pub returns : goal.returns
returns c =
    let k = c.args.count in
    let n = c.args.number in
    record { written = c.loop-done.invariant ∙ run_all c.args.skip c.loop-done.done (bits_of k n) (bits c.args.bytes.now) (omega (arith, bits_of_length k n)) }
