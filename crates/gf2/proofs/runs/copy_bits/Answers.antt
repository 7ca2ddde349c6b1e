use Rattle.std.proofs.Common.{◌-◌, ◌/◌, ◌%◌, Bool, List, length, take, drop, ap, ◌∙◌, arith}
use Rattle.gf2.specs.Words.{bits, with_run}
use Rattle.gf2.proofs.Places.{bits_length, bits_from}
use Rattle.gf2.proofs.Overwriting.{run_in_bytes}
use Rattle.gf2.proofs.Copying.{both, written}
use Rattle.gf2.proofs.runs.copy_bits.Goals as goal

pub returns-clause-copies_those_bits_alone : goal.returns-clause-copies_those_bits_alone
returns-clause-copies_those_bits_alone c =
    let ms = c.args.source.now in
    let os = c.args.out.now in
    let s = c.args.skip in
    let k = c.args.count in
    let slice = take (length ms - s / 8) (drop (s / 8) ms) in
    run_in_bytes os c.copy_near.new.out c.args.at (take k (drop (s % 8) (bits slice))) (omega arith) c.copy_near.ensures.copied
    ∙ ap (λ (v : List Bool). with_run c.args.at (take k v) (bits os)) (bits_from ms s (omega arith))
    ∙ written k (bits ms) s (bits os) c.args.at (both k (bits ms) s (bits os) c.args.at (omega (arith, bits_length ms)) (omega (arith, bits_length os)))
