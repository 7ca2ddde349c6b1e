use Rattle.std.proofs.Common.{◌-◌, Bool, ℕ, List, ap, ◌∙◌, arith}
use Rattle.gf2.specs.Words.{bits, bits_of, with_run}
use Rattle.gf2.proofs.Sums.{bits_of_length}
use Rattle.gf2.proofs.Places.{bits_length}
use Rattle.gf2.proofs.Copying.{over_byte, over_byte_lt, first_byte_set}
use Rattle.gf2.proofs.runs.Run.copy_into_byte.Goals as goal

pub overflow_cast-out-3 : goal.overflow_cast-out-3
overflow_cast-out-3 c =
    let k = c.args.self.now.count in
    let at = c.args.at in
    record {
      fits = over_byte_lt at k (8 - at) (8 - at - k) c.from-old.result c.few_behind-run.result (omega arith) (omega arith) (omega arith) c.few_behind-run.ensures.no_more_bits;
    }

pub returns : goal.returns
returns c =
    let k = c.args.self.now.count in
    let at = c.args.at in
    let out = c.args.out.now in
    let run = c.few_behind-run.result in
    record {
      copied =
          first_byte_set out _ at (bits_of k run) (omega (arith, bits_length out, c.requires.out_has_room)) (omega (arith, bits_of_length k run))
          (over_byte at k (8 - at) (8 - at - k) c.from-old.result run (omega arith) (omega arith) (omega arith) c.few_behind-run.ensures.no_more_bits
          ∙ ap (λ (b : ℕ). with_run at (bits_of k run) (bits_of 8 b)) c.from-old.ensures)
          ∙ ap (λ (w : List Bool). with_run at w (bits out)) c.few_behind-run.ensures.those_bits;
    }
