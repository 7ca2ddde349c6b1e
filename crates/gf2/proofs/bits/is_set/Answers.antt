use Rattle.std.proofs.Common.{◌/◌, false, length, sym, ◌∙◌}
use Rattle.std.proofs.lemmas.List.{get_or_past}
use Rattle.std.proofs.lemmas.Bool.{le-ltb}
use Rattle.gf2.specs.Words.{bits}
use Rattle.gf2.proofs.Numbered.{byte_bit, past_bytes}
use Rattle.gf2.proofs.bits.is_set.Goals as goal

pub returns-then-skip-bytes : goal.returns-then-skip-bytes
returns-then-skip-bytes c = record {
  the_bit_there = c.has_bit.ensures.the_bit_there ∙ sym (byte_bit c.args.bytes.now c.args.skip c.if-skip-bytes.true);
}

pub returns-else-skip-bytes : goal.returns-else-skip-bytes
returns-else-skip-bytes c =
    let bs = c.args.bytes.now in
    let past = c.if-skip-bytes.false in
    record { the_bit_there = le-ltb (c.args.skip / 8) (length bs) past ∙ sym (get_or_past (bits bs) c.args.skip false (past_bytes bs c.args.skip past)) }
