use Rattle.std.proofs.Common.{◌-◌, arith}
use Rattle.bch.proofs.Bytes.{tops, by_table}
use Rattle.bch.proofs.code.Bch.next_byte.Goals as goal

pub returns : goal.returns
returns c =
    let C = c.args.self in
    record {
      eight_bits_on =
          by_table C c.args.table.now c.requires.remainders (c.degree-keep.result - 8) c.args.register c.from.result c.args.byte
          (omega (arith, c.degree-keep.ensures.check_bits_of_a_word, (tops C).1)) c.from.ensures c.ranges.byte.fits c.requires.reduced;
    }
