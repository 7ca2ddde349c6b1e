use Rattle.std.proofs.Common.{◌+◌, ◌-◌, ◌/◌, ◌≤◌, Bool, cond, length, take, drop, sym, ap, ◌∙◌, arith, length-drop}
use Rattle.std.proofs.lemmas.List.{length-take-le}
use Rattle.gf2.specs.Words.{bits, bits_of, with_run}
use Rattle.gf2.proofs.Places.{bits_length}
use Rattle.gf2.proofs.Overwriting.{run_in_bytes, room_there, no_room, number_there}
use Rattle.gf2.proofs.bits.put_number.Goals as goal

pub returns-then-not-hold_behind : goal.returns-then-not-hold_behind
returns-then-not-hold_behind c =
    let bs = c.args.bytes.now in
    let s = c.args.skip in
    let k = c.args.count in
    let none = no_room (bits bs) s k c.if-count-gt128.false (omega (arith, bits_length bs)) in
    record {
      accepts_where_there_is_room = sym none;
      only_those_bits_are_set_so = sym (ap (λ (b : Bool). cond b (with_run s (bits_of k c.args.number) (bits bs)) (bits bs)) none);
    }

pub write_number-requires : goal.write_number-requires
write_number-requires c =
    let bs = c.args.bytes.now in
    let a = c.args.skip / 8 in
    record {
      room = omega (
        arith,
        bits_length (take (length bs - a) (drop a bs)),
        length-take-le (length bs - a) (drop a bs) (omega (arith, length-drop a bs)),
      );
      small = (omega arith, c.if-count-gt128.false);
    }

pub returns : goal.returns
returns c =
    let bs = c.args.bytes.now in
    let s = c.args.skip in
    let k = c.args.count in
    let few : k ≤ 128 = c.if-count-gt128.false in
    let there : s + k ≤ length (bits bs) = omega (arith, bits_length bs) in
    record {
      accepts_where_there_is_room = sym (room_there (bits bs) s k few there);
      only_those_bits_are_set_so =
          run_in_bytes bs c.write_number.new.bytes s (bits_of k c.args.number) (omega arith) c.write_number.ensures.written
          ∙ sym (number_there (bits bs) s k c.args.number few there);
    }
