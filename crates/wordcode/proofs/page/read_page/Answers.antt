use Rattle.std.proofs.Common.{ℕ, replicate, Err, ap, ◌∙◌, arith}
use Rattle.std.proofs.lemmas.Result.{err_from_is_err_and}
use lib.ListN.{length-replicate}
use Rattle.gf2.proofs.Places.{bits_length}
use Rattle.wordcode.proofs.Passed.{lengths_pass}
use Rattle.wordcode.proofs.PagesRead.{refused, given}
use Rattle.wordcode.proofs.page.read_page.Goals as goal

pub is_marked-requires : goal.is_marked-requires
is_marked-requires g c =
    let long =
    lengths_pass c.args.bytes.now c.args.page.now c.data_bytes-held.result c.page_bytes.result c.in_ok-check_lengths.ensures.refuses_another_length in
    let sized = long.1 ∙ c.page_bytes.ensures.hold_a_word_and_its_mark in
    record {
      small = (
        omega (arith, sized, c.word_bits-bits.ensures.bits_of_a_word, bits_length c.args.page.now),
        omega (arith, sized, g.C.InnerCode.setting.page_fits),
      );
    }

pub first_bits-requires-clause-room : goal.first_bits-requires-clause-room
first_bits-requires-clause-room g c =
    omega (arith, c.word_bits-bits.ensures.bits_of_a_word, g.C.InnerCode.setting.page_fits, bits_length (replicate 2048 0), length-replicate {A = ℕ} 2048 0)

pub returns-in_err-reading : goal.returns-in_err-reading
returns-in_err-reading g c =
    let e = err_from_is_err_and c.from_residual-in_err-reading.result c.from_residual-in_err-reading.ensures.1 in
    record {
      refuses_a_wrong_length_then_reads_by_the_mark =
          refused g.C.InnerCode.checks g.C.InnerCode.setting c.word_bits-bits.result c.word_bytes.result c.message_bytes.result c.data_bytes-held.result
          c.page_bytes.result c.word_bits-bits.ensures.bits_of_a_word c.word_bytes.ensures.hold_a_word c.message_bytes.ensures.hold_a_message
          c.data_bytes-held.ensures.whole_bytes_of_a_message c.page_bytes.ensures.hold_a_word_and_its_mark c.args.page.now c.args.bytes.now
          c.in_ok-check_lengths.ensures.refuses_another_length c.first_bits.new.word c.read.new.message
          c.if-not-is_marked.ensures.most_bits_of_the_mark_are_zero c.first_bits.auto.word c.first_bits.ensures.those_bits_then_zeros
          c.in_err-reading.field-0.0 c.from_residual-in_err-reading.result (e.1 ∙ ap Err e.2)
          c.in_err-reading.ensures.refuses_a_wrong_length_then_spare_bits_then_answers_by_the_rules;
    }

pub returns : goal.returns
returns g c =
    record {
      refuses_a_wrong_length_then_reads_by_the_mark =
          given g.C.InnerCode.checks g.C.InnerCode.setting c.word_bits-bits.result c.word_bytes.result c.message_bytes.result c.data_bytes-held.result
          c.page_bytes.result c.word_bits-bits.ensures.bits_of_a_word c.word_bytes.ensures.hold_a_word c.message_bytes.ensures.hold_a_message
          c.data_bytes-held.ensures.whole_bytes_of_a_message c.page_bytes.ensures.hold_a_word_and_its_mark c.args.page.now c.args.bytes.now
          c.in_ok-check_lengths.ensures.refuses_another_length c.first_bits.new.word c.read.new.message
          c.if-not-is_marked.ensures.most_bits_of_the_mark_are_zero c.first_bits.auto.word c.first_bits.ensures.those_bits_then_zeros
          c.in_ok-reading.reading c.copy_and_clear.new.out c.in_ok-reading.ensures.refuses_a_wrong_length_then_spare_bits_then_answers_by_the_rules
          c.read.auto.message c.copy_and_clear.ensures.source_then_zeros;
    }
