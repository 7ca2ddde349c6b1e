use Rattle.std.proofs.Common.{◌≡◌, ◌+◌, ◌-◌, ◌++◌, length, take, drop, replicate, ◌∙◌, sym, arith}
use Rattle.inner.specs.Pages.{word_bits, bytes_for}
use Rattle.wordcode.specs.Refusals.{told}
use Rattle.wordcode.proofs.Passed.{Sized, lengths_pass, sizes}
use Rattle.wordcode.proofs.PagesMade.{message_source, cleared_front, cleared_behind, taken, made}
use Rattle.wordcode.proofs.page.encode_page.Goals as goal

pub returns : goal.returns
returns g c =
    let C = g.C.InnerCode in
    let S = C.setting in
    let D = c.args.bytes.now in
    let P = c.args.page.now in
    let long = lengths_pass D P c.data_bytes.result c.page_bytes.result c.in_ok-check_lengths.ensures.refuses_another_length in
    let fit : Sized C.DATA C.CHECKS C.ERRORS C.TAIL D P =
    record { data_sized = long.0 ∙ c.data_bytes.ensures.whole_bytes_of_a_message; page_sized = long.1 ∙ c.page_bytes.ensures.hold_a_word_and_its_mark } in
    let N = bytes_for (word_bits C.DATA C.CHECKS C.TAIL) in
    let source = take c.message_bytes.result c.copy_and_clear.new.out in
    let room = take c.word_bytes.result c.fill.new.self in
    let behind = drop c.word_bytes.result c.fill.new.self in
    let cleared = c.fill.ensures.after (λ y e. e) in
    let source_is : source ≡ D ++ replicate (bytes_for (C.DATA + 1) - length D) 0 =
    message_source C.DATA 2048 c.message_bytes.result D c.copy_and_clear.new.out fit.data_sized (omega (arith, S.page_fits)) c.message_bytes.ensures.hold_a_message
    c.copy_and_clear.ensures.source_then_zeros in
    let room_is : length room ≡ N = cleared_front c.word_bytes.result N P c.fill.new.self c.word_bytes.ensures.hold_a_word (omega (arith, fit.page_sized)) cleared in
    let behind_is : behind ≡ replicate (length P - N) 0 = cleared_behind c.word_bytes.result N P c.fill.new.self c.word_bytes.ensures.hold_a_word cleared in
    let answer = told c.encode.result in
    record {
      refuses_a_wrong_length =
          taken C.laws S D P source room behind c.encode.new.word answer fit.data_sized fit.page_sized source_is room_is behind_is
          c.encode.ensures.refuses_a_wrong_length_then_spare_bits
          ∙ sym (sizes C.DATA C.CHECKS C.ERRORS C.TAIL D P fit);
      writes_the_codeword_and_the_mark_or_nothing =
          made C.laws S D P source room behind c.encode.new.word answer fit.data_sized fit.page_sized source_is room_is behind_is
          c.encode.ensures.refuses_a_wrong_length_then_spare_bits c.encode.ensures.writes_the_codeword_or_nothing;
    }
