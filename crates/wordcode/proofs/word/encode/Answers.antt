use Rattle.std.proofs.Common.{◌≡◌, ℕ, ◌+◌, Bool, false, ◌++◌, length, get_or, take, drop, replicate, sym, ap, ◌∙◌, arith}
use Rattle.gf2.specs.Words.{bits, bits_of}
use Rattle.gf2.specs.Fields.{width}
use Rattle.gf2.proofs.Places.{bits_length}
use Rattle.inner.specs.Checks.{with_checks}
use Rattle.pagecode.specs.InnerData.{each, with_inner_data}
use Rattle.wordcode.specs.Codeword.{f_bits}
use Rattle.wordcode.specs.Bytes.{spare_clear, padded}
use Rattle.wordcode.proofs.Passed.{lengths_pass, spare_bits_pass}
use Rattle.wordcode.proofs.Encoded.{encoded}
use Rattle.wordcode.proofs.word.encode.Goals as goal

pub lay_out-requires : goal.lay_out-requires
lay_out-requires g c =
    let C = g.C.InnerCode in
    let M = c.args.message.now in
    let W = c.args.word.now in
    let long = lengths_pass M W c.message_bytes.result c.word_bytes.result c.in_ok-check_lengths.ensures.refuses_another_length in
    let em = long.0 ∙ c.message_bytes.ensures.hold_a_message in
    let ew = long.1 ∙ c.word_bytes.ensures.hold_a_word in
    let clear = spare_bits_pass (c.DATA.result + 1) M c.in_ok-check_spare_bits.ensures.refuses_a_spare_bit in
    record {
      message_in_whole_bytes = (omega (arith, em, bits_length M), ap (λ (k : ℕ). spare_clear (k + 1) M) (sym c.DATA.ensures) ∙ clear);
      word_has_room = (omega (arith, em, ew), omega (arith, ew, bits_length W));
    }

pub returns-clause-writes_the_codeword_or_nothing : goal.returns-clause-writes_the_codeword_or_nothing
returns-clause-writes_the_codeword_or_nothing g c =
    let C = g.C.InnerCode in
    let S = C.setting in
    let F = C.FIELD in
    let K = C.DATA in
    let k = c.DATA-2.ensures in
    let M = bits c.args.message.now in
    let W = c.args.word.now in
    let O = bits (replicate 2048 0) in
    let V = bits c.complete.new.word in
    let em = (lengths_pass c.args.message.now W c.message_bytes.result c.word_bytes.result c.in_ok-check_lengths.ensures.refuses_another_length).0
    ∙ c.message_bytes.ensures.hold_a_message in
    let made : V ≡ with_checks K C.CHECKS C.checks (with_inner_data M K O) =
    c.complete.ensures.check_bits_follow_the_data
    ∙ ap (with_checks K C.CHECKS C.checks) (c.inner_data.ensures.writes_v_k_over_the_first_bits ∙ ap (λ (i : ℕ). with_inner_data M i O) k) in
    let L = bits_of (width F) c.last_bits-last.result in
    let last : L ≡ each (get_or M 0 false) (f_bits F (take K V)) =
    c.last_bits-last.ensures.f_with_u_added ∙ ap (λ (u : Bool). each u (f_bits F (take K V))) c.is_set.ensures.the_bit_there in
    c.lay_out.ensures.message_checks_and_last_bits
    ∙ ap (padded (length (bits W)))
    (ap (λ (i : ℕ). (take (K + 1) M ++ take C.CHECKS (drop K V)) ++ bits_of i c.last_bits-last.result) S.width_of_a_field
    ∙ encoded C.laws F M O V L (omega (arith, S.a_byte_at_least)) (omega (arith, em, bits_length c.args.message.now))
    (omega (arith, bits_length (replicate 2048 0), S.page_fits)) made last)
