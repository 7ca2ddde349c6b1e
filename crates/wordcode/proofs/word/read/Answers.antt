use Rattle.std.proofs.Common.{◌≡◌, ℕ, ◌+◌, List, Bool, take, Err, Option, sym, ap, ◌∙◌, subst, arith}
use Rattle.std.specs.Option.{ok_or}
use Rattle.std.proofs.lemmas.Result.{err_from_is_err_and}
use Rattle.gf2.specs.declared.field.Field.{Field}
use Rattle.gf2.specs.Words.{bits}
use Rattle.gf2.specs.Fields.{width}
use Rattle.gf2.proofs.Places.{bits_length}
use Rattle.inner.specs.Pages.{word_bits}
use Rattle.wordcode.specs.declared.refusal.Refusal.TheVariants.{Unreadable}
use Rattle.wordcode.specs.declared.settle.Choice.{Choice}
use Rattle.wordcode.specs.Reading.{Reads}
use Rattle.wordcode.specs.Settling.{answer_with}
use Rattle.wordcode.proofs.Passed.{lengths_pass, passed_checks}
use Rattle.wordcode.proofs.Readings.{refused_by_the_rules, answered_by_the_rules}
use Rattle.wordcode.proofs.word.read.Goals as goal

-- the answer of a choice that is known
reads_as : (k1 r1 t : ℕ) (F : Field) (checks : List Bool → List Bool) (word : List ℕ) (V : List Bool) (c : Option Choice) {d : Option Choice} → c ≡ d
    → Reads k1 r1 t F checks (take (word_bits k1 r1 (width F)) (bits word)) (answer_with (take k1 V) c)
    → Reads k1 r1 t F checks (take (word_bits k1 r1 (width F)) (bits word)) (answer_with (take k1 V) d)
reads_as k1 r1 t F checks word V c e reads =
    subst (λ (d : Option Choice). Reads k1 r1 t F checks (take (word_bits k1 r1 (width F)) (bits word)) (answer_with (take k1 V) d)) e reads

pub choice_for-requires : goal.choice_for-requires
choice_for-requires g c =
    let whole =
    (lengths_pass c.args.word.now c.args.message.now c.word_bytes.result c.message_bytes.result c.in_ok-check_lengths.ensures.refuses_another_length).0 in
    record { word_has_its_bits = omega (arith, whole, c.word_bytes.ensures.hold_a_word, bits_length c.args.word.now) }

pub write_message-requires : goal.write_message-requires
write_message-requires g c =
    let whole =
    (lengths_pass c.args.word.now c.args.message.now c.word_bytes.result c.message_bytes.result c.in_ok-check_lengths.ensures.refuses_another_length).1 in
    record { message_has_room = omega (arith, whole, c.message_bytes.ensures.hold_a_message, bits_length c.args.message.now) }

pub returns-in_err-choice : goal.returns-in_err-choice
returns-in_err-choice g c =
    let C = g.C.InnerCode in
    let W = c.args.word.now in
    let M = c.args.message.now in
    let fit = passed_checks W M c.word_bytes.result c.message_bytes.result c.word_bits.result (word_bits C.DATA C.CHECKS C.TAIL) (C.DATA + 1)
    c.word_bytes.ensures.hold_a_word c.message_bytes.ensures.hold_a_message c.word_bits.ensures.bits_of_a_word c.in_ok-check_lengths.ensures.refuses_another_length
    c.in_ok-check_spare_bits.ensures.refuses_a_spare_bit in
    let none = c.in_err-choice.ensures.ok_part in
    let was = sym c.in_err-choice.was ∙ c.ok_or.ensures.value ∙ ap (λ (o : Option Choice). ok_or o Unreadable) none in
    let why : c.in_err-choice.field-0.0 ≡ Unreadable = cc in
    let e = err_from_is_err_and c.from_residual-in_err-choice.result c.from_residual-in_err-choice.ensures.1 in
    record {
      refuses_a_wrong_length_then_spare_bits_then_answers_by_the_rules =
          refused_by_the_rules C.laws C.setting W M c.from_residual-in_err-choice.result fit (e.1 ∙ ap Err (e.2 ∙ why))
          (reads_as C.DATA C.CHECKS C.ERRORS C.FIELD C.checks W (bits c.choice_for.new.inner) c.choice_for.result none c.choice_for.ensures.answers_the_word_by_the_rules);
    }

pub returns : goal.returns
returns g c =
    let C = g.C.InnerCode in
    let W = c.args.word.now in
    let M = c.args.message.now in
    let V = bits c.choice_for.new.inner in
    let fit = passed_checks W M c.word_bytes.result c.message_bytes.result c.word_bits.result (word_bits C.DATA C.CHECKS C.TAIL) (C.DATA + 1)
    c.word_bytes.ensures.hold_a_word c.message_bytes.ensures.hold_a_message c.word_bits.ensures.bits_of_a_word c.in_ok-check_lengths.ensures.refuses_another_length
    c.in_ok-check_spare_bits.ensures.refuses_a_spare_bit in
    record {
      refuses_a_wrong_length_then_spare_bits_then_answers_by_the_rules =
          answered_by_the_rules C.laws C.setting W M c.write_message.new.message fit V c.in_ok-choice.choice
          (reads_as C.DATA C.CHECKS C.ERRORS C.FIELD C.checks W V c.choice_for.result c.in_ok-choice.ensures.ok_part c.choice_for.ensures.answers_the_word_by_the_rules)
          c.write_message.ensures.written;
    }
