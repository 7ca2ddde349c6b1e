use Rattle.std.proofs.Common.{◌+◌, ◌-◌, Bool, cond, not, take, Option, sym, ap₂, ◌∙◌, subst, arith}
use mathlib.Core.Bool.{beq}
use Rattle.gf2.specs.Words.{bits}
use Rattle.gf2.specs.Fields.{width}
use Rattle.gf2.proofs.Places.{bits_length}
use Rattle.inner.specs.Pages.{word_bits}
use Rattle.wordcode.specs.declared.settle.Choice.{Choice}
use Rattle.wordcode.specs.Reading.{Reads}
use Rattle.wordcode.specs.Settling.{answer_with}
use Rattle.wordcode.proofs.Readings.{unread, chosen_reads}
use Rattle.wordcode.proofs.settle.choice_for.Goals as goal

-- no inner codeword is near enough
pub returns-in_err-flips : goal.returns-in_err-flips
returns-in_err-flips g c =
    let C = g.C.InnerCode in
    let W = c.args.word.now in
    let V = bits c.nearest.new.word in
    record {
      answers_the_word_by_the_rules =
          subst (λ (d : Option Choice). Reads C.DATA C.CHECKS C.ERRORS C.FIELD C.checks (take (word_bits C.DATA C.CHECKS (width C.FIELD)) (bits W)) (answer_with (take C.DATA V) d))
          (sym c.from_residual.ensures)
          (unread C.laws C.setting W (bits c.args.inner.now) (bits c.inner_data.new.out) V (c.DATA.result + c.CHECKS.result) (ap₂ ◌+◌ c.DATA.ensures c.CHECKS.ensures)
          c.requires.word_has_its_bits (omega (arith, C.setting.page_fits, bits_length c.args.inner.now, c.fits-inner))
          c.inner_data.ensures.writes_v_k_over_the_first_bits c.in_err-flips.ensures.the_codeword_at_most_t_bits_away_or_none
          (omega (arith, C.setting.page_fits, bits_length c.inner_data.new.out, c.inner_data.auto.out, c.fits-inner)));
    }

pub returns : goal.returns
returns g c =
    let C = g.C.InnerCode in
    record {
      answers_the_word_by_the_rules =
          chosen_reads C.laws C.setting c.args.word.now (bits c.args.inner.now) (bits c.inner_data.new.out) (bits c.nearest.new.word) (c.DATA.result + c.CHECKS.result)
          (ap₂ ◌+◌ c.DATA.ensures c.CHECKS.ensures) c.requires.word_has_its_bits (omega (arith, C.setting.page_fits, bits_length c.args.inner.now, c.fits-inner))
          c.inner_data.ensures.writes_v_k_over_the_first_bits c.in_ok-flips.flips c.turned_distance-turned.result c.settle.result
          c.in_ok-flips.ensures.the_codeword_at_most_t_bits_away_or_none
          (c.turned_distance-turned.ensures.one_less_or_one_more
          ∙ ap₂ (λ (a b : Bool). cond (not (beq a b)) (c.in_ok-flips.flips - 1) (c.in_ok-flips.flips + 1)) c.is_set-before.ensures.the_bit_there c.is_set.ensures.the_bit_there)
          c.settle.ensures.by_the_rules;
    }
