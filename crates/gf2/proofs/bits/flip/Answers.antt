use Rattle.std.proofs.Common.{Bool, List, sym, ap, ◌∙◌}
use Rattle.gf2.specs.Words.{bits, bit_number}
use Rattle.gf2.proofs.Numbered.{flipped_none, flipped_bit, flipped_at_number, within}
use Rattle.gf2.proofs.bits.flip.Goals as goal

pub returns-in_err-old : goal.returns-in_err-old
returns-in_err-old c =
    let w = bits c.args.bytes.now in
    let none = sym c.in_err-old.ensures.that_bit_or_none in
    record { flips_that_bit_alone = sym (flipped_none w c.args.nth none); answers_the_new_bit = c.from_residual.ensures ∙ sym none }

pub overflow_sub-nth : goal.overflow_sub-nth
overflow_sub-nth c = (within (bits c.args.bytes.now) c.args.nth c.in_ok-old.old (sym c.in_ok-old.ensures.that_bit_or_none)).0

pub returns : goal.returns
returns c =
    let w = bits c.args.bytes.now in
    let i = c.args.nth in
    let there = sym c.in_ok-old.ensures.that_bit_or_none in
    let after = c.put.ensures.only_that_bit_is_set_so ∙ sym (flipped_at_number w i c.in_ok-old.old there) in
    record {
      flips_that_bit_alone = after;
      answers_the_new_bit = sym (flipped_bit w i c.in_ok-old.old there) ∙ sym (ap (λ (v : List Bool). bit_number v i) after);
    }
