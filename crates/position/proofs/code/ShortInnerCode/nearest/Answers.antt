use Rattle.std.proofs.Common.{◌≡◌, ℕ, Bool, false, not, leb, ◌≢◌, List, length, get_or, take, set, Option, sym, refl, ap, ◌∙◌, subst}
use Rattle.std.specs.List.{AllByRecursion as All}
use Rattle.std.proofs.lemmas.Bool.{leb-true}
use Rattle.gf2.specs.Words.{bits}
use Rattle.inner.specs.Nearest.{Nearest, Corrected}
use Rattle.position.specs.Labels.{label_sum}
use Rattle.position.specs.Short.{data_labels, short_labels, ShortCodeword}
use Rattle.position.proofs.Correcting.{right_already, one_wrong, none_near}
use Rattle.position.proofs.Words.{short_labels_length, if_some}
use Rattle.position.proofs.code.ShortInnerCode.nearest.Goals as goal

pub returns-then-sum-eq0 : goal.returns-then-sum-eq0
returns-then-sum-eq0 c =
    let w = bits c.args.word.now in
    let s = if_some (leb 554 (length w)) c.in_ok-sum.sum (label_sum short_labels (take 554 w)) c.in_ok-sum.ensures.sum_over_the_word in
    record {
      the_codeword_at_most_t_bits_away_or_none =
          right_already 544 10 data_labels short_labels_length w (leb-true 554 (length w) s.0) (sym s.1 ∙ c.if-sum-eq0.true);
    }

-- no bit has the sum as its label
pub returns-in_err-place : goal.returns-in_err-place
returns-in_err-place c =
    let w = bits c.args.word.now in
    let x = label_sum short_labels (take 554 w) in
    let s = if_some (leb 554 (length w)) c.in_ok-sum.sum x c.in_ok-sum.ensures.sum_over_the_word in
    record {
      the_codeword_at_most_t_bits_away_or_none =
          subst (λ (r : Option ℕ). Nearest 554 1 ShortCodeword w w r) (sym c.from_residual-in_err-place.ensures) (record {
            same = refl;
            none = λ enough.
                none_near 544 10 data_labels short_labels_length w enough (λ e. c.if-sum-eq0.false (s.1 ∙ e))
                (subst (λ (a : ℕ). All (λ b. b ≢ a) short_labels) s.1 c.in_err-place.ensures.a_place_with_that_label_or_none);
          });
    }

pub returns : goal.returns
returns c =
    let w = bits c.args.word.now in
    let i = c.in_ok-place.place in
    let s = if_some (leb 554 (length w)) c.in_ok-sum.sum (label_sum short_labels (take 554 w)) c.in_ok-sum.ensures.sum_over_the_word in
    let at = c.in_ok-place.ensures.a_place_with_that_label_or_none in
    let flipped : bits c.put.new.bytes ≡ set w i (not (get_or w i false)) =
    c.put.ensures.only_that_bit_is_set_so ∙ ap (λ (b : Bool). set w i (not b)) c.is_set.ensures.the_bit_there in
    record {
      the_codeword_at_most_t_bits_away_or_none =
          subst (λ (v : List Bool). Corrected 554 1 ShortCodeword w v 1) (sym flipped)
          (one_wrong 544 10 data_labels short_labels_length w (leb-true 554 (length w) s.0) i at.0 (at.1 ∙ s.1));
    }
