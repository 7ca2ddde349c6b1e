use Rattle.std.proofs.Common.{ℕ, not, false, get_or, refl, ◌∙◌, rules}
use lib.Bits.{bit_xor}
use Rattle.std.proofs.lemmas.Iterator.{YieldsList-from_range}
use Rattle.std.proofs.lemmas.Iterator.Consumers.{YieldsList-at, YieldsList-from_filter, YieldsList-from_enumerate, fold_from_yields_List}
use Rattle.gf2.specs.Words.{bits}
use Rattle.position.specs.Labels.{is_power_of_two}
use Rattle.position.proofs.Runs.{added_is}
use Rattle.position.proofs.labels.data_sum.Goals as goal

pub returns : goal.returns
returns c =
    let w = bits c.args.word.now in
    record {
      sum_over_the_data_bits =
          fold_from_yields_List _ (λ (sum : ℕ) (p : ℕ × ℕ). bit_xor sum p.1) 0 c.fold.result c.fold.ensures.ran
          (YieldsList-from_filter _ (λ (p : ℕ × ℕ). get_or w p.0 false)
          (YieldsList-at c.filter-2.ensures.source
          (YieldsList-from_enumerate
          (YieldsList-at c.enumerate.ensures.source
          (YieldsList-from_filter _ (λ m. not (is_power_of_two m)) (YieldsList-at c.filter.ensures.source (YieldsList-from_range 3 555 552 refl refl)) c.filter.ensures.closure
          (λ x b q k. search rules)))
          c.enumerate.ensures.count))
          c.filter-2.ensures.closure (λ x b q k. search rules))
          (λ a x b q k. search rules)
          ∙ added_is w;
    }
