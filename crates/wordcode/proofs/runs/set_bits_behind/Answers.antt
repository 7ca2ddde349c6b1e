use Rattle.std.proofs.Common.{◌-◌, ◌*◌, ◌∙◌, false, length, get_or, refl, rules}
use Rattle.std.proofs.lemmas.Iterator.{YieldsList-from_range}
use Rattle.std.proofs.lemmas.Iterator.Consumers.{YieldsList-at, YieldsList-from_filter, count_from_yields_List}
use Rattle.std.proofs.lemmas.List.Sums.{length-filter}
use Rattle.std.specs.List.{range_with_len}
use Rattle.gf2.specs.Words.{bits}
use Rattle.wordcode.proofs.Counting.{counted_bytes}
use Rattle.wordcode.proofs.runs.set_bits_behind.Goals as goal

pub returns : goal.returns
returns c =
    let bs = c.args.bytes.now in
    let a = c.args.count in
    let n = 8 * length bs - a in
    record {
      set_bits_behind =
          count_from_yields_List _ c.count.result c.count.ensures.ran
          (YieldsList-from_filter _ (λ place. get_or (bits bs) place false) (YieldsList-at c.filter.ensures.source (YieldsList-from_range a (8 * length bs) n refl refl))
          c.filter.ensures.closure (λ x b q k. search rules))
          ∙ length-filter (λ place. get_or (bits bs) place false) (range_with_len a n) ∙ counted_bytes bs a;
    }
