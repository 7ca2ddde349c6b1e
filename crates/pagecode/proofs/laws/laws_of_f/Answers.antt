use Rattle.pagecode.proofs.Pairs.{sum_over_pairs}
use Rattle.pagecode.proofs.laws.laws_of_f.Goals as goal

pub returns : goal.returns
returns c = record { f-is-the-sum-over-the-pairs-of-groups = sum_over_pairs }
