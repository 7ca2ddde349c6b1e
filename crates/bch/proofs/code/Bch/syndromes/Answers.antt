use Rattle.std.proofs.Common.{rules, arith}
use Rattle.bch.specs.Theory.Tested.{tested}
use Rattle.bch.proofs.code.Bch.syndromes.Goals as goal

pub returns-clause-up_to_twice_t : goal.returns-clause-up_to_twice_t
returns-clause-up_to_twice_t c = λ j u.
    let call = c.from_fn.ensures.items.at j 0 (omega (arith, (tested c.args.self).few)) in
    search rules
