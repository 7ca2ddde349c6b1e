use Rattle.std.proofs.Common.{◌≡◌}
use Rattle.gf2.specs.Fields.{alpha, power, product}
use Rattle.bch.proofs.syndrome.times_power.Given as goal

abbrev pub invariant-loop : goal.invariant-loop
invariant-loop l = l.moved ≡ product l.field (power l.field alpha l.counter) l.a
