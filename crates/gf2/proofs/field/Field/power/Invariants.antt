use Rattle.std.proofs.Common.{◌≡◌, ◌^◌, ◌<◌}
use Rattle.gf2.specs.Fields.{width, product, power}
use Rattle.gf2.proofs.field.Field.power.Given as goal

-- what is gathered, times what is left, is the whole power
abbrev pub invariant-loop-left : goal.invariant-loop-left
invariant-loop-left l =
    (product l.self l.result (power l.self l.square l.left) ≡ power l.self l.a l.exponent)
    × (l.result < 2 ^ width l.self)

abbrev pub decreases-loop-left : goal.decreases-loop-left
decreases-loop-left l = l.left
