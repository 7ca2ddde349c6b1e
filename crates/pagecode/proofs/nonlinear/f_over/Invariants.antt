use Rattle.std.proofs.Common.{◌≡◌, ◌*◌, ◌≤◌, length}
use Rattle.gf2.specs.Words.{bits}
use Rattle.gf2.specs.Fields.{width, product}
use Rattle.pagecode.specs.Groups.{groups, sum_of_products}
use Rattle.pagecode.proofs.Pairs.{double}
use Rattle.pagecode.proofs.nonlinear.f_over.Given as goal

abbrev pub invariant-loop-pair : goal.invariant-loop-pair
invariant-loop-pair l =
    (l.sum ≡ sum_of_products (product l.field) (groups (width l.field) (double l.pair) (bits l.bytes)))
    × (double l.pair * width l.field ≤ length (bits l.bytes))
