use Rattle.std.proofs.Common.{◌≡◌, ◌-◌, ◌/◌, ◌^◌}
use Rattle.gf2.specs.Product.{sum_of_shifts}
use Rattle.gf2.specs.Fields.{top, modulus_tail, width, element}
use Rattle.gf2.proofs.field.Field.product.Given as goal

-- the bits of b from i up are done
abbrev pub invariant-loop-i : goal.invariant-loop-i
invariant-loop-i l =
    l.sum ≡ sum_of_shifts (top l.self) (modulus_tail l.self) (width l.self - l.i) (element l.self l.a) (l.b / 2 ^ l.i)
