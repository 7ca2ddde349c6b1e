use Rattle.std.proofs.Common.{◌*◌}
use Rattle.std.specs.Fmt.{HasWritten, IsPlainFormatter}
use Rattle.gf2.specs.Fields.{width}
use Rattle.pagecode.specs.Groups.{groups}
use Rattle.steps.specs.Shown.{products_of}
use Rattle.steps.proofs.explain.Steps.write_products.Given as goal

abbrev pub invariant-loop-pair : goal.invariant-loop-pair
invariant-loop-pair g l =
    IsPlainFormatter l.initial.f →
    HasWritten g.W.Write.write_str_gives l.initial.f (products_of l.self.field (groups (width l.self.field) (2 * l.pair) l.self.v_k)) l.f
