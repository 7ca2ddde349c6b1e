use Rattle.std.specs.Fmt.{HasWritten, IsPlainFormatter}
use Rattle.std.specs.List.{flat_map}
use Rattle.gf2.specs.Fields.{width}
use Rattle.pagecode.specs.Groups.{groups}
use Rattle.steps.specs.Shown.{group_text}
use Rattle.steps.proofs.explain.Steps.write_groups.Given as goal

abbrev pub invariant-loop-index : goal.invariant-loop-index
invariant-loop-index g l =
    IsPlainFormatter l.initial.f →
    HasWritten g.W.Write.write_str_gives l.initial.f (flat_map (group_text l.self.field) (groups (width l.self.field) l.index l.self.v_k)) l.f
