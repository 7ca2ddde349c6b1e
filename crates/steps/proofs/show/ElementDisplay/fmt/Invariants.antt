use Rattle.std.proofs.Common.{take, ◌-◌}
use Rattle.std.specs.Fmt.{HasWritten, IsPlainFormatter}
use Rattle.gf2.specs.Words.{bits_of}
use Rattle.gf2.specs.Fields.{width}
use Rattle.steps.specs.Shown.{digits}
use Rattle.steps.proofs.show.ElementDisplay.fmt.Given as goal

abbrev pub invariant-loop-place : goal.invariant-loop-place
invariant-loop-place g l =
    IsPlainFormatter l.initial.f →
    HasWritten g.W.Write.write_str_gives l.initial.f (digits (take (width l.self-inside.field - l.place) (bits_of (width l.self-inside.field) l.self-inside.value))) l.f
