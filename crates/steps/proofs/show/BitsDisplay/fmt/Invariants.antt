use Rattle.std.proofs.Common.{take}
use Rattle.std.specs.Fmt.{HasWritten, IsPlainFormatter}
use Rattle.gf2.specs.Words.{bits}
use Rattle.steps.specs.Shown.{digits}
use Rattle.steps.proofs.show.BitsDisplay.fmt.Given as goal

abbrev pub invariant-loop-done : goal.invariant-loop-done
invariant-loop-done g l =
    IsPlainFormatter l.initial.f →
    HasWritten g.W.Write.write_str_gives l.initial.f (digits (take l.done (bits l.self-inside.bytes.now))) l.f
