use Rattle.std.proofs.Common.{◌≡◌, ◌*◌, take, drop}
use Rattle.gf2.specs.Words.{bits, with_run}
use Rattle.gf2.proofs.runs.Run.copy_to_front.Given as goal

abbrev pub invariant-loop-i : goal.invariant-loop-i
invariant-loop-i l = bits l.out ≡ with_run 0 (take (l.i * 8) (drop l.self.skip (bits l.self.bytes.now))) (bits l.initial.out)
