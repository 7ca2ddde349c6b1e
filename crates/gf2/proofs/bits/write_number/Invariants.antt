use Rattle.std.proofs.Common.{◌≡◌, take}
use Rattle.gf2.specs.Words.{bits, bits_of, with_run}
use Rattle.gf2.proofs.bits.write_number.Given as goal

abbrev pub invariant-loop-done : goal.invariant-loop-done
invariant-loop-done l = bits l.bytes ≡ with_run l.skip (take l.done (bits_of l.count l.number)) (bits l.initial.bytes)
