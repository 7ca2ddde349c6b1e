use Rattle.std.proofs.Common.{◌≡◌, ◌*◌, take}
use Rattle.gf2.specs.Words.{bits}
use Rattle.bch.specs.Settings.{checks_number}
use Rattle.bch.proofs.code.Bch.remainder.Given as goal

abbrev pub invariant-loop-byte : goal.invariant-loop-byte
invariant-loop-byte l = l.register ≡ checks_number l.self (take (l.byte-index * 8) (bits l.bytes))

abbrev pub invariant-loop-skip : goal.invariant-loop-skip
invariant-loop-skip l = l.register ≡ checks_number l.fn.self (take l.skip (bits l.bytes))
