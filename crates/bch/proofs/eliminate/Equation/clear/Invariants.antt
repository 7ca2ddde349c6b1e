use Rattle.std.proofs.Common.{◌≡◌, ◌+◌, ◌++◌, [], get_or, take, drop}
use Rattle.gf2.specs.Fields.{product}
use Rattle.bch.specs.Elimination.{cleared, sequence}
use Rattle.bch.specs.Decoding.{inverse_or_0}
use Rattle.bch.proofs.eliminate.Equation.clear.Given as goal

abbrev pub invariant-loop-k : goal.invariant-loop-k
invariant-loop-k l =
    take l.k l.polys
    ++ cleared (product l.self.sequence.field) (inverse_or_0 l.self.sequence.field) (sequence l.self.sequence.members) l.self.i l.first (drop (l.k + 1) l.polys)
    ≡ cleared (product l.self.sequence.field) (inverse_or_0 l.self.sequence.field) (sequence l.self.sequence.members) l.self.i (get_or l.initial.polys 0 []) (drop 1 l.initial.polys)
