use Rattle.std.proofs.Common.{◌≡◌, ◌+◌, ◌-◌, ◌≤◌, take}
use Rattle.arrayvec.specs.ArrayVec.{array_vec_len}
use Rattle.gf2.specs.Fields.{product}
use Rattle.bch.specs.Elimination.{met_all, sequence, unit_rows}
use Rattle.bch.specs.Decoding.{inverse_or_0}
use Rattle.bch.proofs.eliminate.Sequence.solve.Given as goal

-- one at most went at each equation, and those that are left go on from here as the first ones did
abbrev pub invariant-loop-i : goal.invariant-loop-i
invariant-loop-i l =
    (l.t + 2 ≤ array_vec_len l.polys + l.i)
    × (met_all (product l.self.field) (inverse_or_0 l.self.field) (sequence l.self.members) (l.t + 1 - l.i) l.i l.polys.items
    ≡ met_all (product l.self.field) (inverse_or_0 l.self.field) (sequence l.self.members) l.t 1 (take (l.t + 1) unit_rows))
