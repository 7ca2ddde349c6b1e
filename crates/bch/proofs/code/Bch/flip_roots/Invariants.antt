use Rattle.std.proofs.Common.{◌≡◌, ◌+◌, ◌-◌, ◌≤◌, [], get_or}
use Rattle.gf2.specs.Words.{bits, add, weight}
use Rattle.gf2.specs.Fields.{alpha, power}
use Rattle.bch.specs.Decoding.{root_at, root_marks, TermsAt}
use Rattle.bch.specs.Settings.{field, word_bits}
use Rattle.bch.proofs.Flips.{last_marks}
use Rattle.bch.proofs.code.Bch.flip_roots.Given as goal

-- the bits from `skip` on are done
abbrev pub invariant-loop-skip : goal.invariant-loop-skip
invariant-loop-skip l =
    (l.first.field ≡ field l.fn.self)
    × (l.first.point ≡ power (field l.fn.self) alpha (word_bits l.fn.self - l.skip))
    × TermsAt (field l.fn.self) (get_or l.left.polys.items 0 []) l.first.point l.first.values
    × (l.flips + l.skip ≤ word_bits l.fn.self)
    × (l.flips ≡ weight (root_marks (field l.fn.self) l.left.polys.items (word_bits l.fn.self - l.skip)))
    × (bits l.bytes
    ≡ add (bits l.initial.bytes) (last_marks (root_at (field l.fn.self) l.left.polys.items) (word_bits l.fn.self) (word_bits l.fn.self - l.skip)))
