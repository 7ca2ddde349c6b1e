use Rattle.std.proofs.Common.{◌≡◌, ◌-◌, take}
use Rattle.gf2.specs.Words.{bits_of}
use Rattle.gf2.specs.Fields.{alpha, product, power}
use Rattle.bch.specs.Settings.{field, check_bits}
use Rattle.bch.specs.Theory.Horner.{horner}
use Rattle.bch.proofs.code.Bch.syndrome.Given as goal

abbrev pub invariant-loop-place : goal.invariant-loop-place
invariant-loop-place l =
    l.sum
    ≡ horner (product (field l.fn.self)) (power (field l.fn.self) alpha l.j) 0 (take (check_bits l.fn.self - l.place) (bits_of (check_bits l.fn.self) l.number))
