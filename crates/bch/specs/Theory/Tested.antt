-- What holds of the codes in use: each fact is one computed test.
use Rattle.std.proofs.Common.{arith, ◌≡◌, ◌+◌, ◌-◌, ◌^◌, ◌<◌, ◌≤◌, T, length, refl, lit<, lit≤}
use Rattle.gf2.specs.Product.{times_x, sum_of_shifts, times}
use Rattle.gf2.specs.Polynomials.{power as power_under}
use Rattle.gf2.specs.Fields.{width}
use Rattle.bch.specs.declared.code.Bch.{Bch}
use Rattle.bch.specs.declared.code.Bch.TheVariants.{Worked, Long}
use Rattle.bch.specs.Decoding.{zeros}
use Rattle.bch.specs.Theory.Remainder.{digits_value}
use Rattle.bch.specs.Theory.Orbits.{twice, not_in, differ, orbits}
use Rattle.bch.specs.Settings.{field, errors, word_bits, generator_top, generator_tail, check_bits, data_bits}
use Rattle.bch.specs.Theory.Generator.{generator_value}

pub record Tested (C : Bch) : Type 0 where
  pub some : 1 ≤ errors C
  pub few : errors C < 6
  pub short : word_bits C ≤ 2 ^ width (field C) - 1
  pub near : word_bits C ≤ 65536
  pub checked : check_bits C ≤ word_bits C
  pub small : generator_top C < 127
  pub tail : generator_tail C < 2 ^ check_bits C
  -- the generator is 0 at alpha^1 to alpha^(2t)
  pub roots : T (zeros (generator_value (field C) (generator_top C) (generator_tail C)) 1 (errors C + errors C))
  -- the exponents of its roots, as many as its degree, are distinct
  pub apart : T (differ (2 ^ width (field C) - 1) (orbits (2 ^ width (field C) - 1) (width (field C)) (errors C)))
  pub all : length (orbits (2 ^ width (field C) - 1) (width (field C)) (errors C)) ≡ check_bits C

pub tested : (C : Bch) → Tested C
unfolding zeros digits_value power_under times sum_of_shifts times_x orbits twice differ not_in
tested Worked = record { some = lit≤ tt; few = lit< tt; short = lit≤ tt; near = lit≤ tt; checked = lit≤ tt; small = lit< tt; tail = lit< tt; roots = tt; apart = tt; all = refl }
tested Long = record { some = lit≤ tt; few = lit< tt; short = lit≤ tt; near = lit≤ tt; checked = lit≤ tt; small = lit< tt; tail = lit< tt; roots = tt; apart = tt; all = refl }

-- a word is data bits and check bits
pub whole : (C : Bch) → word_bits C ≡ data_bits C + check_bits C
whole C = omega (arith, (tested C).checked)
