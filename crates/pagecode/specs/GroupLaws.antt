-- What fixes f: it is 0 of no bits, the product of a pair of groups, and adds up over pairs of groups.
use Rattle.std.specs.Prelude.{◌≡◌, ◌*◌, ◌%◌, ◌^◌, ◌<◌, Bool, List, [], ◌++◌, length, bit_xor}
use Rattle.gf2.specs.declared.field.Field.{Field}
use Rattle.gf2.specs.Words.{number}
use Rattle.gf2.specs.Fields.{width, product}
use Rattle.pagecode.specs.Groups.{f}

pub record SumOverPairs (F : Field) : Type 0 where
  pub element : (w : List Bool) → f F w < 2 ^ width F
  pub of_nothing : f F [] ≡ 0
  pub of_a_pair : (a b : List Bool) → length a ≡ width F → length b ≡ width F → f F (a ++ b) ≡ product F (number a) (number b)
  pub adds_up : (a b : List Bool) → length a % (2 * width F) ≡ 0 → f F (a ++ b) ≡ bit_xor (f F a) (f F b)
