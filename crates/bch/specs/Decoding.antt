-- How a word is corrected: a bit is flipped where the polynomials that are left by the elimination are all 0 at its point.
-- The point of the bit that has i bits behind it is alpha^i.
use Rattle.std.specs.Prelude.{◌≡◌, ℕ, zero, suc, ◌<◌, Bool, true, false, cond, List, [], ◌∷◌, length, ◌==◌, fold, reverse}
use Rattle.std.specs.Option.{unwrap_or}
use Rattle.gf2.specs.declared.field.Field.{Field}
use Rattle.gf2.specs.Fields.{alpha, sum, product, power as power_in, inverse}
use Rattle.gf2.specs.Polynomials.{power}
use Rattle.bch.specs.Elimination.{against, sequence}

-- the inverse, and 0 for 0
abbrev pub inverse_or_0 : Field → ℕ → ℕ
inverse_or_0 F a = unwrap_or (inverse F a) 0

-- every polynomial of the list is 0 at y, under the product m
unfoldable pub all_vanish : (ℕ → ℕ → ℕ) → List (List ℕ) → ℕ → Bool
all_vanish m [] y = true
all_vanish m (p ∷ ps) y = cond (against m p (power m y) 0 == 0) (all_vanish m ps y) false

-- all the polynomials are 0 at the point of the bit that has i bits behind it
unfoldable pub root_at : Field → List (List ℕ) → ℕ → Bool
root_at F ps i = all_vanish (product F) ps (power_in F alpha i)

-- n bits, each marked if the number of bits behind it passes the test
unfoldable pub marks : (ℕ → Bool) → ℕ → List Bool
marks f zero = []
marks f (suc n) = f n ∷ marks f n

-- the bits to flip in a word of n bits
abbrev pub root_marks : Field → List (List ℕ) → ℕ → List Bool
root_marks F ps n = marks (root_at F ps) n

-- the sequence is 0 at j, j+1 and so on, n of them
unfoldable pub zeros : (ℕ → ℕ) → ℕ → ℕ → Bool
zeros s j zero = true
zeros s j (suc n) = cond (s j == 0) (zeros s (suc j) n) false

-- the polynomial at y, from its highest coefficient down
abbrev pub running_value : Field → ℕ → List ℕ → ℕ
running_value F y p = fold (λ value c. sum F (product F value y) c) 0 (reverse p)

-- the terms c_k y^k of a polynomial p of six coefficients at y, which the search for common roots moves from point to point
pub record TermsAt (F : Field) (p : List ℕ) (y : ℕ) (terms : List ℕ) : Type 0 where
  pub six : length p ≡ 6
  pub each : (k : ℕ) → k < 6 → sequence terms k ≡ product F (sequence p k) (power_in F y k)
