-- The powers of alpha as the points of a word's bits.
use Rattle.std.proofs.Common.{◌≡◌, ℕ, ◌-◌, ◌^◌, ◌<◌, Bool, cond, ◌≢◌, List, [], ◌∷◌, length, Some, None, unwrap_or, sym, refl, ap, ◌∙◌, ap₂, mod-eq_of_lt, arith}
use lib.Bits.{bit_xor}
use lib.Pow.{pow-lt}
use Rattle.std.proofs.lemmas.Bool.{ne_eqb}
use Rattle.gf2.specs.declared.field.Field.{Field}
use Rattle.gf2.specs.Polynomials.{Nonzero}
use Rattle.gf2.specs.Fields.{width, element, product, power, alpha}
use Rattle.gf2.proofs.Five as five
use Rattle.gf2.proofs.PowerLaws as powers
use Rattle.gf2.proofs.Vandermonde as v
use Rattle.bch.specs.Code.{word_value, syndrome}
use Rattle.bch.specs.Decoding.{inverse_or_0}
use Rattle.bch.specs.Theory.AnyPoints.{locator_sum}

module _ (F : Field) where
  -- the number of points
  abbrev pub count : ℕ
  count = 2 ^ width F - 1

  pub inverts : (a : ℕ) → a < 2 ^ width F → a ≢ 0 → product F a (inverse_or_0 F a) ≡ 1
  inverts a h z =
      let some : element F a ≢ 0 = λ e. z (sym (mod-eq_of_lt h) ∙ e) in
      ap (λ (b : Bool). product F a (unwrap_or (cond b None (Some (power F a (2 ^ width F - 2)))) 0)) (ne_eqb (element F a) 0 some)
      ∙ five.inverts F a some

  alpha_point : Nonzero (width F) alpha
  alpha_point = (pow-lt {i = 1} {j = width F} (omega (arith, (five.widths F).0)), λ e. omega arith)

  pub points : (i : ℕ) → i < count → Nonzero (width F) (power F alpha i)
  points i h = (
    powers.power_lt (width F) (product F) (five.ring F) (five.field F).nontrivial alpha i,
    v.power_not_0 (width F) (product F) (five.field F) alpha i alpha_point,
  )

  pub apart : (i j : ℕ) → i < j → j < count → power F alpha i ≢ power F alpha j
  apart = (five.alpha_generates F).distinct

  -- the sum over the points of the set bits is the polynomial's value
  pub sum_is_syndrome : (w : List Bool) (j : ℕ) → locator_sum (product F) (power F alpha) w j ≡ syndrome F w j
  unfolding locator_sum word_value
  sum_is_syndrome [] j = refl
  sum_is_syndrome (b ∷ bs) j =
      ap₂ (λ (x y : ℕ). bit_xor (cond b x 0) y)
      (powers.power_swap (width F) (product F) (five.ring F) (five.field F).nontrivial alpha (length bs) j) (sum_is_syndrome bs j)
