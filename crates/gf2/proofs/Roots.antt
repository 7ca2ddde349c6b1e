-- A polynomial that is not 0 has fewer distinct roots than coefficients.
use Rattle.std.proofs.Common.{◌≡◌, ℕ, suc, ◌^◌, ◌<◌, ◌≢◌, List, [], ◌∷◌, length, sym, refl, ap, ◌∙◌, ap₂, arith, pow_pos}
use lib.Bits.{bit_xor, xor_comm, xor_assoc, xor_zero_r, xor_self, xor_lt}
use Rattle.std.specs.List.{AllByRecursion as All}
use Rattle.gf2.specs.Polynomials.{value, Element, FewRoots}
use Rattle.gf2.specs.Fields.{IsField}
use Rattle.gf2.proofs.Ring.{◌⊕◌, xor4}
use Rattle.gf2.proofs.PowerLaws as powers
use Rattle.gf2.proofs.Vandermonde as v
use Rattle.gf2.proofs.Vandermonde.{xor_eq, all_map3}

-- c + a is (a + b) + (c + b)
xor_mid : (a b c : ℕ) → c ⊕ a ≡ (a ⊕ b) ⊕ (c ⊕ b)
xor_mid a b c =
    xor_comm c a ∙ sym (xor_zero_r (a ⊕ c)) ∙ ap (bit_xor (a ⊕ c)) (sym (xor_self b)) ∙ xor4 a c b b

-- the polynomial c, cs divided by z + x, whatever c is
quotient : (ℕ → ℕ → ℕ) → ℕ → List ℕ → List ℕ
quotient m x [] = []
quotient m x (d ∷ ds) = value m (d ∷ ds) x ∷ quotient m x ds

quotient_length : (m : ℕ → ℕ → ℕ) (x : ℕ) (cs : List ℕ) → length (quotient m x cs) ≡ length cs
unfolding quotient
quotient_length m x [] = refl
quotient_length m x (d ∷ ds) = ap suc (quotient_length m x ds)

module _ (k : ℕ) (m : ℕ → ℕ → ℕ) (F : IsField k m) where
  open F use {no_zero_divisors}
  open F.ring use {closed, commutative, associative, distributive, zero_product}

  pub value_lt : (cs : List ℕ) (z : ℕ) → All (Element k) cs → value m cs z < 2 ^ k
  unfolding value
  value_lt [] z h = pow_pos k
  value_lt (c ∷ cs) z h = xor_lt k c (m z (value m cs z)) h.0 (closed z (value m cs z))

  divide : (c : ℕ) (cs : List ℕ) (x z : ℕ) → value m (c ∷ cs) z ≡ m (z ⊕ x) (value m (quotient m x cs) z) ⊕ value m (c ∷ cs) x
  unfolding value quotient
  divide c [] x z = xor_mid (m z 0) (m x 0) c ∙ ap (λ (y : ℕ). y ⊕ (c ⊕ m x 0)) (sym (v.dist_l k m F z x 0))
  divide c (d ∷ ds) x z =
      let E = value m (d ∷ ds) x in
      let Q = value m (quotient m x ds) z in
      let w = z ⊕ x in
      ap (λ (y : ℕ). c ⊕ m z y) (divide d ds x z) ∙ ap (bit_xor c) (distributive z (m w Q) E ∙ xor_comm (m z (m w Q)) (m z E))
      ∙ xor_mid (m z E ⊕ m z (m w Q)) (m x E) c
      ∙ ap (λ (y : ℕ). y ⊕ (c ⊕ m x E))
      (xor_assoc (m z E) (m z (m w Q)) (m x E) ∙ ap (bit_xor (m z E)) (xor_comm (m z (m w Q)) (m x E)) ∙ sym (xor_assoc (m z E) (m x E) (m z (m w Q)))
      ∙ ap₂ bit_xor (sym (v.dist_l k m F z x E)) (powers.swap k m F.ring z w Q) ∙ sym (distributive w E (m z Q)))

  quotient_in : (x : ℕ) (cs : List ℕ) → All (Element k) cs → All (Element k) (quotient m x cs)
  unfolding quotient
  quotient_in x [] h = tt
  quotient_in x (d ∷ ds) h = (value_lt (d ∷ ds) x h, quotient_in x ds h.1)

  value_of_zeros : (cs : List ℕ) (x : ℕ) → All (λ c. c ≡ 0) cs → value m cs x ≡ 0
  unfolding value
  value_of_zeros [] x h = refl
  value_of_zeros (c ∷ cs) x h = ap₂ (λ (a b : ℕ). a ⊕ m x b) h.0 (value_of_zeros cs x h.1) ∙ zero_product x

  -- the first coefficient, where the others are 0
  constant : (c : ℕ) (cs : List ℕ) (x : ℕ) → All (λ c. c ≡ 0) cs → value m (c ∷ cs) x ≡ 0 → c ≡ 0
  unfolding value
  constant c cs x h e =
      sym (xor_zero_r c) ∙ ap (bit_xor c) (sym (ap (m x) (value_of_zeros cs x h) ∙ zero_product x)) ∙ e

  zero_quotient : (x : ℕ) (cs : List ℕ) → All (λ c. c ≡ 0) (quotient m x cs) → All (λ c. c ≡ 0) cs
  unfolding quotient
  zero_quotient x [] h = tt
  zero_quotient x (d ∷ ds) h = let rest = zero_quotient x ds h.1 in (constant d ds x rest h.0, rest)

  pub few_roots : FewRoots k m
  few_roots [] xs coefs some pts apart zs = absurd (some tt)
  few_roots (c ∷ cs) [] coefs some pts apart zs = omega arith
  few_roots (c ∷ cs) (x ∷ xs) coefs some pts apart zs =
      let ih =
      few_roots (quotient m x cs) xs (quotient_in x cs coefs.1)
      (λ z. let rest = zero_quotient x cs z in some (constant c cs x rest zs.0, rest))
      pts.1 apart.1 (all_map3 back xs pts.1 apart.0 zs.1) in
      omega (arith, quotient_length m x cs)
    where
      back : (y : ℕ) → y < 2 ^ k → y ≢ x → value m (c ∷ cs) y ≡ 0 → value m (quotient m x cs) y ≡ 0
      back y l d e =
          no_zero_divisors (y ⊕ x) (value m (quotient m x cs) y) (xor_lt k y x l pts.0) (value_lt (quotient m x cs) y (quotient_in x cs coefs.1))
          (λ q. d (xor_eq y x q))
          (sym (xor_zero_r (m (y ⊕ x) (value m (quotient m x cs) y)))
          ∙ ap (bit_xor (m (y ⊕ x) (value m (quotient m x cs) y))) (sym zs.0) ∙ sym (divide c cs x y) ∙ e)
