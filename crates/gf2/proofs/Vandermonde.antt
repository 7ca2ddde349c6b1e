-- Vandermonde: power sums at distinct points other than 0, as many as there are points, are all 0 only if the coefficients are.
use Rattle.std.proofs.Common.{◌≡◌, ℕ, zero, suc, ◌+◌, ◌^◌, ◌<◌, ◌≤◌, ◌≢◌, List, [], ◌∷◌, length, sym, refl, ap, ◌∙◌, ap₂, arith}
use lib.Bits.{bit_xor, xor_assoc, xor_zero_r, xor_self, xor_lt}
use Rattle.std.specs.List.{AllByRecursion as All}
use Rattle.gf2.specs.Polynomials.{power, power_sum, Nonzero, Vandermonde}
use Rattle.gf2.proofs.Ring.{◌⊕◌, xor4}
use Rattle.gf2.specs.Fields.{IsField}
use Rattle.gf2.proofs.PowerLaws as powers

-- a sum is 0 only of equals
pub xor_eq : (a b : ℕ) → a ⊕ b ≡ 0 → a ≡ b
xor_eq a b e =
    sym (xor_zero_r a) ∙ ap (bit_xor a) (sym (xor_self b)) ∙ sym (xor_assoc a b b) ∙ ap (λ (x : ℕ). x ⊕ b) e

pub all_map2 : {X : Type 0} {P Q R : X → Type 0} → ((x : X) → P x → Q x → R x) → (xs : List X) → All P xs → All Q xs → All R xs
all_map2 f [] h g = tt
all_map2 f (x ∷ xs) h g = (f x h.0 g.0, all_map2 f xs h.1 g.1)

pub all_map3 : {P Q R S : ℕ → Type 0} → ((x : ℕ) → P x → Q x → R x → S x) → (xs : List ℕ) → All P xs → All Q xs → All R xs → All S xs
all_map3 {P} {Q} {R} {S} f xs h g k =
    all_map2 {P = λ x. R x → S x} {Q = R} {R = S} (λ x s r. s r) xs (all_map2 {P = P} {Q = Q} {R = λ x. R x → S x} f xs h g) k

module _ (k : ℕ) (m : ℕ → ℕ → ℕ) (F : IsField k m) where
  open F use {nontrivial, no_zero_divisors}
  open F.ring use {closed, commutative, associative, distributive, unit, zero_product}

  pub dist_l : (a b c : ℕ) → m (a ⊕ b) c ≡ m a c ⊕ m b c
  dist_l a b c = commutative (a ⊕ b) c ∙ distributive c a b ∙ ap₂ bit_xor (commutative c a) (commutative c b)

  pub nought_l : (a : ℕ) → m 0 a ≡ 0
  nought_l a = commutative 0 a ∙ zero_product a

  pub power_not_0 : (x j : ℕ) → Nonzero k x → power m x j ≢ 0
  unfolding power
  power_not_0 x zero h e = omega arith
  power_not_0 x (suc j) h e = power_not_0 x j h (no_zero_divisors x (power m x j) h.0 (powers.power_lt k m F.ring nontrivial x j) h.1 e)

  pub power_sum_0 : (c : ℕ → ℕ) (xs : List ℕ) (j : ℕ) → All (λ x. c x ≡ 0) xs → power_sum m c xs j ≡ 0
  unfolding power_sum
  power_sum_0 c [] j h = refl
  power_sum_0 c (x ∷ xs) j h = ap₂ bit_xor (ap (λ (y : ℕ). m y (power m x j)) h.0 ∙ nought_l (power m x j)) (power_sum_0 c xs j h.1)

  -- the coefficients with the point x taken out
  shifted : (ℕ → ℕ) → ℕ → ℕ → ℕ
  shifted c x y = m (c y) (y ⊕ x)

  one_shift : (c : ℕ → ℕ) (x y j : ℕ) → m (shifted c x y) (power m y j) ≡ m (c y) (power m y (suc j)) ⊕ m x (m (c y) (power m y j))
  unfolding shifted power
  one_shift c x y j =
      let P = power m y j in
      associative (c y) (y ⊕ x) P ∙ ap (m (c y)) (dist_l y x P) ∙ distributive (c y) (m y P) (m x P)
      ∙ ap (bit_xor (m (c y) (m y P))) (powers.swap k m F.ring (c y) x P)

  power_sum_shift : (c : ℕ → ℕ) (x : ℕ) (xs : List ℕ) (j : ℕ) → power_sum m (shifted c x) xs j ≡ power_sum m c xs (suc j) ⊕ m x (power_sum m c xs j)
  unfolding power_sum
  power_sum_shift c x [] j = sym (zero_product x)
  power_sum_shift c x (y ∷ xs) j =
      ap₂ bit_xor (one_shift c x y j) (power_sum_shift c x xs j)
      ∙ xor4 (m (c y) (power m y (suc j))) (m x (m (c y) (power m y j))) (power_sum m c xs (suc j)) (m x (power_sum m c xs j))
      ∙ ap (bit_xor (m (c y) (power m y (suc j)) ⊕ power_sum m c xs (suc j))) (sym (distributive x (m (c y) (power m y j)) (power_sum m c xs j)))

  power_sum_out : (c : ℕ → ℕ) (x : ℕ) (xs : List ℕ) (j : ℕ) → power_sum m (shifted c x) xs j ≡ power_sum m c (x ∷ xs) (suc j) ⊕ m x (power_sum m c (x ∷ xs) j)
  power_sum_out c x xs j = sym gone ∙ power_sum_shift c x (x ∷ xs) j
    where
      gone : power_sum m (shifted c x) (x ∷ xs) j ≡ power_sum m (shifted c x) xs j
      gone = unfold power_sum shifted in (ap (λ (y : ℕ). m (m (c x) y) (power m x j) ⊕ power_sum m (shifted c x) xs j) (xor_self x) ∙ ap (λ (y : ℕ). m y (power m x j) ⊕ power_sum m (shifted c x) xs j) (zero_product (c x)) ∙ ap (λ (y : ℕ). y ⊕ power_sum m (shifted c x) xs j) (nought_l (power m x j)))

  pub vandermonde : Vandermonde k m
  vandermonde [] c a pts apart low sums = tt
  vandermonde (x ∷ xs) c a pts apart low sums =
      let rest = vandermonde xs (shifted c x) a pts.1 apart.1 shifted_lt sums_rest in
      finish (all_map3 back xs rest pts.1 apart.0)
    where
      shifted_lt : (y : ℕ) → shifted c x y < 2 ^ k
      shifted_lt y = unfold shifted in closed (c y) (y ⊕ x)

      sums_rest : (j : ℕ) → a ≤ j → j < a + length xs → power_sum m (shifted c x) xs j ≡ 0
      sums_rest j h l =
          power_sum_out c x xs j ∙ ap₂ (λ (u v : ℕ). u ⊕ m x v) (sums (suc j) (omega arith) (omega arith)) (sums j h (omega arith)) ∙ zero_product x

      back : (y : ℕ) → shifted c x y ≡ 0 → Nonzero k y → y ≢ x → c y ≡ 0
      back y z q d =
          no_zero_divisors (y ⊕ x) (c y) (xor_lt k y x q.0 pts.0.0) (low y) (λ e. d (xor_eq y x e)) (commutative (y ⊕ x) (c y) ∙ (unfold shifted in z))

      finish : All (λ x. c x ≡ 0) xs → (c x ≡ 0) × All (λ x. c x ≡ 0) xs
      finish h =
          let e : m (c x) (power m x a) ≡ 0 = sym (xor_zero_r (m (c x) (power m x a))) ∙ ap (bit_xor (m (c x) (power m x a))) (sym (power_sum_0 c xs a h)) ∙ first in
          (no_zero_divisors (power m x a) (c x) (powers.power_lt k m F.ring nontrivial x a) (low x) (power_not_0 x a pts.0) (commutative (power m x a) (c x) ∙ e), h)
        where
          first : m (c x) (power m x a) ⊕ power_sum m c xs a ≡ 0
          first = unfold power_sum in sums a (omega arith) (omega arith)
