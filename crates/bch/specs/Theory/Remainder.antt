-- The data with its remainder behind it is 0 at every root of the modulus.
use Rattle.std.specs.Prelude.{◌≡◌, ℕ, zero, suc, ◌+◌, ◌*◌, ◌/◌, ◌%◌, ◌^◌, ◌<◌, Bool, true, false, cond, List, [], ◌∷◌, ◌++◌, length, ◌==◌, bit_xor, nat_eq}
use Rattle.std.proofs.Math.Path.{refl, sym, ap, ap₂}
use Rattle.std.proofs.Common.{◌∙◌, mod-lt, mul-div_cancel, zero-lt-suc, pow-suc, div-one, length-append, shr-shr}
use Rattle.std.proofs.Math.Nat.{mul-mod_left}
use native.Mathlib.Omega.{arith}
use Rattle.std.proofs.Math.Arith.{lt-one}
use Rattle.std.proofs.Math.Pow.{pow_pos}
use Rattle.std.proofs.lemmas.Nat.{xor_comm, xor_shr, xor_mod}
use Rattle.std.specs.Int.Bits.{xor_assoc, xor_zero_r, xor_self, xor_lt}
use Rattle.gf2.specs.Product.{times_x, if_set}
use Rattle.gf2.specs.Polynomials.{power}
use Rattle.gf2.specs.Words.{bits_of, number}
use Rattle.gf2.proofs.Digits.{bits_of_number}
use Rattle.gf2.proofs.Sums.{bits_of_length}
use Rattle.bch.specs.Checks.{running, remainder}
use Rattle.bch.specs.Code.{word_value}
use Rattle.gf2.proofs.Ring as ring
use Rattle.gf2.proofs.Ring.{◌⊕◌, xor4, half_lt, dig, if_set_add}
use Rattle.gf2.specs.Fields.{IsField}
use Rattle.gf2.proofs.PowerLaws as powers

-- the polynomial of the k low digits of r, at z
unfoldable pub digits_value : (ℕ → ℕ → ℕ) → ℕ → ℕ → ℕ → ℕ
digits_value m z zero r = 0
digits_value m z (suc k) r = bit_xor (m z (digits_value m z k (r / 2))) (if_set (r % 2) 1)

-- the remainder fits its bits
module _ (n g : ℕ) (hg : g < 2 ^ suc n) where
  cond_lt : (b : Bool) → cond b g 0 < 2 ^ suc n
  cond_lt true = hg
  cond_lt false = pow_pos (suc n)

  next_lt : (b : Bool) (r : ℕ) → times_x n g r ⊕ cond b g 0 < 2 ^ suc n
  next_lt b r = xor_lt (suc n) (times_x n g r) (cond b g 0) (ring.times_x_lt n g hg r) (cond_lt b)

  pub remainder_lt : (d : List Bool) (r : ℕ) → r < 2 ^ suc n → remainder n g r d < 2 ^ suc n
  unfolding running
  remainder_lt [] r h = h
  remainder_lt (b ∷ bs) r h = remainder_lt bs (times_x n g r ⊕ cond b g 0) (next_lt b r)

module _ (k : ℕ) (m : ℕ → ℕ → ℕ) (F : IsField k m) (z : ℕ) where
  open F use {nontrivial, no_zero_divisors}
  open F.ring use {closed, commutative, associative, distributive, unit, zero_product}

  digits_value_add : (i a b : ℕ) → digits_value m z i (a ⊕ b) ≡ digits_value m z i a ⊕ digits_value m z i b
  unfolding digits_value
  digits_value_add zero a b = refl
  digits_value_add (suc i) a b =
      ap₂ bit_xor (ap (m z) (ap (digits_value m z i) (xor_shr a b 1) ∙ digits_value_add i (a / 2) (b / 2)) ∙ distributive z (digits_value m z i (a / 2)) (digits_value m z i (b / 2)))
      (ap (λ (x : ℕ). if_set x 1) (xor_mod a b 1) ∙ if_set_add (a % 2) (b % 2) 1 (dig a) (dig b))
      ∙ xor4 (m z (digits_value m z i (a / 2))) (m z (digits_value m z i (b / 2))) (if_set (a % 2) 1) (if_set (b % 2) 1)

  digits_value_zero : (i : ℕ) → digits_value m z i 0 ≡ 0
  unfolding digits_value
  digits_value_zero zero = refl
  digits_value_zero (suc i) = ap (λ (x : ℕ). m z x ⊕ 0) (digits_value_zero i) ∙ ap (λ (x : ℕ). x ⊕ 0) (zero_product z)

  digits_value_more : (i r : ℕ) → r < 2 ^ i → digits_value m z (suc i) r ≡ digits_value m z i r
  unfolding digits_value
  digits_value_more zero r h = ap (digits_value m z 1) (lt-one h) ∙ digits_value_zero 1
  digits_value_more (suc i) r h = ap (λ (x : ℕ). m z x ⊕ if_set (r % 2) 1) (digits_value_more i (r / 2) (half_lt i r h))

  digits_value_double : (i r : ℕ) → digits_value m z (suc i) (r * 2) ≡ m z (digits_value m z i r)
  unfolding digits_value
  digits_value_double i r = ap₂ (λ (x y : ℕ). m z (digits_value m z i x) ⊕ if_set y 1) (mul-div_cancel r (zero-lt-suc 1)) (mul-mod_left r 2) ∙ xor_zero_r (m z (digits_value m z i r))

  digits_value_top : (i : ℕ) → digits_value m z (suc i) (2 ^ i) ≡ power m z i
  digits_value_top zero = unfold digits_value power in (ap (λ (x : ℕ). x ⊕ 1) (zero_product z))
  digits_value_top (suc i) = ap (digits_value m z (suc (suc i))) (pow-suc 2 i) ∙ digits_value_double (suc i) (2 ^ i) ∙ ap (m z) (digits_value_top i) ∙ unfold power in refl

  -- the top digit apart
  digits_value_split : (i r : ℕ) → digits_value m z (suc i) r ≡ cond (r / 2 ^ i % 2 == 1) (power m z i) 0 ⊕ digits_value m z i r
  unfolding digits_value power
  digits_value_split zero r =
      ap (λ (y : ℕ). y ⊕ if_set (r % 2) 1) (zero_product z) ∙ digit (r % 2) (dig r) ∙ ap (λ (y : ℕ). cond (y % 2 == 1) 1 0 ⊕ 0) (sym (div-one r))
    where
      digit : (d : ℕ) → d < 2 → if_set d 1 ≡ cond (d == 1) 1 0 ⊕ 0
      digit zero h = refl
      digit (suc zero) h = refl
      digit (suc (suc d)) h = absurd (omega arith)
  digits_value_split (suc i) r =
      let B = nat_eq (r / 2 / 2 ^ i % 2) 1 in
      ap (λ (y : ℕ). y ⊕ if_set (r % 2) 1) (ap (m z) (digits_value_split i (r / 2)) ∙ distributive z (cond B (power m z i) 0) (digits_value m z i (r / 2)) ∙ ap (λ (y : ℕ). y ⊕ m z (digits_value m z i (r / 2))) (push B))
      ∙ xor_assoc (cond B (m z (power m z i)) 0) (m z (digits_value m z i (r / 2))) (if_set (r % 2) 1)
      ∙ ap (λ (y : ℕ). cond (y % 2 == 1) (m z (power m z i)) 0 ⊕ (m z (digits_value m z i (r / 2)) ⊕ if_set (r % 2) 1))
      (shr-shr r 1 i ∙ ap (λ (j : ℕ). r / 2 ^ j) (let e : 1 + i ≡ suc i = omega arith in e))
    where
      push : (b : Bool) → m z (cond b (power m z i) 0) ≡ cond b (m z (power m z i)) 0
      push true = refl
      push false = zero_product z

  digits_value_if_set : (i d r : ℕ) → digits_value m z i (if_set d r) ≡ if_set d (digits_value m z i r)
  digits_value_if_set i zero r = digits_value_zero i
  digits_value_if_set i (suc d) r = refl

  product_if_set : (d r : ℕ) → m z (if_set d r) ≡ if_set d (m z r)
  product_if_set zero r = zero_product z
  product_if_set (suc d) r = refl

  module _ (n g : ℕ) (hg : g < 2 ^ suc n) (root : digits_value m z (suc n) g ≡ power m z (suc n)) where
    digits_value_times_x : (r : ℕ) → r < 2 ^ suc n → digits_value m z (suc n) (times_x n g r) ≡ m z (digits_value m z (suc n) r)
    digits_value_times_x r h =
        let c = r % 2 ^ n in
        let d = r / 2 ^ n % 2 in
        let V = digits_value m z (suc n) in
        ap V (ring.times_x_parts n g hg r) ∙ digits_value_add (suc n) (c * 2) (if_set d g)
        ∙ ap₂ bit_xor (digits_value_double n c ∙ ap (m z) (sym (digits_value_more n c (mod-lt r (pow_pos n)))))
        (digits_value_if_set (suc n) d g ∙ ap (if_set d) (root ∙ high) ∙ sym (product_if_set d (V (2 ^ n))) ∙ ap (m z) (sym (digits_value_if_set (suc n) d (2 ^ n))))
        ∙ sym (distributive z (V c) (V (if_set d (2 ^ n))))
        ∙ ap (m z) (xor_comm (V c) (V (if_set d (2 ^ n))) ∙ sym (digits_value_add (suc n) (if_set d (2 ^ n)) c) ∙ ap V (sym (ring.parts n g hg r h)))
      where
        high : power m z (suc n) ≡ m z (digits_value m z (suc n) (2 ^ n))
        high = unfold power in ap (m z) (sym (digits_value_top n))

    digits_value_cond : (b : Bool) → digits_value m z (suc n) (cond b g 0) ≡ cond b (power m z (suc n)) 0
    digits_value_cond true = root
    digits_value_cond false = digits_value_zero (suc n)

    digits_value_lt : (i r : ℕ) → digits_value m z i r < 2 ^ k
    unfolding digits_value
    digits_value_lt zero r = pow_pos k
    digits_value_lt (suc i) r = xor_lt k (m z (digits_value m z i (r / 2))) (if_set (r % 2) 1) (closed z (digits_value m z i (r / 2))) (bit (r % 2))
      where
        bit : (d : ℕ) → if_set d 1 < 2 ^ k
        bit zero = pow_pos k
        bit (suc d) = nontrivial

    turn : (b : Bool) (P Q : ℕ) → m P (cond b Q 0) ≡ m Q (cond b P 0)
    turn true P Q = commutative P Q
    turn false P Q = zero_product P ∙ sym (zero_product Q)

    remainder_value : (d : List Bool) (r : ℕ) → r < 2 ^ suc n
        → digits_value m z (suc n) (remainder n g r d) ≡ m (power m z (length d)) (digits_value m z (suc n) r) ⊕ m (power m z (suc n)) (word_value m z d)
    unfolding running word_value power
    remainder_value [] r h =
        let V = digits_value m z (suc n) r in
        sym (ap₂ bit_xor (unit V (digits_value_lt (suc n) r)) (zero_product (power m z (suc n))) ∙ xor_zero_r V)
    remainder_value (b ∷ bs) r h =
        let P = power m z (length bs) in
        let Q = power m z (suc n) in
        let V = digits_value m z (suc n) r in
        let W = word_value m z bs in
        let r' = times_x n g r ⊕ cond b g 0 in
        remainder_value bs r' (next_lt n g hg b r)
        ∙ ap (λ (y : ℕ). m P y ⊕ m Q W) (digits_value_add (suc n) (times_x n g r) (cond b g 0) ∙ ap₂ bit_xor (digits_value_times_x r h) (digits_value_cond b))
        ∙ ap (λ (y : ℕ). y ⊕ m Q W)
        (distributive P (m z V) (cond b Q 0) ∙ ap₂ bit_xor (sym (associative P z V) ∙ ap (λ (y : ℕ). m y V) (commutative P z)) (turn b P Q))
        ∙ xor_assoc (m (m z P) V) (m Q (cond b P 0)) (m Q W)
        ∙ ap (bit_xor (m (m z P) V)) (sym (distributive Q (cond b P 0) W))

    -- the remainder's bits as a word
    word_value_append : (d w : List Bool) → word_value m z (d ++ w) ≡ m (power m z (length w)) (word_value m z d) ⊕ word_value m z w
    unfolding word_value
    word_value_append [] w = ap (λ (y : ℕ). y ⊕ word_value m z w) (sym (zero_product (power m z (length w))))
    word_value_append (b ∷ d) w =
        let L = power m z (length w) in
        ap₂ bit_xor (ap (λ (i : ℕ). cond b (power m z i) 0) (length-append d w) ∙ bit b) (word_value_append d w)
        ∙ sym (xor_assoc (m L (cond b (power m z (length d)) 0)) (m L (word_value m z d)) (word_value m z w))
        ∙ ap (λ (y : ℕ). y ⊕ word_value m z w) (sym (distributive L (cond b (power m z (length d)) 0) (word_value m z d)))
      where
        bit : (b : Bool) → cond b (power m z (length d + length w)) 0 ≡ m (power m z (length w)) (cond b (power m z (length d)) 0)
        bit true = powers.power_add k m F.ring nontrivial z (length d) (length w) ∙ commutative (power m z (length d)) (power m z (length w))
        bit false = sym (zero_product (power m z (length w)))

    bits_value : (i r : ℕ) → word_value m z (bits_of i r) ≡ digits_value m z i r
    unfolding word_value bits_of
    bits_value zero r = unfold digits_value in refl
    bits_value (suc i) r =
        ap₂ (λ (j y : ℕ). cond (r / 2 ^ i % 2 == 1) (power m z j) 0 ⊕ y) (bits_of_length i r) (bits_value i r) ∙ sym (digits_value_split i r)

    remainder_from_0 : (d : List Bool) → digits_value m z (suc n) (remainder n g 0 d) ≡ m (power m z (suc n)) (word_value m z d)
    remainder_from_0 d =
        let X = m (power m z (suc n)) (word_value m z d) in
        remainder_value d 0 (pow_pos (suc n)) ∙ ap (λ (y : ℕ). m (power m z (length d)) y ⊕ X) (digits_value_zero (suc n))
        ∙ ap (λ (y : ℕ). y ⊕ X) (zero_product (power m z (length d)))

    -- d and p have the value of the remainder of d added to p
    pub reduced : (d p : List Bool) → length p ≡ suc n → word_value m z (bits_of (suc n) (remainder n g 0 d ⊕ number p)) ≡ word_value m z (d ++ p)
    reduced d p l =
        let R = remainder n g 0 d in
        bits_value (suc n) (R ⊕ number p) ∙ digits_value_add (suc n) R (number p)
        ∙ ap₂ bit_xor (remainder_from_0 d)
        (sym (bits_value (suc n) (number p)) ∙ ap (word_value m z) (ap (λ (i : ℕ). bits_of i (number p)) (sym l) ∙ bits_of_number p))
        ∙ ap (λ (i : ℕ). m (power m z i) (word_value m z d) ⊕ word_value m z p) (sym l)
        ∙ sym (word_value_append d p)

    pub encoded : (d : List Bool) → word_value m z (d ++ bits_of (suc n) (remainder n g 0 d)) ≡ 0
    encoded d =
        let R = remainder n g 0 d in
        word_value_append d (bits_of (suc n) R)
        ∙ ap₂ (λ (i y : ℕ). m (power m z i) (word_value m z d) ⊕ y) (bits_of_length (suc n) R) (bits_value (suc n) R ∙ remainder_from_0 d)
        ∙ xor_self (m (power m z (suc n)) (word_value m z d))
