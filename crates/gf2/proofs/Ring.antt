-- The laws of the product, for every width and modulus.
use Rattle.std.proofs.Common.{◌≡◌, ℕ, zero, suc, ◌+◌, ◌*◌, ◌/◌, ◌%◌, ◌^◌, ◌<◌, ◌≤◌, sym, refl, ap, ◌∙◌, subst, ap₂, le_trans, le_refl, add-zero, mod-lt, mod-eq_of_lt, zero-lt-suc, pow-suc, div-add-mod', mul-div_cancel, arith, pow_pos, pow_mono}
use native.Mathlib.Nat.{div-eq_of_lt, mod-mod, mod_self, div_self, zero-mod, zero-div, mul-mod_left}
use lib.Arith.{lt-one, digits_div, digits_mod, mod-mul}
use lib.Pow.{pow-lt, split}
use lib.Bits.{bit_xor, xor_comm, xor_assoc, xor_zero_r, xor_self, xor_mod, xor_shr, xor_block, xor_lt, xor_shifted}
use Rattle.std.proofs.lemmas.Nat.{field_of, mod-pow-add, mod_low}
use Rattle.gf2.specs.Product.{if_set, times_x, sum_of_shifts, times}

-- x^i times the element a
unfoldable pub shifted : ℕ → ℕ → ℕ → ℕ → ℕ
shifted n p zero a = a
shifted n p (suc i) a = shifted n p i (times_x n p a)

infixl 65 ◌⊕◌
abbrev pub ◌⊕◌ : ℕ → ℕ → ℕ
a ⊕ b = bit_xor a b

pub xor4 : (a b c d : ℕ) → (a ⊕ b) ⊕ (c ⊕ d) ≡ (a ⊕ c) ⊕ (b ⊕ d)
xor4 a b c d =
    xor_assoc a b (c ⊕ d)
    ∙ ap (bit_xor a) (sym (xor_assoc b c d) ∙ ap (λ (x : ℕ). x ⊕ d) (xor_comm b c) ∙ xor_assoc c b d)
    ∙ sym (xor_assoc a c (b ⊕ d))

xor_dbl : (a b : ℕ) → (a ⊕ b) * 2 ≡ (a * 2) ⊕ (b * 2)
xor_dbl a b =
    sym (ap₂ bit_xor (sym (add-zero (a * 2))) (sym (add-zero (b * 2))) ∙ xor_block 1 a b 0 0 (pow_pos 1) (pow_pos 1) ∙ add-zero ((a ⊕ b) * 2))

pub if_set_add : (d e a : ℕ) → d < 2 → e < 2 → if_set (d ⊕ e) a ≡ if_set d a ⊕ if_set e a
if_set_add zero e a hd he = refl
if_set_add (suc zero) zero a hd he = sym (xor_zero_r a)
if_set_add (suc zero) (suc zero) a hd he = sym (xor_self a)
if_set_add (suc zero) (suc (suc e)) a hd he = absurd (omega arith)
if_set_add (suc (suc d)) e a hd he = absurd (omega arith)

if_set_add_right : (d a b : ℕ) → if_set d (a ⊕ b) ≡ if_set d a ⊕ if_set d b
if_set_add_right zero a b = refl
if_set_add_right (suc d) a b = refl

pub dig : (a : ℕ) → a % 2 < 2
dig a = mod-lt a (zero-lt-suc 1)

pub one_lt : (n : ℕ) → 1 < 2 ^ suc n
one_lt n = pow-lt (zero-lt-suc n)

pub half_lt : (k b : ℕ) → b < 2 ^ suc k → b / 2 < 2 ^ k
half_lt k b h = omega (arith, pow-suc 2 k)

module _ (n p : ℕ) where
  pub times_x_zero : times_x n p 0 ≡ 0
  unfolding times_x
  times_x_zero = ap₂ (λ (x y : ℕ). (x * 2) ⊕ if_set y p) (zero-mod (2 ^ n)) (ap (λ (x : ℕ). x % 2) (zero-div (2 ^ n)))

  times_x_add : (a b : ℕ) → times_x n p (a ⊕ b) ≡ times_x n p a ⊕ times_x n p b
  unfolding times_x
  times_x_add a b =
      ap₂ bit_xor
      (ap (λ (x : ℕ). x * 2) (xor_mod a b n) ∙ xor_dbl (a % 2 ^ n) (b % 2 ^ n))
      (ap (λ (x : ℕ). if_set x p) (ap (λ (x : ℕ). x % 2) (xor_shr a b n) ∙ xor_mod (a / 2 ^ n) (b / 2 ^ n) 1)
      ∙ if_set_add (a / 2 ^ n % 2) (b / 2 ^ n % 2) p (dig (a / 2 ^ n)) (dig (b / 2 ^ n)))
      ∙ xor4 ((a % 2 ^ n) * 2) ((b % 2 ^ n) * 2) (if_set (a / 2 ^ n % 2) p) (if_set (b / 2 ^ n % 2) p)

  times_x_small : (a : ℕ) → a < 2 ^ n → times_x n p a ≡ a * 2
  unfolding times_x
  times_x_small a h =
      ap₂ (λ (x y : ℕ). (x * 2) ⊕ if_set y p) (mod-eq_of_lt h) (ap (λ (x : ℕ). x % 2) (div-eq_of_lt h))
      ∙ xor_zero_r (a * 2)

  times_x_top : times_x n p (2 ^ n) ≡ p
  unfolding times_x
  times_x_top = ap₂ (λ (x y : ℕ). (x * 2) ⊕ if_set y p) (mod_self (2 ^ n)) (ap (λ (x : ℕ). x % 2) (div_self (pow_pos n)))

  times_x_if_set : (d a : ℕ) → if_set d (times_x n p a) ≡ times_x n p (if_set d a)
  times_x_if_set zero a = sym times_x_zero
  times_x_if_set (suc d) a = refl

  -- the product is additive on both sides, and x goes through it on the left
  shifts_add_left : (k a b c : ℕ) → sum_of_shifts n p k (a ⊕ b) c ≡ sum_of_shifts n p k a c ⊕ sum_of_shifts n p k b c
  unfolding sum_of_shifts
  shifts_add_left zero a b c = refl
  shifts_add_left (suc k) a b c =
      ap₂ bit_xor (ap (times_x n p) (shifts_add_left k a b (c / 2)) ∙ times_x_add (sum_of_shifts n p k a (c / 2)) (sum_of_shifts n p k b (c / 2))) (if_set_add_right (c % 2) a b)
      ∙ xor4 (times_x n p (sum_of_shifts n p k a (c / 2))) (times_x n p (sum_of_shifts n p k b (c / 2))) (if_set (c % 2) a) (if_set (c % 2) b)

  shifts_add_right : (k a b c : ℕ) → sum_of_shifts n p k a (b ⊕ c) ≡ sum_of_shifts n p k a b ⊕ sum_of_shifts n p k a c
  unfolding sum_of_shifts
  shifts_add_right zero a b c = refl
  shifts_add_right (suc k) a b c =
      ap₂ bit_xor
      (ap (times_x n p) (ap (sum_of_shifts n p k a) (xor_shr b c 1) ∙ shifts_add_right k a (b / 2) (c / 2)) ∙ times_x_add (sum_of_shifts n p k a (b / 2)) (sum_of_shifts n p k a (c / 2)))
      (ap (λ (x : ℕ). if_set x a) (xor_mod b c 1) ∙ if_set_add (b % 2) (c % 2) a (dig b) (dig c))
      ∙ xor4 (times_x n p (sum_of_shifts n p k a (b / 2))) (times_x n p (sum_of_shifts n p k a (c / 2))) (if_set (b % 2) a) (if_set (c % 2) a)

  shifts_times_x : (k a b : ℕ) → sum_of_shifts n p k (times_x n p a) b ≡ times_x n p (sum_of_shifts n p k a b)
  unfolding sum_of_shifts
  shifts_times_x zero a b = sym times_x_zero
  shifts_times_x (suc k) a b =
      ap₂ bit_xor (ap (times_x n p) (shifts_times_x k a (b / 2))) (times_x_if_set (b % 2) a)
      ∙ sym (times_x_add (times_x n p (sum_of_shifts n p k a (b / 2))) (if_set (b % 2) a))

  shifts_zero_right : (k a : ℕ) → sum_of_shifts n p k a 0 ≡ 0
  unfolding sum_of_shifts
  shifts_zero_right zero a = refl
  shifts_zero_right (suc k) a = ap (λ (x : ℕ). times_x n p x ⊕ 0) (shifts_zero_right k a) ∙ ap (λ (x : ℕ). x ⊕ 0) times_x_zero

  shifts_zero_left : (k b : ℕ) → sum_of_shifts n p k 0 b ≡ 0
  unfolding sum_of_shifts
  shifts_zero_left zero b = refl
  shifts_zero_left (suc k) b = ap₂ bit_xor (ap (times_x n p) (shifts_zero_left k (b / 2)) ∙ times_x_zero) (zero_product (b % 2))
    where
      zero_product : (d : ℕ) → if_set d 0 ≡ 0
      zero_product zero = refl
      zero_product (suc d) = refl

  -- more digits than b has change nothing
  shifts_more : (k a b : ℕ) → b < 2 ^ k → sum_of_shifts n p (suc k) a b ≡ sum_of_shifts n p k a b
  unfolding sum_of_shifts
  shifts_more zero a b h = ap (sum_of_shifts n p 1 a) (lt-one h) ∙ shifts_zero_right 1 a
  shifts_more (suc k) a b h = ap (λ (x : ℕ). times_x n p x ⊕ if_set (b % 2) a) (shifts_more k a (b / 2) (half_lt k b h))

  bit_one : (d : ℕ) → d < 2 → if_set d 1 ≡ d
  bit_one zero h = refl
  bit_one (suc zero) h = refl
  bit_one (suc (suc d)) h = absurd (omega arith)

  shifts_one : (k b : ℕ) → k ≤ suc n → b < 2 ^ k → sum_of_shifts n p k 1 b ≡ b
  unfolding sum_of_shifts
  shifts_one zero b hk h = sym (lt-one h)
  shifts_one (suc k) b hk h =
      ap₂ bit_xor
      (ap (times_x n p) (shifts_one k (b / 2) (omega arith) (half_lt k b h)) ∙ times_x_small (b / 2) (le_trans (half_lt k b h) (pow_mono {i = k} {j = n} (omega arith))))
      (bit_one (b % 2) (dig b))
      ∙ xor_shifted (b / 2) 1 (b % 2) (dig b)
      ∙ div-add-mod' b 2

  -- the modulus: p is x^(n+1), seen from any a that is a sum of powers of x
  abbrev Key : ℕ → Type 0
  Key a = sum_of_shifts n p (suc n) a p ≡ times_x n p (sum_of_shifts n p (suc n) a (2 ^ n))

  module _ (hp : p < 2 ^ suc n) where
    key_one : Key 1
    key_one =
        shifts_one (suc n) p (le_refl (suc n)) hp
        ∙ sym (ap (times_x n p) (shifts_one (suc n) (2 ^ n) (le_refl (suc n)) (pow-lt {i = n} (le_refl (suc n)))) ∙ times_x_top)

    key_zero : Key 0
    key_zero = shifts_zero_left (suc n) p ∙ sym (ap (times_x n p) (shifts_zero_left (suc n) (2 ^ n)) ∙ times_x_zero)

    key_xor : (a b : ℕ) → Key a → Key b → Key (a ⊕ b)
    key_xor a b ha hb =
        shifts_add_left (suc n) a b p ∙ ap₂ bit_xor ha hb
        ∙ sym (ap (times_x n p) (shifts_add_left (suc n) a b (2 ^ n)) ∙ times_x_add (sum_of_shifts n p (suc n) a (2 ^ n)) (sum_of_shifts n p (suc n) b (2 ^ n)))

    key_times_x : (a : ℕ) → Key a → Key (times_x n p a)
    key_times_x a ha = shifts_times_x (suc n) a p ∙ ap (times_x n p) (ha ∙ sym (shifts_times_x (suc n) a (2 ^ n)))

    key_if_set : (d : ℕ) → Key (if_set d 1)
    key_if_set zero = key_zero
    key_if_set (suc d) = key_one

    key_shifts : (k b : ℕ) → Key (sum_of_shifts n p k 1 b)
    unfolding sum_of_shifts
    key_shifts zero b = key_zero
    key_shifts (suc k) b = key_xor (times_x n p (sum_of_shifts n p k 1 (b / 2))) (if_set (b % 2) 1) (key_times_x (sum_of_shifts n p k 1 (b / 2)) (key_shifts k (b / 2))) (key_if_set (b % 2))

    key : (a : ℕ) → a < 2 ^ suc n → Key a
    key a h = subst Key (shifts_one (suc n) a (le_refl (suc n)) h) (key_shifts (suc n) a)

    shifts_if_set : (k d a b : ℕ) → sum_of_shifts n p k a (if_set d b) ≡ if_set d (sum_of_shifts n p k a b)
    shifts_if_set k zero a b = shifts_zero_right k a
    shifts_if_set k (suc d) a b = refl

    top : (d : ℕ) → d < 2 → d * 2 ^ n ≡ if_set d (2 ^ n)
    top zero h = omega arith
    top (suc zero) h = omega arith
    top (suc (suc d)) h = absurd (omega arith)

    -- the low digits and the top digit of b
    pub parts : (b : ℕ) → b < 2 ^ suc n → b ≡ if_set (b / 2 ^ n % 2) (2 ^ n) ⊕ (b % 2 ^ n)
    parts b h =
        sym (split b n) ∙ sym (xor_shifted (b / 2 ^ n) n (b % 2 ^ n) (mod-lt b (pow_pos n)))
        ∙ ap (λ (x : ℕ). x ⊕ (b % 2 ^ n)) (ap (λ (x : ℕ). x * 2 ^ n) (sym (mod-eq_of_lt small)) ∙ top (b / 2 ^ n % 2) (dig (b / 2 ^ n)))
      where
        small : b / 2 ^ n < 2
        small = (native.Mathlib.Nat.div-lt_iff_lt-mul (pow_pos n)).1 (omega (arith, pow-suc 2 n))

    shifts_double : (a c : ℕ) → c < 2 ^ n → sum_of_shifts n p (suc n) a (c * 2) ≡ times_x n p (sum_of_shifts n p (suc n) a c)
    unfolding sum_of_shifts
    shifts_double a c h = go ∙ ap (times_x n p) (sym (shifts_more n a c h))
      where
        go : sum_of_shifts n p (suc n) a (c * 2) ≡ times_x n p (sum_of_shifts n p n a c)
        go = ap₂ (λ (x y : ℕ). times_x n p (sum_of_shifts n p n a x) ⊕ if_set y a) (mul-div_cancel c (zero-lt-suc 1)) (mul-mod_left c 2) ∙ xor_zero_r (times_x n p (sum_of_shifts n p n a c))

    pub times_x_parts : (b : ℕ) → times_x n p b ≡ (b % 2 ^ n) * 2 ⊕ if_set (b / 2 ^ n % 2) p
    unfolding times_x
    times_x_parts b = refl

    shifts_times_x_right : (a b : ℕ) → a < 2 ^ suc n → b < 2 ^ suc n → sum_of_shifts n p (suc n) a (times_x n p b) ≡ times_x n p (sum_of_shifts n p (suc n) a b)
    shifts_times_x_right a b ha hb =
        let d = b / 2 ^ n % 2 in
        let c = b % 2 ^ n in
        let N = suc n in
        ap (sum_of_shifts n p N a) (times_x_parts b) ∙ shifts_add_right N a (c * 2) (if_set d p)
        ∙ ap₂ bit_xor (shifts_double a c (mod-lt b (pow_pos n)))
        (shifts_if_set N d a p ∙ ap (if_set d) (key a ha) ∙ times_x_if_set d (sum_of_shifts n p N a (2 ^ n)) ∙ ap (times_x n p) (sym (shifts_if_set N d a (2 ^ n))))
        ∙ xor_comm (times_x n p (sum_of_shifts n p N a c)) (times_x n p (sum_of_shifts n p N a (if_set d (2 ^ n))))
        ∙ sym (times_x_add (sum_of_shifts n p N a (if_set d (2 ^ n))) (sum_of_shifts n p N a c))
        ∙ ap (times_x n p) (sym (shifts_add_right N a (if_set d (2 ^ n)) c) ∙ ap (sum_of_shifts n p N a) (sym (parts b hb)))

    -- bounds
    pub times_x_lt : (a : ℕ) → times_x n p a < 2 ^ suc n
    unfolding times_x
    times_x_lt a = xor_lt (suc n) ((a % 2 ^ n) * 2) (if_set (a / 2 ^ n % 2) p) (omega (arith, pow-suc 2 n, mod-lt a (pow_pos n))) (pk (a / 2 ^ n % 2))
      where
        pk : (d : ℕ) → if_set d p < 2 ^ suc n
        pk zero = pow_pos (suc n)
        pk (suc d) = hp

    pub shifts_lt : (k a b : ℕ) → a < 2 ^ suc n → sum_of_shifts n p k a b < 2 ^ suc n
    unfolding sum_of_shifts
    shifts_lt zero a b ha = pow_pos (suc n)
    shifts_lt (suc k) a b ha = xor_lt (suc n) (times_x n p (sum_of_shifts n p k a (b / 2))) (if_set (b % 2) a) (times_x_lt (sum_of_shifts n p k a (b / 2))) (pk (b % 2))
      where
        pk : (d : ℕ) → if_set d a < 2 ^ suc n
        pk zero = pow_pos (suc n)
        pk (suc d) = ha

    -- commutative: by the digits of b, each side is additive and passes x on
    digits : (k b : ℕ) → k ≤ n → b < 2 ^ suc k → times_x n p (b / 2) ⊕ if_set (b % 2) 1 ≡ b
    digits k b hk h =
        ap₂ bit_xor (times_x_small (b / 2) (le_trans (half_lt k b h) (pow_mono hk))) (bit_one (b % 2) (dig b))
        ∙ xor_shifted (b / 2) 1 (b % 2) (dig b)
        ∙ div-add-mod' b 2

    shifts_if_set_left : (k d a b : ℕ) → sum_of_shifts n p k (if_set d a) b ≡ if_set d (sum_of_shifts n p k a b)
    shifts_if_set_left k zero a b = shifts_zero_left k b
    shifts_if_set_left k (suc d) a b = refl

    comm_upto : (k a b : ℕ) → k ≤ suc n → a < 2 ^ suc n → b < 2 ^ k → sum_of_shifts n p k a b ≡ sum_of_shifts n p (suc n) b a
    unfolding sum_of_shifts
    comm_upto zero a b hk ha hb = sym (shifts_zero_left (suc n) a) ∙ ap (λ (x : ℕ). sum_of_shifts n p (suc n) x a) (sym (lt-one hb))
    comm_upto (suc k) a b hk ha hb =
        ap₂ bit_xor
        (ap (times_x n p) (comm_upto k a (b / 2) (omega arith) ha (half_lt k b hb)) ∙ sym (shifts_times_x (suc n) (b / 2) a))
        (ap (if_set (b % 2)) (sym (shifts_one (suc n) a (le_refl (suc n)) ha)) ∙ sym (shifts_if_set_left (suc n) (b % 2) 1 a))
        ∙ sym (shifts_add_left (suc n) (times_x n p (b / 2)) (if_set (b % 2) 1) a)
        ∙ ap (λ (x : ℕ). sum_of_shifts n p (suc n) x a) (digits k b (omega arith) hb)

    comm : (a b : ℕ) → a < 2 ^ suc n → b < 2 ^ suc n → sum_of_shifts n p (suc n) a b ≡ sum_of_shifts n p (suc n) b a
    comm a b ha hb = comm_upto (suc n) a b (le_refl (suc n)) ha hb

    assoc_upto : (k a b c : ℕ) → a < 2 ^ suc n → b < 2 ^ suc n → sum_of_shifts n p (suc n) a (sum_of_shifts n p k b c) ≡ sum_of_shifts n p k (sum_of_shifts n p (suc n) a b) c
    unfolding sum_of_shifts
    assoc_upto zero a b c ha hb = shifts_zero_right (suc n) a
    assoc_upto (suc k) a b c ha hb =
        shifts_add_right (suc n) a (times_x n p (sum_of_shifts n p k b (c / 2))) (if_set (c % 2) b)
        ∙ ap₂ bit_xor
        (shifts_times_x_right a (sum_of_shifts n p k b (c / 2)) ha (shifts_lt k b (c / 2) hb) ∙ ap (times_x n p) (assoc_upto k a b (c / 2) ha hb))
        (shifts_if_set (suc n) (c % 2) a b)

    -- the product of any two numbers is that of their remainders
    shifts_mod : (k a b : ℕ) → sum_of_shifts n p k a (b % 2 ^ k) ≡ sum_of_shifts n p k a b
    unfolding sum_of_shifts
    shifts_mod zero a b = refl
    shifts_mod (suc k) a b =
        ap₂ (λ (x y : ℕ). times_x n p (sum_of_shifts n p k a x) ⊕ if_set y a) hi lo
        ∙ ap (λ (x : ℕ). times_x n p x ⊕ if_set (b % 2) a) (shifts_mod k a (b / 2))
      where
        e : b % 2 ^ suc k ≡ (b / 2 % 2 ^ k) * 2 + b % 2
        e = ap (λ (x : ℕ). b % x) (pow-suc 2 k) ∙ mod-mul b (pow_pos k) (zero-lt-suc 1)

        hi : b % 2 ^ suc k / 2 ≡ b / 2 % 2 ^ k
        hi = ap (λ (x : ℕ). x / 2) e ∙ digits_div (b / 2 % 2 ^ k) (dig b)

        lo : b % 2 ^ suc k % 2 ≡ b % 2
        lo = ap (λ (x : ℕ). x % 2) e ∙ digits_mod (b / 2 % 2 ^ k) (dig b)

    reduced_lt : (a : ℕ) → a % 2 ^ suc n < 2 ^ suc n
    reduced_lt a = mod-lt a (pow_pos (suc n))

    -- the laws, with no bounds asked
    pub times_lt : (a b : ℕ) → times n p a b < 2 ^ suc n
    unfolding times
    times_lt a b = shifts_lt (suc n) (a % 2 ^ suc n) b (reduced_lt a)

    pub times_mod : (a b : ℕ) → times n p (a % 2 ^ suc n) b ≡ times n p a b
    unfolding times
    times_mod a b = ap (λ (x : ℕ). sum_of_shifts n p (suc n) x b) (mod-mod a (2 ^ suc n))

    pub times_comm : (a b : ℕ) → times n p a b ≡ times n p b a
    unfolding times
    times_comm a b =
        sym (shifts_mod (suc n) (a % 2 ^ suc n) b) ∙ comm (a % 2 ^ suc n) (b % 2 ^ suc n) (reduced_lt a) (reduced_lt b) ∙ shifts_mod (suc n) (b % 2 ^ suc n) a

    pub times_assoc : (a b c : ℕ) → times n p (times n p a b) c ≡ times n p a (times n p b c)
    unfolding times
    times_assoc a b c =
        ap (λ (x : ℕ). sum_of_shifts n p (suc n) x c)
        (mod-eq_of_lt (shifts_lt (suc n) (a % 2 ^ suc n) b (reduced_lt a)) ∙ sym (shifts_mod (suc n) (a % 2 ^ suc n) b))
        ∙ sym (assoc_upto (suc n) (a % 2 ^ suc n) (b % 2 ^ suc n) c (reduced_lt a) (reduced_lt b))

    pub times_add : (a b c : ℕ) → times n p a (b ⊕ c) ≡ times n p a b ⊕ times n p a c
    unfolding times
    times_add a b c = shifts_add_right (suc n) (a % 2 ^ suc n) b c

    pub times_zero : (a : ℕ) → times n p a 0 ≡ 0
    unfolding times
    times_zero a = shifts_zero_right (suc n) (a % 2 ^ suc n)

    pub one_times : (a : ℕ) → a < 2 ^ suc n → times n p 1 a ≡ a
    unfolding times
    one_times a h = ap (λ (x : ℕ). sum_of_shifts n p (suc n) x a) (mod-eq_of_lt (le_trans (pow-lt (zero-lt-suc n)) (le_refl (2 ^ suc n)))) ∙ shifts_one (suc n) a (le_refl (suc n)) h

    -- a power of x goes through the product
    pub times_shifted : (i a b : ℕ) → a < 2 ^ suc n → times n p (shifted n p i a) b ≡ shifted n p i (times n p a b)
    unfolding shifted
    times_shifted zero a b h = refl
    times_shifted (suc i) a b h = times_shifted i (times_x n p a) b (times_x_lt a) ∙ ap (shifted n p i) (one_step)
      where
        one_step : times n p (times_x n p a) b ≡ times_x n p (times n p a b)
        one_step = unfold times in (ap (λ (x : ℕ). sum_of_shifts n p (suc n) x b) (mod-eq_of_lt (times_x_lt a)) ∙ shifts_times_x (suc n) a b ∙ ap (λ (x : ℕ). times_x n p (sum_of_shifts n p (suc n) x b)) (sym (mod-eq_of_lt h)))

    pub shifted_lt : (i a : ℕ) → a < 2 ^ suc n → shifted n p i a < 2 ^ suc n
    unfolding shifted
    shifted_lt zero a h = h
    shifted_lt (suc i) a h = shifted_lt i (times_x n p a) (times_x_lt a)

    -- x times an element is the product of x and that element, and of any other number only the low bits count
    times_x_of_element : (a : ℕ) → a < 2 ^ suc n → times_x n p a ≡ times n p (times_x n p 1) a
    times_x_of_element a h = sym (unfold shifted in (times_shifted 1 1 a (one_lt n) ∙ ap (times_x n p) (one_times a h)))

    times_x_mod : (a : ℕ) → times_x n p (a % 2 ^ suc n) ≡ times_x n p a
    unfolding times_x
    times_x_mod a = ap₂ (λ (x y : ℕ). (x * 2) ⊕ if_set y p) low high
      where
        e : a % 2 ^ suc n ≡ a % 2 ^ (1 + n)
        e = ap (λ (i : ℕ). a % 2 ^ i) (let q : suc n ≡ 1 + n = omega arith in q)

        low : a % 2 ^ suc n % 2 ^ n ≡ a % 2 ^ n
        low = ap (λ (x : ℕ). x % 2 ^ n) (e ∙ mod-pow-add a 1 n) ∙ mod_low (a / 2 ^ n % 2 ^ 1) n (a % 2 ^ n) (mod-lt a (pow_pos n))

        high : a % 2 ^ suc n / 2 ^ n % 2 ≡ a / 2 ^ n % 2
        high = ap (λ (x : ℕ). x / 2 ^ n % 2) e ∙ ap (λ (x : ℕ). x % 2) (field_of a 1 n) ∙ mod-mod (a / 2 ^ n) 2

    pub times_x_is_product : (a : ℕ) → times_x n p a ≡ times n p (times_x n p 1) a
    times_x_is_product a =
        let x = times_x n p 1 in
        sym (times_x_mod a) ∙ times_x_of_element (a % 2 ^ suc n) (reduced_lt a)
        ∙ times_comm x (a % 2 ^ suc n) ∙ times_mod a x ∙ times_comm a x

    module _ (hn : 1 ≤ n) where
      -- where x is an element
      pub x_is_2 : times_x n p 1 ≡ 2
      x_is_2 = times_x_small 1 (le_trans (pow-lt hn) (le_refl (2 ^ n)))

      pub x_moves_up : (i : ℕ) → i < n → times n p 2 (2 ^ i) ≡ 2 ^ suc i
      x_moves_up i h =
          ap (λ (x : ℕ). times n p x (2 ^ i)) (sym x_is_2) ∙ sym (times_x_is_product (2 ^ i))
          ∙ times_x_small (2 ^ i) (pow-lt h) ∙ sym (pow-suc 2 i)

      pub x_wraps : times n p 2 (2 ^ n) ≡ p
      x_wraps =
          ap (λ (x : ℕ). times n p x (2 ^ n)) (sym x_is_2) ∙ sym (times_x_is_product (2 ^ n)) ∙ times_x_top
