-- Shifts and masks of w-bit numbers, as fields and registers use them.
use Rattle.std.proofs.Common.{◌≡◌, ℕ, suc, ◌-◌, ◌*◌, ◌/◌, ◌%◌, ◌^◌, ◌<◌, ◌≢◌, sym, ap, ◌∙◌, subst, ap₂, mod-lt, mod-eq_of_lt, pow-suc, arith, pow_pos, pow_mono}
use lib.Bits.{bit_and, bit_xor, and_mask, xor_zero_r}
use Rattle.std.proofs.lemmas.Nat.{one_shl}
use Rattle.gf2.specs.Product.{if_set, times_x}

-- `a & ((1 << k) - 1)`
pub low_bits : (w k a : ℕ) → k < w → bit_and a ((1 * 2 ^ k) % 2 ^ w - 1) ≡ a % 2 ^ k
low_bits w k a h = ap (λ (x : ℕ). bit_and a (x - 1)) (one_shl k w h) ∙ and_mask a k

-- `(a & ((1 << k) - 1)) << 1`
pub low_bits_up : (w k a : ℕ) → k < w → (bit_and a ((1 * 2 ^ k) % 2 ^ w - 1)) * 2 % 2 ^ w ≡ (a % 2 ^ k) * 2
low_bits_up w k a h =
    ap (λ (x : ℕ). x * 2 % 2 ^ w) (low_bits w k a h)
    ∙ mod-eq_of_lt (omega (arith, mod-lt a (pow_pos k), pow-suc 2 k, pow_mono {i = suc k} {j = w} h))

-- what the test `d & 1 == 1` says
pub set_bit : (d a : ℕ) → bit_and d 1 ≡ 1 → a ≡ if_set (d % 2) a
set_bit d a e = ap (λ (x : ℕ). if_set x a) (sym (sym (and_mask d 1) ∙ e))

pub clear_bit : (d a : ℕ) → bit_and d 1 ≢ 1 → 0 ≡ if_set (d % 2) a
clear_bit d a e = ap (λ (x : ℕ). if_set x a) (let z : 0 ≡ d % 2 = omega (arith, and_mask d 1) in z)

-- x times a in w-bit numbers, by a top place k that is n: the lower bits move up, and where the top bit was set the tail q, which is p, is added
module _ (w n p a : ℕ) (h : n < w) (k : ℕ) (is : k ≡ n) where
  low : (bit_and a ((1 * 2 ^ k) % 2 ^ w - 1)) * 2 % 2 ^ w ≡ (a % 2 ^ n) * 2
  low = ap (λ (i : ℕ). (bit_and a ((1 * 2 ^ i) % 2 ^ w - 1)) * 2 % 2 ^ w) is ∙ low_bits_up w n a h

  pub times_x_set : (q : ℕ) → q ≡ p → bit_and (a / 2 ^ k) 1 ≡ 1 → bit_xor ((bit_and a ((1 * 2 ^ k) % 2 ^ w - 1)) * 2 % 2 ^ w) q ≡ times_x n p a
  unfolding times_x
  times_x_set q tail e = ap₂ bit_xor low (tail ∙ set_bit (a / 2 ^ n) p (subst (λ (i : ℕ). bit_and (a / 2 ^ i) 1 ≡ 1) is e))

  pub times_x_clear : bit_and (a / 2 ^ k) 1 ≢ 1 → (bit_and a ((1 * 2 ^ k) % 2 ^ w - 1)) * 2 % 2 ^ w ≡ times_x n p a
  unfolding times_x
  times_x_clear e =
      low ∙ sym (xor_zero_r ((a % 2 ^ n) * 2)) ∙ ap (bit_xor ((a % 2 ^ n) * 2)) (clear_bit (a / 2 ^ n) p (subst (λ (i : ℕ). bit_and (a / 2 ^ i) 1 ≢ 1) is e))
