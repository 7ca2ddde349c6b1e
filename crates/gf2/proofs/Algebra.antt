-- Every product modulo a polynomial is a ring's, and a field's where the powers of x pass every element but 0 before they come back to 1.
use Rattle.std.proofs.Common.{◌≡◌, ℕ, suc, ◌-◌, ◌^◌, ◌<◌, T}
use lib.Bits.{xor_lt}
use Rattle.gf2.specs.Product.{times, times_x}
use Rattle.gf2.proofs.Ring.{shifted}
use Rattle.gf2.proofs.Orbit.{avoids_one}
use Rattle.gf2.specs.Fields.{IsRing, IsPolynomialProduct, IsField}
use Rattle.gf2.proofs.Ring as ring
use Rattle.gf2.proofs.Orbit as orbit

pub is_ring : (n p : ℕ) → p < 2 ^ suc n → IsRing (suc n) (times n p)
is_ring n p hp = record {
  closed = ring.times_lt n p hp;
  commutative = ring.times_comm n p hp;
  associative = ring.times_assoc n p hp;
  distributive = ring.times_add n p hp;
  unit = ring.one_times n p hp;
  zero_product = ring.times_zero n p hp;
  sum_closed = xor_lt (suc n);
  low_bits_count = ring.times_mod n p hp;
}

pub is_polynomial_product : (n p : ℕ) → p < 2 ^ suc n → IsPolynomialProduct n p (times n p)
is_polynomial_product n p hp = record { ring = is_ring n p hp; moves_up = ring.x_moves_up n p hp; wraps = ring.x_wraps n p hp }

pub is_field : (n p : ℕ) → p < 2 ^ suc n → (N : ℕ) → shifted n p N 1 ≡ 1 → suc N ≡ 2 ^ suc n → T (avoids_one n p (N - 1) (times_x n p 1))
    → IsField (suc n) (times n p)
is_field n p hp N back size test = record {
  ring = is_ring n p hp;
  nontrivial = ring.one_lt n;
  inverse = orbit.inverse n p hp N back size test;
  no_zero_divisors = orbit.no_divisors n p hp N back size test;
}
