-- Polynomials over the two elements 0 and 1, modulo x^(n+1) + p, as numbers: bit i of a number is the coefficient of x^i.
-- An element is a number below 2^(n+1), and the sum of two is bit_xor.
use Rattle.std.specs.Prelude.{ℕ, zero, suc, ◌*◌, ◌/◌, ◌%◌, ◌^◌, bit_xor}

-- a where the bit is set, else 0
abbrev pub if_set : ℕ → ℕ → ℕ
if_set zero a = zero
if_set (suc d) a = a

-- x times the element a: the lower coefficients move up by one, and x^(n+1) is p
unfoldable pub times_x : ℕ → ℕ → ℕ → ℕ
times_x n p a = bit_xor ((a % 2 ^ n) * 2) (if_set (a / 2 ^ n % 2) p)

-- the sum of x^i a over the set bits i < k of b
unfoldable pub sum_of_shifts : ℕ → ℕ → ℕ → ℕ → ℕ → ℕ
sum_of_shifts n p zero a b = zero
sum_of_shifts n p (suc k) a b = bit_xor (times_x n p (sum_of_shifts n p k a (b / 2))) (if_set (b % 2) a)

-- the product of the elements that two numbers have as their low n+1 bits
unfoldable pub times : ℕ → ℕ → ℕ → ℕ → ℕ
times n p a b = sum_of_shifts n p (suc n) (a % 2 ^ suc n) b
