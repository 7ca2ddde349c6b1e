-- Syndromes and flips over any product m with inverses inv and any distinct points: a i is the point of the bit that has i bits behind it.
use Rattle.std.proofs.Common.{◌≡◌, ℕ, zero, suc, ◌+◌, ◌≤◌, Bool, cond, List, [], ◌∷◌, map, length}
use lib.Bits.{bit_xor}
use Rattle.gf2.specs.Polynomials.{power}
use Rattle.bch.specs.Elimination.{met_all}
use Rattle.bch.specs.Decoding.{all_vanish, marks}

-- the sum of the powers j of the points of the set bits: the syndrome j
unfoldable pub locator_sum : (ℕ → ℕ → ℕ) → (ℕ → ℕ) → List Bool → ℕ → ℕ
locator_sum m a [] j = 0
locator_sum m a (b ∷ bs) j = bit_xor (cond b (power m (a (length bs)) j) 0) (locator_sum m a bs j)

abbrev pub SumsVanish : (ℕ → ℕ → ℕ) → (ℕ → ℕ) → ℕ → List Bool → Type 0
SumsVanish m a t w = (j : ℕ) → 1 ≤ j → j ≤ t + t → locator_sum m a w j ≡ 0

-- 1, z, z^2 and so on, n of them
unfoldable pub units : ℕ → List (List ℕ)
units zero = []
units (suc n) = (1 ∷ []) ∷ map (λ p. 0 ∷ p) (units n)

-- the bits to flip
unfoldable pub flips : (ℕ → ℕ → ℕ) → (ℕ → ℕ) → (ℕ → ℕ) → ℕ → List Bool → List Bool
flips m inv a t r = let ps = met_all m inv (locator_sum m a r) t 1 (units (suc t)) in marks (λ i. all_vanish m ps (a i)) (length r)
