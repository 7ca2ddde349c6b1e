-- Polynomials as lists of coefficients, lowest first, and the elimination that the decoder runs.
use Rattle.std.specs.Prelude.{ℕ, zero, suc, true, false, List, [], ◌∷◌, ◌==◌, bit_xor, slice_index}

-- the coefficients against the sequence s from i on: the sum of c_k s(i+k)
unfoldable pub against : (ℕ → ℕ → ℕ) → List ℕ → (ℕ → ℕ) → ℕ → ℕ
against m [] s i = 0
against m (c ∷ cs) s i = bit_xor (m c (s i)) (against m cs s (suc i))

-- a p + q
unfoldable pub add_scaled : (ℕ → ℕ → ℕ) → ℕ → List ℕ → List ℕ → List ℕ
add_scaled m a [] q = q
add_scaled m a (c ∷ p) [] = m a c ∷ add_scaled m a p []
add_scaled m a (c ∷ p) (d ∷ q) = bit_xor (m a c) d ∷ add_scaled m a p q

-- a multiple of p, which fails the equation i, added to each polynomial so that it meets the equation
unfoldable pub cleared : (ℕ → ℕ → ℕ) → (ℕ → ℕ) → (ℕ → ℕ) → ℕ → List ℕ → List (List ℕ) → List (List ℕ)
cleared m inv s i p [] = []
cleared m inv s i p (q ∷ qs) = add_scaled m (m (against m q s i) (inv (against m p s i))) p q ∷ cleared m inv s i p qs

-- the polynomials made to meet the equation i: the first that fails it is taken out and clears those behind it
unfoldable pub met_one : (ℕ → ℕ → ℕ) → (ℕ → ℕ) → (ℕ → ℕ) → ℕ → List (List ℕ) → List (List ℕ)
met_one m inv s i [] = []
met_one m inv s i (p ∷ ps) = elim (against m p s i == 0) [ true ↦ p ∷ met_one m inv s i ps | false ↦ cleared m inv s i p ps ]

-- the equations i, i+1 and so on, n of them
unfoldable pub met_all : (ℕ → ℕ → ℕ) → (ℕ → ℕ) → (ℕ → ℕ) → ℕ → ℕ → List (List ℕ) → List (List ℕ)
met_all m inv s zero i ps = ps
met_all m inv s (suc n) i ps = met_all m inv s n (suc i) (met_one m inv s i ps)

-- an array as a sequence
abbrev pub sequence : List ℕ → ℕ → ℕ
sequence s k = slice_index s k

-- 1, z and so on to z^5, each with six coefficients
abbrev pub unit_rows : List (List ℕ)
unit_rows =
    (1 ∷ 0 ∷ 0 ∷ 0 ∷ 0 ∷ 0 ∷ []) ∷ (0 ∷ 1 ∷ 0 ∷ 0 ∷ 0 ∷ 0 ∷ []) ∷ (0 ∷ 0 ∷ 1 ∷ 0 ∷ 0 ∷ 0 ∷ []) ∷ (0 ∷ 0 ∷ 0 ∷ 1 ∷ 0 ∷ 0 ∷ [])
    ∷ (0 ∷ 0 ∷ 0 ∷ 0 ∷ 1 ∷ 0 ∷ []) ∷ (0 ∷ 0 ∷ 0 ∷ 0 ∷ 0 ∷ 1 ∷ []) ∷ []
