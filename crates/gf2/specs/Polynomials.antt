-- Powers, sums of powers and polynomials under a product mul of elements of m bits; sums are bit_xor.
use Rattle.std.specs.Prelude.{◌≡◌, ℕ, zero, suc, ◌+◌, ◌^◌, ◌<◌, ◌≤◌, ◌≢◌, List, [], ◌∷◌, length, bit_xor}
use Rattle.std.specs.List.{AllByRecursion}

unfoldable pub power : (ℕ → ℕ → ℕ) → ℕ → ℕ → ℕ
power mul x zero = 1
power mul x (suc j) = mul x (power mul x j)

-- the sum of c x times x^j over the points x
unfoldable pub power_sum : (ℕ → ℕ → ℕ) → (ℕ → ℕ) → List ℕ → ℕ → ℕ
power_sum mul c [] j = 0
power_sum mul c (x ∷ xs) j = bit_xor (mul (c x) (power mul x j)) (power_sum mul c xs j)

-- the polynomial with these coefficients, the constant first, at z
unfoldable pub value : (ℕ → ℕ → ℕ) → List ℕ → ℕ → ℕ
value mul [] z = 0
value mul (c ∷ cs) z = bit_xor c (mul z (value mul cs z))

-- no number twice
abbrev pub Distinct : List ℕ → Type 0
Distinct [] = Unit
Distinct (x ∷ xs) = AllByRecursion (λ y. y ≢ x) xs × Distinct xs

abbrev pub Element : ℕ → ℕ → Type 0
Element m x = x < 2 ^ m

-- an element other than 0
abbrev pub Nonzero : ℕ → ℕ → Type 0
Nonzero m x = (x < 2 ^ m) × (x ≢ 0)

-- sums of c x times x^j over distinct points, for as many j in a row as there are points, are all 0 only if every c x is 0
abbrev pub Vandermonde : ℕ → (ℕ → ℕ → ℕ) → Type 0
Vandermonde m mul =
    (xs : List ℕ) (c : ℕ → ℕ) (first : ℕ) → AllByRecursion (Nonzero m) xs → Distinct xs → ((x : ℕ) → c x < 2 ^ m)
    → ((j : ℕ) → first ≤ j → j < first + length xs → power_sum mul c xs j ≡ 0) → AllByRecursion (λ x. c x ≡ 0) xs

-- d + 1 coefficients, not all 0, have at most d roots
abbrev pub FewRoots : ℕ → (ℕ → ℕ → ℕ) → Type 0
FewRoots m mul =
    (cs xs : List ℕ) → AllByRecursion (Element m) cs → (AllByRecursion (λ c. c ≡ 0) cs → ⊥) → AllByRecursion (Element m) xs → Distinct xs → AllByRecursion (λ x. value mul cs x ≡ 0) xs
    → length xs < length cs
