-- Labels: each bit of a word has a number as its label, and labels are added bit by bit.
use Rattle.std.specs.Prelude.{◌≡◌, ℕ, zero, suc, ◌^◌, ◌<◌, Bool, cond, not, ◌≢◌, List, [], ◌∷◌, length, Some, None, filter, Option, ◌==◌, bit_xor, count_ones, slice_index}
use Rattle.std.specs.List.{range_with_len, AllByRecursion}

-- the labels of the set bits, added
unfoldable pub label_sum : List ℕ → List Bool → ℕ
label_sum [] w = 0
label_sum (a ∷ labels) [] = 0
label_sum (a ∷ labels) (b ∷ w) = bit_xor (cond b a 0) (label_sum labels w)

-- 2^(r-1) down to 1
unfoldable pub powers_of_two : ℕ → List ℕ
powers_of_two zero = []
powers_of_two (suc r) = 2 ^ r ∷ powers_of_two r

-- a power of two has one binary digit that is set
abbrev pub is_power_of_two : ℕ → Bool
is_power_of_two n = count_ones n == 1

-- those of the n numbers from a on that are no powers of two
unfoldable pub no_powers_of_two : ℕ → ℕ → List ℕ
no_powers_of_two a n = filter (λ m. not (is_power_of_two m)) (range_with_len a n)

-- a place, counted from 0, that has the label, or none where no place has it
abbrev pub PlaceOf : List ℕ → ℕ → Option ℕ → Type 0
PlaceOf labels a (Some place) = (place < length labels) × (slice_index labels place ≡ a)
PlaceOf labels a None = AllByRecursion (λ b. b ≢ a) labels
