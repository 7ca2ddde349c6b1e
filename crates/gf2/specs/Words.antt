-- Words are lists of bits, first bit first. Bits are added modulo 2, and the bits of a word are numbered from 1.
use Rattle.std.specs.Prelude.{ℕ, zero, suc, ◌+◌, ◌/◌, ◌%◌, ◌^◌, Bool, true, false, cond, not, List, [], ◌∷◌, ◌++◌, length, take, drop, Some, None, Option, ◌==◌, nat_le}

abbrev pub plus : Bool → Bool → Bool
plus true b = not b
plus false b = b

-- bit by bit; a shorter word counts as followed by zeros
abbrev pub add : List Bool → List Bool → List Bool
add [] ds = ds
add (b ∷ bs) [] = b ∷ bs
add (b ∷ bs) (d ∷ ds) = plus b d ∷ add bs ds

-- the number of set bits
abbrev pub weight : List Bool → ℕ
weight [] = 0
weight (true ∷ bs) = suc (weight bs)
weight (false ∷ bs) = weight bs

-- the number of places where two words differ
abbrev pub distance : List Bool → List Bool → ℕ
distance a b = weight (add a b)

-- the word as a number, the first bit the highest
abbrev pub number : List Bool → ℕ
number [] = 0
number (b ∷ bs) = cond b (2 ^ length bs) 0 + number bs

-- the k low bits of a number, the highest first
unfoldable pub bits_of : ℕ → ℕ → List Bool
bits_of zero n = []
bits_of (suc k) n = (n / 2 ^ k % 2 == 1) ∷ bits_of k n

-- the bits that bytes hold, most significant first
unfoldable pub bits : List ℕ → List Bool
bits [] = []
bits (b ∷ bs) = bits_of 8 b ++ bits bs

-- bit number i, or none where the word has no such bit
abbrev pub bit_number : List Bool → ℕ → Option Bool
bit_number [] i = None
bit_number (b ∷ w) zero = None
bit_number (b ∷ w) (suc zero) = Some b
bit_number (b ∷ w) (suc (suc i)) = bit_number w (suc i)

-- the word with bit number i flipped, or as it was where it has no such bit
abbrev pub flipped : List Bool → ℕ → List Bool
flipped [] i = []
flipped (b ∷ w) zero = b ∷ w
flipped (b ∷ w) (suc zero) = not b ∷ w
flipped (b ∷ w) (suc (suc i)) = b ∷ flipped w (suc i)

-- the number of bits in which two lists of bytes differ, or none where one is longer
abbrev pub byte_distance : List ℕ → List ℕ → Option ℕ
byte_distance a b = cond (length a == length b) (Some (distance (bits a) (bits b))) None

-- the number that the k bits behind the first s make, or none where k is not 1 to the limit or the word ends before them
abbrev pub number_within : ℕ → List Bool → ℕ → ℕ → Option ℕ
number_within limit w s k =
    cond (nat_le 1 k) (cond (nat_le k limit) (cond (nat_le (s + k) (length w)) (Some (number (take k (drop s w)))) None) None) None

-- the same of at most 16 bits
abbrev pub number_behind : List Bool → ℕ → ℕ → Option ℕ
number_behind = number_within 16

-- the word with a run of bits over those behind the first `at`
abbrev pub with_run : ℕ → List Bool → List Bool → List Bool
with_run at run w = take at w ++ (run ++ drop (at + length run) w)

-- whether k is at most 128 and the word has k bits behind the first s
abbrev pub room_for : List Bool → ℕ → ℕ → Bool
room_for w s k = cond (nat_le k 128) (nat_le (s + k) (length w)) false

-- the word with the k low bits of a number, the highest first, over those behind the first s, or as it was where there is no room
abbrev pub with_number : List Bool → ℕ → ℕ → ℕ → List Bool
with_number w s k n = cond (room_for w s k) (with_run s (bits_of k n) w) w

-- whether both words have k bits, v behind its first s and w behind its first at
abbrev pub both_have : ℕ → List Bool → ℕ → List Bool → ℕ → Bool
both_have k v s w at = cond (nat_le (s + k) (length v)) (nat_le (at + k) (length w)) false

-- the word w with the k bits behind the first s of v over those behind its first `at`, or as it was where one has too few bits
abbrev pub with_bits_of : ℕ → List Bool → ℕ → List Bool → ℕ → List Bool
with_bits_of k v s w at = cond (both_have k v s w at) (with_run at (take k (drop s v)) w) w
