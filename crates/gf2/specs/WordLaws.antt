-- What callers may rely on of words and the bits of bytes.
use Rattle.std.specs.Prelude.{◌≡◌, ℕ, ◌+◌, ◌*◌, ◌^◌, ◌<◌, ◌≤◌, Bool, not, ◌≢◌, List, ◌++◌, length, Some, None}
use Rattle.std.specs.List.{AllByRecursion}
use Rattle.gf2.specs.Words.{distance, bits, bits_of, bit_number, flipped, number}

-- numbers that are bytes
abbrev pub Bytes : List ℕ → Type 0
Bytes = AllByRecursion (λ b. b < 2 ^ 8)

pub record BitsOfBytes : Type 0 where
  pub eight_a_byte : (bs : List ℕ) → length (bits bs) ≡ length bs * 8
  pub appended : (cs bs : List ℕ) → bits (cs ++ bs) ≡ bits cs ++ bits bs
  -- the bits tell the bytes
  pub tell_the_bytes : (cs bs : List ℕ) → Bytes cs → Bytes bs → bits cs ≡ bits bs → cs ≡ bs

pub record Flipping : Type 0 where
  pub same_length : (w : List Bool) (i : ℕ) → length (flipped w i) ≡ length w
  pub twice_is_nothing : (w : List Bool) (i : ℕ) → flipped (flipped w i) i ≡ w
  pub that_bit : (w : List Bool) (i : ℕ) (b : Bool) → bit_number w i ≡ Some b → bit_number (flipped w i) i ≡ Some (not b)
  pub none_to_flip : (w : List Bool) (i : ℕ) → bit_number w i ≡ None → flipped w i ≡ w
  pub no_other_bit : (w : List Bool) (i j : ℕ) → i ≢ j → bit_number (flipped w i) j ≡ bit_number w j

-- of words of one length
pub record DistanceIsAMetric : Type 0 where
  pub none_from_itself : (a : List Bool) → distance a a ≡ 0
  pub none_only_between_equals : (a b : List Bool) → length a ≡ length b → distance a b ≡ 0 → a ≡ b
  pub symmetric : (a b : List Bool) → distance a b ≡ distance b a
  pub triangle : (a b c : List Bool) → length a ≡ length b → length b ≡ length c → distance a c ≤ distance a b + distance b c

-- a word is its number, and a number its bits
pub record WordsAreNumbers : Type 0 where
  pub below : (w : List Bool) → number w < 2 ^ length w
  pub bits_of_its_number : (w : List Bool) → bits_of (length w) (number w) ≡ w
  pub number_of_its_bits : (k n : ℕ) → n < 2 ^ k → number (bits_of k n) ≡ n
