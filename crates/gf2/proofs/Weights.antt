-- Set bits and differing bits, byte by byte.
use Rattle.std.proofs.Common.{◌≡◌, ℕ, zero, suc, ◌+◌, ◌/◌, ◌%◌, ◌*◌, ◌^◌, ◌<◌, ◌≤◌, eqb, List, [], ◌∷◌, length, get_or, sym, refl, ap, ◌∙◌, ap₂, mod-lt, mod-eq_of_lt, zero-lt-suc, arith, pow_pos}
use lib.Bits.{bit_xor, xor_lt}
use lib.Count.{ones, ones_cat, ones-le}
use Rattle.std.proofs.lemmas.Nat.{mod-pow-add}
use Rattle.std.proofs.lemmas.List.Sums.{sum_by-cons}
use Rattle.std.specs.Prelude.{count_ones}
use Rattle.std.specs.List.{sum_by, zip}
use Rattle.gf2.specs.Words.{add, weight, distance, bits_of, bits}
use Rattle.gf2.proofs.Sums.{add_append, weight_append, bits_of_length}
use Rattle.gf2.proofs.Digits.{bits_of_xor}

pub weight_bits_of : (k n : ℕ) → weight (bits_of k n) ≡ ones (n % 2 ^ k)
unfolding bits_of
weight_bits_of zero n = none ∙ ap ones (let e : 0 ≡ n % 2 ^ 0 = omega arith in e)
  where
    none : 0 ≡ ones 0
    none = unfold ones in refl
weight_bits_of (suc k) n =
    bit (n / 2 ^ k % 2) (mod-lt (n / 2 ^ k) (zero-lt-suc 1))
    ∙ ap (λ (x : ℕ). ones (n / 2 ^ k % 2) + x) (weight_bits_of k n)
    ∙ sym (ones_cat k (n / 2 ^ k % 2) (n % 2 ^ k) (mod-lt n (pow_pos k)))
    ∙ ap ones (sym (mod-pow-add n 1 k) ∙ ap (λ (i : ℕ). n % 2 ^ i) (let e : 1 + k ≡ suc k = omega arith in e))
  where
    bit : (d : ℕ) → d < 2 → weight (eqb d 1 ∷ bits_of k n) ≡ ones d + weight (bits_of k n)
    bit zero h = unfold ones in omega arith
    bit (suc zero) h = unfold ones in omega arith
    bit (suc (suc d)) h = absurd (omega arith)

byte_weight : (b : ℕ) → b < 2 ^ 8 → weight (bits_of 8 b) ≡ ones b
byte_weight b h = weight_bits_of 8 b ∙ ap ones (mod-eq_of_lt h)

-- the set bits of bytes, byte by byte
pub weight_bits : (bs : List ℕ) → ((i : ℕ) → get_or bs i 0 < 2 ^ 8) → sum_by (λ b. count_ones b) bs ≡ weight (bits bs)
unfolding bits
weight_bits [] low = refl
weight_bits (b ∷ bs) low =
    sum_by-cons (λ b. count_ones b) b bs ∙ ap₂ ◌+◌ (sym (byte_weight b (low 0))) (weight_bits bs (λ i. low (suc i))) ∙ sym (weight_append (bits_of 8 b) (bits bs))

-- the bits in which two bytes differ
abbrev pub differing : ℕ × ℕ → ℕ
differing p = count_ones (bit_xor p.0 p.1)

-- the bits in which bytes differ, byte by byte
pub distance_bits : (cs bs : List ℕ) → length cs ≡ length bs → ((i : ℕ) → get_or cs i 0 < 2 ^ 8) → ((i : ℕ) → get_or bs i 0 < 2 ^ 8)
    → sum_by differing (zip cs bs) ≡ distance (bits cs) (bits bs)
unfolding bits
distance_bits [] [] h low low' = refl
distance_bits [] (b ∷ bs) h low low' = absurd (omega arith)
distance_bits (a ∷ cs) [] h low low' = absurd (omega arith)
distance_bits (a ∷ cs) (b ∷ bs) h low low' =
    sum_by-cons differing (a, b) (zip cs bs)
    ∙ ap₂ ◌+◌ (sym (ap weight (sym (bits_of_xor 8 a b)) ∙ byte_weight (bit_xor a b) (xor_lt 8 a b (low 0) (low' 0)))) (distance_bits cs bs (omega arith) (λ i. low (suc i)) (λ i. low' (suc i)))
    ∙ sym
    (ap weight (add_append (bits_of 8 a) (bits cs) (bits_of 8 b) (bits bs) (bits_of_length 8 a ∙ sym (bits_of_length 8 b)))
    ∙ weight_append (add (bits_of 8 a) (bits_of 8 b)) (add (bits cs) (bits bs)))

-- at most eight a byte
pub differing_at_most : (cs bs : List ℕ) → ((i : ℕ) → get_or cs i 0 < 2 ^ 8) → ((i : ℕ) → get_or bs i 0 < 2 ^ 8) → sum_by differing (zip cs bs) ≤ 8 * length cs
differing_at_most [] bs low low' = omega arith
differing_at_most (a ∷ cs) [] low low' = omega arith
differing_at_most (a ∷ cs) (b ∷ bs) low low' =
    omega (arith, sum_by-cons differing (a, b) (zip cs bs), ones-le 8 (bit_xor a b) (xor_lt 8 a b (low 0) (low' 0)), differing_at_most cs bs (λ i. low (suc i)) (λ i. low' (suc i)))
