-- The bits of a number and the number of its bits.
use Rattle.std.proofs.Common.{◌≡◌, ℕ, zero, suc, ◌+◌, ◌-◌, ◌*◌, ◌/◌, ◌%◌, ◌^◌, ◌<◌, ◌≤◌, Bool, true, false, cond, not, eqb, List, [], ◌∷◌, length, get_or, set, replicate, sym, refl, ap, ◌∙◌, ap₂, mod-lt, mod-eq_of_lt, zero-lt-suc, pow-suc, arith, pow_pos, pow-add}
use native.Mathlib.Nat.{div-eq_of_lt, div_self}
use lib.Pow.{shl-shr, pow-lt}
use lib.Bits.{bit_xor, xor_self, xor_shr, xor_mod, xor_shifted}
use Rattle.std.proofs.lemmas.Nat.{shr_high, mod-pow-add}
use Rattle.gf2.specs.Words.{plus, add, number, bits_of}
use Rattle.gf2.proofs.Sums.{number_lt, bits_of_length}

digit : ℕ → ℕ → Bool
digit i n = eqb (n / 2 ^ i % 2) 1

digit_xor : (i a b : ℕ) → digit i (bit_xor a b) ≡ plus (digit i a) (digit i b)
unfolding digit
digit_xor i a b =
    ap (λ (x : ℕ). eqb x 1) (ap (λ (x : ℕ). x % 2) (xor_shr a b i) ∙ xor_mod (a / 2 ^ i) (b / 2 ^ i) 1)
    ∙ two (a / 2 ^ i % 2) (b / 2 ^ i % 2) (mod-lt (a / 2 ^ i) (zero-lt-suc 1)) (mod-lt (b / 2 ^ i) (zero-lt-suc 1))
  where
    two : (x y : ℕ) → x < 2 → y < 2 → eqb (bit_xor x y) 1 ≡ plus (eqb x 1) (eqb y 1)
    two zero y hx hy = refl
    two (suc zero) zero hx hy = refl
    two (suc zero) (suc zero) hx hy = refl
    two (suc zero) (suc (suc y)) hx hy = absurd (omega arith)
    two (suc (suc x)) y hx hy = absurd (omega arith)

pub bits_of_xor : (k a b : ℕ) → bits_of k (bit_xor a b) ≡ add (bits_of k a) (bits_of k b)
unfolding bits_of digit
bits_of_xor zero a b = refl
bits_of_xor (suc k) a b = ap₂ ◌∷◌ (digit_xor k a b) (bits_of_xor k a b)

zeros_add : (n : ℕ) (w : List Bool) → length w ≡ n → add (replicate n false) w ≡ w
zeros_add zero w h = refl
zeros_add (suc n) [] h = absurd (omega arith)
zeros_add (suc n) (b ∷ w) h = ap (λ (r : List Bool). b ∷ r) (zeros_add n w (omega arith))

-- bits above those asked for do not matter
bits_of_high : (k j : ℕ) → k ≤ j → bits_of k (2 ^ j) ≡ replicate k false
unfolding bits_of
bits_of_high zero j h = refl
bits_of_high (suc k) j h = ap₂ ◌∷◌ (ap (λ (x : ℕ). eqb x 1) even) (bits_of_high k j (omega arith))
  where
    split : 2 ^ j ≡ 2 ^ (j - k) * 2 ^ k
    split = ap (λ (i : ℕ). 2 ^ i) (let e : j ≡ j - k + k = omega arith in e) ∙ pow-add 2 (j - k) k

    half : 2 ^ (j - k) ≡ 2 ^ (j - k - 1) * 2
    half = ap (λ (i : ℕ). 2 ^ i) (let e : j - k ≡ suc (j - k - 1) = omega arith in e) ∙ pow-suc 2 (j - k - 1)

    even : 2 ^ j / 2 ^ k % 2 ≡ 0
    even = ap (λ (x : ℕ). x / 2 ^ k % 2) split ∙ ap (λ (x : ℕ). x % 2) (shl-shr (2 ^ (j - k)) k ∙ half) ∙ omega arith

pub bits_of_zero : (k : ℕ) → bits_of k 0 ≡ replicate k false
bits_of_zero k = ap (bits_of k) (sym (xor_self (2 ^ k))) ∙ bits_of_xor k (2 ^ k) (2 ^ k) ∙ ap (λ (w : List Bool). add w w) (bits_of_high k k (omega arith)) ∙ none k
  where
    none : (k : ℕ) → add (replicate k false) (replicate k false) ≡ replicate k false
    none zero = refl
    none (suc k) = ap (λ (w : List Bool). false ∷ w) (none k)

-- the bits of a word's number are the word
pub bits_of_number : (w : List Bool) → bits_of (length w) (number w) ≡ w
unfolding bits_of
bits_of_number [] = refl
bits_of_number (true ∷ w) =
    ap₂ ◌∷◌ (ap (λ (x : ℕ). eqb x 1) top)
    (ap (bits_of (length w)) (ap (λ (x : ℕ). x + number w) (sym one) ∙ sym (xor_shifted 1 (length w) (number w) (number_lt w)) ∙ ap (λ (x : ℕ). bit_xor x (number w)) one)
    ∙ bits_of_xor (length w) (2 ^ length w) (number w)
    ∙ ap₂ add (bits_of_high (length w) (length w) (omega arith)) (bits_of_number w) ∙ zeros_add (length w) w refl)
  where
    one : 1 * 2 ^ length w ≡ 2 ^ length w
    one = omega arith

    top : (2 ^ length w + number w) / 2 ^ length w % 2 ≡ 1
    top = ap (λ (x : ℕ). (x + number w) / 2 ^ length w % 2) (sym one) ∙ ap (λ (x : ℕ). x % 2) (shr_high 1 (length w) (number w) (number_lt w))
bits_of_number (false ∷ w) =
    ap₂ ◌∷◌ (ap (λ (x : ℕ). eqb (x % 2) 1) (ap (λ (x : ℕ). x / 2 ^ length w) z ∙ div-eq_of_lt (number_lt w))) (ap (bits_of (length w)) z ∙ bits_of_number w)
  where
    z : 0 + number w ≡ number w
    z = omega arith

pub number_inj : (w c : List Bool) → length w ≡ length c → number w ≡ number c → w ≡ c
number_inj w c h e = sym (bits_of_number w) ∙ ap₂ bits_of h e ∙ bits_of_number c

-- the number of a number's bits is the number
number_mod : (k n : ℕ) → number (bits_of k n) ≡ n % 2 ^ k
unfolding bits_of
number_mod zero n = omega arith
number_mod (suc k) n =
    ap₂ (λ (i x : ℕ). cond (eqb (n / 2 ^ k % 2) 1) (2 ^ i) 0 + x) (bits_of_length k n) (number_mod k n)
    ∙ ap (λ (x : ℕ). x + n % 2 ^ k) (times (n / 2 ^ k % 2) (mod-lt (n / 2 ^ k) (zero-lt-suc 1)))
    ∙ sym (mod-pow-add n 1 k) ∙ ap (λ (i : ℕ). n % 2 ^ i) (let e : 1 + k ≡ suc k = omega arith in e)
  where
    times : (d : ℕ) → d < 2 → cond (eqb d 1) (2 ^ k) 0 ≡ d * 2 ^ k
    times zero h = omega arith
    times (suc zero) h = omega arith
    times (suc (suc d)) h = absurd (omega arith)

pub number_bits_of : (k n : ℕ) → n < 2 ^ k → number (bits_of k n) ≡ n
number_bits_of k n h = number_mod k n ∙ mod-eq_of_lt h

-- bits above the k low ones do not matter
pub bits_of_mod : (k n : ℕ) → bits_of k (n % 2 ^ k) ≡ bits_of k n
bits_of_mod k n =
    ap (bits_of k) (sym (number_mod k n)) ∙ ap (λ (i : ℕ). bits_of i (number (bits_of k n))) (sym (bits_of_length k n)) ∙ bits_of_number (bits_of k n)

-- the bit at o of the k low bits
pub bits_of_at : (k o n : ℕ) → o < k → get_or (bits_of k n) o false ≡ eqb (n / 2 ^ (k - 1 - o) % 2) 1
unfolding bits_of
bits_of_at zero o n h = absurd (omega arith)
bits_of_at (suc k) zero n h = ap (λ (i : ℕ). eqb (n / 2 ^ i % 2) 1) (let e : k ≡ suc k - 1 - 0 = omega arith in e)
bits_of_at (suc k) (suc o) n h =
    bits_of_at k o n (omega arith) ∙ ap (λ (i : ℕ). eqb (n / 2 ^ i % 2) 1) (let e : k - 1 - o ≡ suc k - 1 - suc o = omega arith in e)

-- the bits of a power of two turn one bit
pub bits_of_turned : (k o n : ℕ) → o < k → add (bits_of k (2 ^ (k - 1 - o))) (bits_of k n) ≡ set (bits_of k n) o (not (eqb (n / 2 ^ (k - 1 - o) % 2) 1))
unfolding bits_of
bits_of_turned zero o n h = absurd (omega arith)
bits_of_turned (suc k) zero n h =
    let e : suc k - 1 - 0 ≡ k = omega arith in
    ap (λ (i : ℕ). plus (eqb (2 ^ i / 2 ^ k % 2) 1) (eqb (n / 2 ^ k % 2) 1) ∷ add (bits_of k (2 ^ i)) (bits_of k n)) e
    ∙ ap₂ (λ (x : ℕ) (w : List Bool). plus (eqb (x % 2) 1) (eqb (n / 2 ^ k % 2) 1) ∷ add w (bits_of k n)) (div_self (pow_pos k)) (bits_of_high k k (omega arith))
    ∙ ap₂ (λ (w : List Bool) (i : ℕ). not (eqb (n / 2 ^ i % 2) 1) ∷ w) (zeros_add k (bits_of k n) (bits_of_length k n)) (sym e)
bits_of_turned (suc k) (suc o) n h =
    let e : suc k - 1 - suc o ≡ k - 1 - o = omega arith in
    ap (λ (i : ℕ). plus (eqb (2 ^ i / 2 ^ k % 2) 1) (eqb (n / 2 ^ k % 2) 1) ∷ add (bits_of k (2 ^ i)) (bits_of k n)) e
    ∙ ap₂ (λ (x : ℕ) (w : List Bool). plus (eqb (x % 2) 1) (eqb (n / 2 ^ k % 2) 1) ∷ w)
    (div-eq_of_lt (pow-lt {i = k - 1 - o} {j = k} (omega arith))) (bits_of_turned k o n (omega arith))
    ∙ ap (λ (i : ℕ). eqb (n / 2 ^ k % 2) 1 ∷ set (bits_of k n) o (not (eqb (n / 2 ^ i % 2) 1))) (sym e)
