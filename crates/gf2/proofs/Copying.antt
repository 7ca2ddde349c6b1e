-- Runs of bits, read as numbers and written over others.
use Rattle.std.proofs.Common.{◌≡◌, ℕ, suc, ◌+◌, ◌-◌, ◌*◌, ◌^◌, ◌<◌, ◌≤◌, Bool, true, false, cond, leb, List, ◌∷◌, ◌++◌, length, take, drop, set, sym, refl, ap, ◌∙◌, subst, ap₂, suc-mul, arith, length-drop, drop-drop, ◌/◌, ◌%◌, get_or, [], append_assoc, mod-lt, mod-eq_of_lt, pow_pos, shr-shr}
use lib.Bits.{bit_and, bit_or, or_shifted}
use lib.Seq.{set_split, take-append-le}
use Rattle.std.proofs.lemmas.Nat.{pow-add, shr_below, shr_high}
use Rattle.std.proofs.Math.Nat.{mul-le-mul_right}
use Rattle.std.proofs.lemmas.List.{length-take-le, take_all, drop-append-le}
use Rattle.std.proofs.lemmas.Bool.{le-leb, leb-true, leb-false}
use Rattle.gf2.specs.Words.{bits_of, bits, number, with_run, both_have, with_bits_of}
use Rattle.gf2.proofs.Sums.{bits_of_length}
use Rattle.gf2.proofs.Digits.{bits_of_number, bits_of_mod}
use Rattle.gf2.proofs.Overwriting.{run_empty, run_on}
use Rattle.gf2.proofs.Places.{bits_append, bits_take, bits_drop}
use Rattle.gf2.proofs.Masks.{low_bits}
use Rattle.gf2.proofs.Windows.{run_number, bits_of_drop, bits_of_take, joined}

-- a short run, read from the two bytes in which it lies
pub run_of_two : (bs : List ℕ) (s k : ℕ) → ((i : ℕ) → get_or bs i 0 < 256) → s < 8 → 1 ≤ k → s + k ≤ 16 → s + k ≤ length (bits bs)
    → bits_of k ((get_or bs 0 0 * 256 + get_or bs 1 0) / 2 ^ (16 - (s + k)) % 2 ^ k) ≡ take k (drop s (bits bs))
run_of_two bs s k low near some few h =
    ap (bits_of k) (sym value) ∙ ap (λ (i : ℕ). bits_of i (number run)) (sym long) ∙ bits_of_number run
  where
    run : List Bool
    run = take k (drop s (bits bs))

    long : length run ≡ k
    long = length-take-le k (drop s (bits bs)) (omega (arith, length-drop s (bits bs)))

    x : ℕ
    x = get_or bs 0 0 * 256 + get_or bs 1 0

    c : ℕ
    c = get_or bs 2 0

    value : number run ≡ x / 2 ^ (16 - (s + k)) % 2 ^ k
    value =
        run_number bs s k low some (omega arith) h
        ∙ ap₂ (λ (a o : ℕ). ((get_or bs a 0 * 256 + get_or bs (a + 1) 0) * 256 + get_or bs (a + 2) 0) / 2 ^ (24 - (o + k)) % 2 ^ k) (let e : s / 8 ≡ 0 = omega arith in e)
        (let e : s % 8 ≡ s = omega arith in e)
        ∙ ap (λ (i : ℕ). (x * 256 + c) / 2 ^ i % 2 ^ k) (let e : 24 - (s + k) ≡ 8 + (16 - (s + k)) = omega arith in e)
        ∙ ap (λ (n : ℕ). n % 2 ^ k) (sym (shr-shr (x * 256 + c) 8 (16 - (s + k))) ∙ ap (λ (n : ℕ). n / 2 ^ (16 - (s + k))) (shr_high x 8 c (low 2)))

digits_lt : (a i b k : ℕ) → a < 2 ^ i → b < 2 ^ k → a * 2 ^ k + b < 2 ^ (i + k)
digits_lt a i b k ha hb = omega (arith, suc-mul a (2 ^ k), mul-le-mul_right {m = suc a} {n = 2 ^ i} (2 ^ k) ha, pow-add 2 i k)

-- a byte b with a run of k bits, the number r, over those behind its first `at`: j bits stand from there on, p past the run
module _ (at k j p b r : ℕ) (behind : at + j ≡ 8) (rest : k + p ≡ j) (byte : b < 256) (small : r < 2 ^ k) where
  abbrev end : ℕ
  end = r * 2 ^ p + b % 2 ^ p

  past : b % 2 ^ p < 2 ^ p
  past = mod-lt b (pow_pos p)

  end_lt : end < 2 ^ j
  end_lt = subst (λ (i : ℕ). end < 2 ^ i) rest (digits_lt r k (b % 2 ^ p) p small past)

  new_lt : b / 2 ^ j * 2 ^ j + end < 256
  new_lt =
      subst (λ (i : ℕ). b / 2 ^ j * 2 ^ j + end < 2 ^ i) behind
      (digits_lt (b / 2 ^ j) at end j (shr_below b at j (subst (λ (i : ℕ). b < 2 ^ i) (sym behind) byte)) end_lt)

  new : bit_or (b / 2 ^ j * 2 ^ j % 4294967296) (bit_or (r * 2 ^ p % 4294967296) (bit_and b (1 * 2 ^ p % 4294967296 - 1))) ≡ b / 2 ^ j * 2 ^ j + end
  new =
      ap₂ bit_or (mod-eq_of_lt (omega (arith, new_lt)))
      (ap₂ bit_or (mod-eq_of_lt (omega (arith, new_lt))) (low_bits 32 p b (omega (arith, behind, rest))) ∙ or_shifted r p (b % 2 ^ p) past)
      ∙ or_shifted (b / 2 ^ j) j end end_lt

  pub over_byte_lt : bit_or (b / 2 ^ j * 2 ^ j % 4294967296) (bit_or (r * 2 ^ p % 4294967296) (bit_and b (1 * 2 ^ p % 4294967296 - 1))) < 256
  over_byte_lt = omega (arith, new, new_lt)

  pub over_byte : bits_of 8 (bit_or (b / 2 ^ j * 2 ^ j % 4294967296) (bit_or (r * 2 ^ p % 4294967296) (bit_and b (1 * 2 ^ p % 4294967296 - 1)))) ≡ with_run at (bits_of k r) (bits_of 8 b)
  over_byte =
      ap (bits_of 8) new
      ∙ sym
      (ap₂ (λ (x y : List Bool). x ++ (bits_of k r ++ y)) (ap (λ (i : ℕ). take at (bits_of i b)) (sym behind) ∙ bits_of_take at j b)
      (ap₂ (λ (d i : ℕ). drop d (bits_of i b)) (let e : at + length (bits_of k r) ≡ at + k = omega (arith, bits_of_length k r) in e)
      (let e : 8 ≡ at + k + p = omega (arith, behind, rest) in e)
      ∙ bits_of_drop (at + k) p b ∙ sym (bits_of_mod p b))
      ∙ ap (λ (x : List Bool). bits_of at (b / 2 ^ j) ++ x) (joined k p r (b % 2 ^ p) past ∙ ap (λ (i : ℕ). bits_of i end) rest)
      ∙ joined at j (b / 2 ^ j) end end_lt ∙ ap (λ (i : ℕ). bits_of i (b / 2 ^ j * 2 ^ j + end)) behind)

-- a run over bits of the first byte
pub first_byte_set : (bs : List ℕ) (v at : ℕ) (r : List Bool) → 0 < length bs → at + length r ≤ 8 → bits_of 8 v ≡ with_run at r (bits_of 8 (get_or bs 0 0)) → bits (set bs 0 v) ≡ with_run at r (bits bs)
unfolding bits
first_byte_set [] v at r some room e = absurd (omega arith)
first_byte_set (b ∷ bs) v at r some room e =
    ap (λ (w : List Bool). w ++ bits bs) e ∙ append_assoc (take at (bits_of 8 b)) (r ++ drop (at + length r) (bits_of 8 b)) (bits bs)
    ∙ sym
    (ap₂ (λ (x y : List Bool). x ++ (r ++ y)) (take-append-le at (bits_of 8 b) (bits bs) (omega (arith, bits_of_length 8 b)))
    (drop-append-le (at + length r) (bits_of 8 b) (bits bs) (omega (arith, bits_of_length 8 b)))
    ∙ ap (λ (w : List Bool). take at (bits_of 8 b) ++ w) (sym (append_assoc r (drop (at + length r) (bits_of 8 b)) (bits bs))))

-- a byte that is set
pub byte_set : (bs : List ℕ) (i v : ℕ) → i < length bs → bits (set bs i v) ≡ with_run (i * 8) (bits_of 8 v) (bits bs)
unfolding bits
byte_set bs i v h =
    ap bits (set_split bs i v h) ∙ bits_append (take i bs) (v ∷ drop (suc i) bs)
    ∙ ap₂ (λ (a b : List Bool). a ++ (bits_of 8 v ++ b)) (bits_take i bs (omega arith))
    (bits_drop (suc i) bs ∙ ap (λ (n : ℕ). drop n (bits bs)) (let e : suc i * 8 ≡ i * 8 + length (bits_of 8 v) = omega (arith, suc-mul i 8, bits_of_length 8 v) in e))

-- the rest of a word's first k bits, which begins where the first n end unless there is no rest
pub run_rest : (at n k p : ℕ) (s w : List Bool) → n ≤ k → k ≤ length s → at + n ≤ length w → (n < k → p ≡ at + n)
    → with_run p (take (k - n) (drop n s)) (with_run at (take n s) w) ≡ with_run at (take k s) w
run_rest at n k p s w h l room place = go (leb k n) refl
  where
    sum : n + (k - n) ≡ k
    sum = omega arith

    go : (b : Bool) → leb k n ≡ b → with_run p (take (k - n) (drop n s)) (with_run at (take n s) w) ≡ with_run at (take k s) w
    go true e =
        let all : k ≤ n = leb-true k n e in
        ap (λ (i : ℕ). with_run p (take i (drop n s)) (with_run at (take n s) w)) (let z : k - n ≡ 0 = omega arith in z)
        ∙ run_empty p (with_run at (take n s) w) ∙ ap (λ (i : ℕ). with_run at (take i s) w) (let z : n ≡ k = omega arith in z)
    go false e =
        let e : p ≡ at + n = place (leb-false k n e) in
        run_on at n (k - n) p s w e (omega arith) (omega arith) ∙ ap (λ (i : ℕ). with_run at (take i s) w) sum

-- the bits behind the first s, from a byte on
pub from_byte : (bs : List ℕ) (i s : ℕ) → i ≤ length bs → drop s (bits (take (length bs - i) (drop i bs))) ≡ drop (i * 8) (drop s (bits bs))
from_byte bs i s h =
    ap (λ (r : List ℕ). drop s (bits r)) (take_all (length bs - i) (drop i bs) (omega (arith, length-drop i bs))) ∙ ap (drop s) (bits_drop i bs)
    ∙ drop-drop s (i * 8) (bits bs) ∙ ap (λ (n : ℕ). drop n (bits bs)) (let e : i * 8 + s ≡ s + i * 8 = omega arith in e) ∙ sym (drop-drop (i * 8) s (bits bs))

-- whether both words have the bits
pub both : (k : ℕ) (v : List Bool) (s : ℕ) (w : List Bool) (at : ℕ) → s + k ≤ length v → at + k ≤ length w → true ≡ both_have k v s w at
both k v s w at h l = sym (ap (λ (b : Bool). cond b (leb (at + k) (length w)) false) (le-leb (s + k) (length v) h) ∙ le-leb (at + k) (length w) l)

-- where they do not, nothing changes
pub left : (k : ℕ) (v : List Bool) (s : ℕ) (w : List Bool) (at : ℕ) → false ≡ both_have k v s w at → w ≡ with_bits_of k v s w at
left k v s w at e = ap (λ (b : Bool). cond b (with_run at (take k (drop s v)) w) w) e

pub written : (k : ℕ) (v : List Bool) (s : ℕ) (w : List Bool) (at : ℕ) → true ≡ both_have k v s w at → with_run at (take k (drop s v)) w ≡ with_bits_of k v s w at
written k v s w at e = ap (λ (b : Bool). cond b (with_run at (take k (drop s v)) w) w) e
