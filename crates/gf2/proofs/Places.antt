-- Where the bits of bytes stand.
use Rattle.std.proofs.Common.{◌≡◌, ℕ, zero, suc, ◌+◌, ◌-◌, ◌*◌, ◌/◌, ◌%◌, ◌^◌, ◌<◌, ◌≤◌, Bool, true, false, not, eqb, leb, List, [], ◌∷◌, ◌++◌, length, get_or, take, drop, set, sym, refl, ap, ◌∙◌, lt_of_not-le, append_assoc, suc-mul, arith, length-append, length-drop, take-append-drop, drop-drop, take_at, drop_at}
use lib.Bits.{bit_xor, xor_comm}
use Rattle.std.proofs.lemmas.List.{drop_all, take_all, length-take-le, get_or_append_left, get_or-append_right, set-append_left, set-append_right}
use Rattle.std.proofs.lemmas.Bool.{leb-true, leb-false, le-leb, lt-leb}
use Rattle.gf2.specs.Words.{bits_of, bits}
use Rattle.gf2.proofs.Sums.{bits_of_length}
use Rattle.gf2.proofs.Digits.{bits_of_xor, bits_of_at, bits_of_turned}

pub bits_length : (bs : List ℕ) → length (bits bs) ≡ length bs * 8
unfolding bits
bits_length [] = refl
bits_length (b ∷ bs) = omega (arith, length-append (bits_of 8 b) (bits bs), bits_of_length 8 b, bits_length bs)

-- two tests that hold together
pub same_test : (a b c d : ℕ) → (a ≤ b → c ≤ d) → (c ≤ d → a ≤ b) → leb a b ≡ leb c d
same_test a b c d to from = go (leb a b) refl
  where
    go : (t : Bool) → leb a b ≡ t → t ≡ leb c d
    go true e = sym (le-leb c d (to (leb-true a b e)))
    go false e = sym (lt-leb c d (lt_of_not-le (λ h. let l = from h in let m = leb-false a b e in omega arith)))

pub bits_append : (cs bs : List ℕ) → bits (cs ++ bs) ≡ bits cs ++ bits bs
unfolding bits
bits_append [] bs = refl
bits_append (a ∷ cs) bs = ap (λ (w : List Bool). bits_of 8 a ++ w) (bits_append cs bs) ∙ sym (append_assoc (bits_of 8 a) (bits cs) (bits bs))

pub bits_take : (i : ℕ) (bs : List ℕ) → i ≤ length bs → bits (take i bs) ≡ take (i * 8) (bits bs)
bits_take i bs h =
    sym (take_at (bits (take i bs)) (bits (drop i bs)) (i * 8) (bits_length (take i bs) ∙ ap (λ (n : ℕ). n * 8) (length-take-le i bs h)))
    ∙ ap (take (i * 8)) (sym (bits_append (take i bs) (drop i bs)) ∙ ap bits (take-append-drop i bs))

pub bits_drop : (i : ℕ) (bs : List ℕ) → bits (drop i bs) ≡ drop (i * 8) (bits bs)
unfolding bits
bits_drop zero bs = refl
bits_drop (suc i) [] = sym (drop_all (suc i * 8) [] (omega arith))
bits_drop (suc i) (b ∷ bs) =
    bits_drop i bs ∙ sym (ap (drop (i * 8)) (drop_at (bits_of 8 b) (bits bs) 8 (bits_of_length 8 b))) ∙ drop-drop (i * 8) 8 (bits_of 8 b ++ bits bs)
    ∙ ap (λ (n : ℕ). drop n (bits_of 8 b ++ bits bs)) (let e : 8 + i * 8 ≡ suc i * 8 = omega (arith, suc-mul i 8) in e)

pub bits_at : (bs : List ℕ) (j o : ℕ) → j < length bs → o < 8 → get_or (bits bs) (j * 8 + o) false ≡ eqb (get_or bs j 0 / 2 ^ (7 - o) % 2) 1
unfolding bits
bits_at [] j o hj ho = absurd (omega arith)
bits_at (b ∷ bs) zero o hj ho =
    ap (λ (i : ℕ). get_or (bits_of 8 b ++ bits bs) i false) (let e : 0 * 8 + o ≡ o = omega arith in e)
    ∙ get_or_append_left (bits_of 8 b) (bits bs) false o (omega (arith, bits_of_length 8 b)) ∙ bits_of_at 8 o b ho
bits_at (b ∷ bs) (suc j) o hj ho =
    get_or-append_right (bits_of 8 b) (bits bs) 8 (suc j * 8 + o) false (bits_of_length 8 b) (omega (arith, suc-mul j 8))
    ∙ ap (λ (i : ℕ). get_or (bits bs) i false) (let e : suc j * 8 + o - 8 ≡ j * 8 + o = omega (arith, suc-mul j 8) in e)
    ∙ bits_at bs j o (omega arith) ho

pub bits_set : (bs : List ℕ) (j o : ℕ) → j < length bs → o < 8
    → bits (set bs j (bit_xor (get_or bs j 0) (2 ^ (7 - o)))) ≡ set (bits bs) (j * 8 + o) (not (eqb (get_or bs j 0 / 2 ^ (7 - o) % 2) 1))
unfolding bits
bits_set [] j o hj ho = absurd (omega arith)
bits_set (b ∷ bs) zero o hj ho =
    ap (λ (w : List Bool). w ++ bits bs) (ap (bits_of 8) (xor_comm b (2 ^ (7 - o))) ∙ bits_of_xor 8 (2 ^ (7 - o)) b ∙ bits_of_turned 8 o b ho)
    ∙ sym (set-append_left (bits_of 8 b) (bits bs) o (not (eqb (b / 2 ^ (7 - o) % 2) 1)) (omega (arith, bits_of_length 8 b)))
    ∙ ap (λ (i : ℕ). set (bits_of 8 b ++ bits bs) i (not (eqb (b / 2 ^ (7 - o) % 2) 1))) (let e : o ≡ 0 * 8 + o = omega arith in e)
bits_set (b ∷ bs) (suc j) o hj ho =
    let v = not (eqb (get_or bs j 0 / 2 ^ (7 - o) % 2) 1) in
    ap (λ (w : List Bool). bits_of 8 b ++ w)
    (bits_set bs j o (omega arith) ho ∙ ap (λ (i : ℕ). set (bits bs) i v) (let e : j * 8 + o ≡ suc j * 8 + o - 8 = omega (arith, suc-mul j 8) in e))
    ∙ sym (set-append_right (bits_of 8 b) (bits bs) 8 (suc j * 8 + o) v (bits_of_length 8 b) (omega (arith, suc-mul j 8)))

-- the bits of bytes from the one where bit s stands
pub bits_from : (bs : List ℕ) (s : ℕ) → s / 8 ≤ length bs → drop (s % 8) (bits (take (length bs - s / 8) (drop (s / 8) bs))) ≡ drop s (bits bs)
bits_from bs s h =
    ap (λ (r : List ℕ). drop (s % 8) (bits r)) (take_all (length bs - s / 8) (drop (s / 8) bs) (omega (arith, length-drop (s / 8) bs)))
    ∙ ap (drop (s % 8)) (bits_drop (s / 8) bs) ∙ drop-drop (s % 8) (s / 8 * 8) (bits bs)
    ∙ ap (λ (n : ℕ). drop n (bits bs)) (let e : s / 8 * 8 + s % 8 ≡ s = omega arith in e)
