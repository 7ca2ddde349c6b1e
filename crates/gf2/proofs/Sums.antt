-- Sums and weights of words; words as numbers.
use Rattle.std.proofs.Common.{◌≡◌, ℕ, zero, suc, ◌+◌, ◌*◌, ◌^◌, ◌<◌, ◌≤◌, Bool, true, false, cond, List, [], ◌∷◌, ◌++◌, length, replicate, sym, refl, ap, ◌∙◌, subst, ap₂, pow-suc, arith, pow_pos}
use lib.Bits.{bit_xor, xor_block}
use Rattle.std.proofs.lemmas.List.{length_push}
use Rattle.gf2.specs.Words.{plus, add, weight, distance, number, bits_of}

pub plus_comm : (a b : Bool) → plus a b ≡ plus b a
plus_comm true true = refl
plus_comm true false = refl
plus_comm false true = refl
plus_comm false false = refl

pub plus_assoc : (a b c : Bool) → plus (plus a b) c ≡ plus a (plus b c)
plus_assoc true true true = refl
plus_assoc true true false = refl
plus_assoc true false c = refl
plus_assoc false b c = refl

pub plus_self : (a : Bool) → plus a a ≡ false
plus_self true = refl
plus_self false = refl

pub plus_back : (a b : Bool) → plus a (plus a b) ≡ b
plus_back true true = refl
plus_back true false = refl
plus_back false b = refl

pub plus_zero : (a : Bool) → plus a false ≡ a
plus_zero true = refl
plus_zero false = refl

pub add_nil : (w : List Bool) → add w [] ≡ w
add_nil [] = refl
add_nil (b ∷ w) = refl

pub add_comm : (w c : List Bool) → add w c ≡ add c w
add_comm [] [] = refl
add_comm [] (d ∷ c) = refl
add_comm (b ∷ w) [] = refl
add_comm (b ∷ w) (d ∷ c) = ap₂ ◌∷◌ (plus_comm b d) (add_comm w c)

pub add_assoc : (a b c : List Bool) → add (add a b) c ≡ add a (add b c)
add_assoc [] b c = refl
add_assoc (x ∷ a) [] c = refl
add_assoc (x ∷ a) (y ∷ b) [] = refl
add_assoc (x ∷ a) (y ∷ b) (z ∷ c) = ap₂ ◌∷◌ (plus_assoc x y z) (add_assoc a b c)

pub add_length : (w c : List Bool) → length w ≡ length c → length (add w c) ≡ length w
add_length [] [] h = refl
add_length [] (d ∷ c) h = absurd (omega arith)
add_length (b ∷ w) [] h = refl
add_length (b ∷ w) (d ∷ c) h = ap suc (add_length w c (omega arith))

-- w + (w + c) is c
pub add_back : (w c : List Bool) → length w ≡ length c → add w (add w c) ≡ c
add_back [] c h = refl
add_back (b ∷ w) [] h = absurd (omega arith)
add_back (b ∷ w) (d ∷ c) h = ap₂ ◌∷◌ (plus_back b d) (add_back w c (omega arith))

pub add_append : (a b c d : List Bool) → length a ≡ length c → add (a ++ b) (c ++ d) ≡ add a c ++ add b d
add_append [] b [] d h = refl
add_append [] b (y ∷ c) d h = absurd (omega arith)
add_append (x ∷ a) b [] d h = absurd (omega arith)
add_append (x ∷ a) b (y ∷ c) d h = ap (λ (r : List Bool). plus x y ∷ r) (add_append a b c d (omega arith))

pub add_self : (w : List Bool) → add w w ≡ replicate (length w) false
add_self [] = refl
add_self (b ∷ w) = ap₂ ◌∷◌ (plus_self b) (add_self w)

pub add_zeros : (w : List Bool) (n : ℕ) → n ≤ length w → add w (replicate n false) ≡ w
add_zeros w zero h = add_nil w
add_zeros [] (suc n) h = absurd (omega arith)
add_zeros (b ∷ w) (suc n) h = ap₂ ◌∷◌ (plus_zero b) (add_zeros w n (omega arith))

pub weight_append : (a b : List Bool) → weight (a ++ b) ≡ weight a + weight b
weight_append [] b = omega arith
weight_append (true ∷ a) b = omega (arith, weight_append a b)
weight_append (false ∷ a) b = weight_append a b

pub weight_zeros : (n : ℕ) → weight (replicate n false) ≡ 0
weight_zeros zero = refl
weight_zeros (suc n) = weight_zeros n

pub weight_ones : (n : ℕ) → weight (replicate n true) ≡ n
weight_ones zero = refl
weight_ones (suc n) = ap suc (weight_ones n)

pub weight_add : (a b : List Bool) → weight (add a b) ≤ weight a + weight b
weight_add [] b = omega arith
weight_add (x ∷ a) [] = omega arith
weight_add (true ∷ a) (true ∷ b) = omega (arith, weight_add a b)
weight_add (true ∷ a) (false ∷ b) = omega (arith, weight_add a b)
weight_add (false ∷ a) (true ∷ b) = omega (arith, weight_add a b)
weight_add (false ∷ a) (false ∷ b) = weight_add a b

-- no bit set: all zeros
pub no_weight : (w : List Bool) → weight w ≡ 0 → w ≡ replicate (length w) false
no_weight [] h = refl
no_weight (true ∷ w) h = absurd (omega arith)
no_weight (false ∷ w) h = ap (λ (r : List Bool). false ∷ r) (no_weight w h)

pub distance_comm : (a b : List Bool) → distance a b ≡ distance b a
distance_comm a b = ap weight (add_comm a b)

pub triangle : (a b c : List Bool) → length a ≡ length b → distance b c ≤ distance a b + distance a c
triangle a b c h =
    subst (λ (w : List Bool). weight w ≤ distance a b + distance a c) same (weight_add (add a b) (add a c))
  where
    same : add (add a b) (add a c) ≡ add b c
    same = ap (λ (w : List Bool). add w (add a c)) (add_comm a b) ∙ add_assoc b a (add a c) ∙ ap (add b) (sym (add_assoc a a c) ∙ ap (λ (w : List Bool). add w c) (add_self a)) ∙ more
      where
        more : add b (add (replicate (length a) false) c) ≡ add b c
        more =
            sym (add_assoc b (replicate (length a) false) c)
            ∙ ap (λ (w : List Bool). add w c) (add_zeros b (length a) (omega arith))

-- ---- words as numbers

bit : Bool → ℕ
bit b = cond b 1 0

pub number_lt : (w : List Bool) → number w < 2 ^ length w
number_lt [] = pow_pos 0
number_lt (true ∷ w) = omega (arith, number_lt w, pow-suc 2 (length w))
number_lt (false ∷ w) = omega (arith, number_lt w, pow-suc 2 (length w))

pub number_add : (w c : List Bool) → length w ≡ length c → number (add w c) ≡ bit_xor (number w) (number c)
unfolding bit
number_add [] [] h = refl
number_add [] (d ∷ c) h = absurd (omega arith)
number_add (b ∷ w) [] h = absurd (omega arith)
number_add (b ∷ w) (d ∷ c) h =
    ap₂ ◌+◌ (ap (λ (n : ℕ). cond (plus b d) (2 ^ n) 0) (add_length w c same) ∙ top b d (2 ^ length w)) (number_add w c same)
    ∙ sym (xor_block (length w) (bit b) (bit d) (number w) (number c) (number_lt w) low)
    ∙ ap₂ bit_xor (ap (λ (x : ℕ). x + number w) (times b (2 ^ length w)))
    (ap (λ (x : ℕ). x + number c) (times d (2 ^ length w) ∙ ap (λ (n : ℕ). cond d (2 ^ n) 0) same))
  where
    same : length w ≡ length c
    same = omega arith

    low : number c < 2 ^ length w
    low = subst (λ (n : ℕ). number c < 2 ^ n) (sym same) (number_lt c)

    times : (b : Bool) (x : ℕ) → bit b * x ≡ cond b x 0
    times true x = omega arith
    times false x = omega arith

    top : (b d : Bool) (x : ℕ) → cond (plus b d) x 0 ≡ bit_xor (bit b) (bit d) * x
    top true true x = omega arith
    top true false x = omega arith
    top false true x = omega arith
    top false false x = omega arith

pub number_zeros : (n : ℕ) → number (replicate n false) ≡ 0
number_zeros zero = refl
number_zeros (suc n) = omega (arith, number_zeros n)

pub bits_of_length : (k n : ℕ) → length (bits_of k n) ≡ k
unfolding bits_of
bits_of_length zero n = refl
bits_of_length (suc k) n = ap suc (bits_of_length k n)

-- a bit more at the end
pub number_push : (w : List Bool) (b : Bool) → number (w ++ b ∷ []) ≡ number w * 2 + cond b 1 0
number_push [] true = refl
number_push [] false = refl
number_push (true ∷ w) b =
    omega (arith, number_push w b, ap (λ (n : ℕ). 2 ^ n) (length_push w b ∙ (let e : length w + 1 ≡ suc (length w) = omega arith in e)), pow-suc 2 (length w))
number_push (false ∷ w) b = omega (arith, number_push w b)
