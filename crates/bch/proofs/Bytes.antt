-- Dividing a byte at a time: the remainder is linear in the register and the bits, so a table of the remainders of all bytes gives each step.
use Rattle.std.proofs.Common.{◌≡◌, ℕ, zero, suc, ◌+◌, ◌-◌, ◌*◌, ◌/◌, ◌%◌, ◌^◌, ◌<◌, Bool, true, false, cond, T, eqb, List, [], ◌∷◌, ◌++◌, length, get_or, take, replicate, sym, refl, ap, ◌∙◌, ap₂, mod-lt, mod-eq_of_lt, mul_assoc, pow-suc, div-add-mod', arith, pow_pos, pow_mono, pow-add, shr_lt}
use native.Mathlib.Nat.{div-eq_of_lt}
use native.Mathlib.Decide.{ℕ_discrete}
use lib.Bits.{bit_and, bit_xor, and_mask, xor_lt, xor_assoc, xor_comm, xor_self, xor_shifted, xor_zero_r}
use Rattle.std.proofs.lemmas.List.{append-nil, take_more}
use Rattle.std.proofs.lemmas.Bool.{eqb-true}
use Rattle.gf2.specs.Product.{times_x, if_set}
use Rattle.gf2.specs.Words.{plus, add, bits, bits_of}
use Rattle.gf2.proofs.Digits.{bits_of_xor}
use Rattle.gf2.proofs.Masks.{low_bits}
use Rattle.gf2.proofs.Places.{bits_append, bits_take}
use Rattle.gf2.proofs.Ring as ring
use Rattle.gf2.proofs.Ring.{◌⊕◌, xor4}
use Rattle.gf2.proofs.Sums.{bits_of_length}
use Rattle.bch.specs.declared.code.Bch.{Bch}
use Rattle.bch.specs.declared.code.Bch.TheVariants.{Worked, Long}
use Rattle.bch.specs.Checks.{running, remainder}
use Rattle.bch.specs.Checks.{RemaindersOfBytes}
use Rattle.bch.specs.Settings.{generator_top, generator_tail, check_bits}
use Rattle.bch.specs.Theory.Tested.{tested}

abbrev eight_zeros : List Bool
eight_zeros = replicate 8 false

-- the list has the remainders of the bytes from b on
unfoldable pub entries : ℕ → ℕ → ℕ → List ℕ → Bool
entries n g b [] = true
entries n g b (y ∷ ys) = elim (eqb y (remainder n g 0 (bits_of 8 b))) [ true ↦ entries n g (suc b) ys | false ↦ false ]

entry : (n g b : ℕ) (xs : List ℕ) → T (entries n g b xs) → (i : ℕ) → i < length xs → get_or xs i 0 ≡ remainder n g 0 (bits_of 8 (b + i))
unfolding entries
entry n g b [] t i h = absurd (omega arith)
entry n g b (y ∷ ys) t i h = go (eqb y (remainder n g 0 (bits_of 8 b))) refl t i h (entry n g (suc b) ys)
  where
    go : (e : Bool) → eqb y (remainder n g 0 (bits_of 8 b)) ≡ e → T (elim e [ true ↦ entries n g (suc b) ys | false ↦ false ]) → (i : ℕ) → i < length (y ∷ ys)
        → (T (entries n g (suc b) ys) → (i : ℕ) → i < length ys → get_or ys i 0 ≡ remainder n g 0 (bits_of 8 (suc b + i)))
        → get_or (y ∷ ys) i 0 ≡ remainder n g 0 (bits_of 8 (b + i))
    go true q t zero h ih = eqb-true y (remainder n g 0 (bits_of 8 b)) q ∙ ap (λ (j : ℕ). remainder n g 0 (bits_of 8 j)) (let e : b ≡ b + 0 = omega arith in e)
    go true q t (suc i) h ih = ih t i (omega arith) ∙ ap (λ (j : ℕ). remainder n g 0 (bits_of 8 j)) (let e : suc b + i ≡ b + suc i = omega arith in e)
    go false q t i h ih = absurd t

pub rule : (n g : ℕ) (xs : List ℕ) → length xs ≡ 256 → T (entries n g 0 xs) → RemaindersOfBytes n g xs
rule n g xs l t = record {
  long = l;
  each = λ b h. entry n g 0 xs t b (omega arith) ∙ ap (λ (j : ℕ). remainder n g 0 (bits_of 8 j)) (let e : 0 + b ≡ b = omega arith in e);
}

-- eight bits at the top of a register lead to the remainder of the byte that they are, for all that are below k
unfoldable pub highs : ℕ → ℕ → ℕ → ℕ → Bool
highs n g q zero = true
highs n g q (suc h) = elim (eqb (remainder n g (h * 2 ^ q) eight_zeros) (remainder n g 0 (bits_of 8 h))) [ true ↦ highs n g q h | false ↦ false ]

high : (n g q k : ℕ) → T (highs n g q k) → (h : ℕ) → h < k → remainder n g (h * 2 ^ q) eight_zeros ≡ remainder n g 0 (bits_of 8 h)
unfolding highs
high n g q zero t h l = absurd (omega arith)
high n g q (suc k) t h l = go (eqb (remainder n g (k * 2 ^ q) eight_zeros) (remainder n g 0 (bits_of 8 k))) refl t (λ t. high n g q k t h) (ℕ_discrete h k)
  where
    go : (e : Bool) → eqb (remainder n g (k * 2 ^ q) eight_zeros) (remainder n g 0 (bits_of 8 k)) ≡ e → T (elim e [ true ↦ highs n g q k | false ↦ false ])
        → (T (highs n g q k) → h < k → remainder n g (h * 2 ^ q) eight_zeros ≡ remainder n g 0 (bits_of 8 h)) → Dec (h ≡ k)
        → remainder n g (h * 2 ^ q) eight_zeros ≡ remainder n g 0 (bits_of 8 h)
    go true e t ih (yes d) =
        ap (λ (j : ℕ). remainder n g (j * 2 ^ q) eight_zeros) d ∙ eqb-true (remainder n g (k * 2 ^ q) eight_zeros) (remainder n g 0 (bits_of 8 k)) e
        ∙ ap (λ (j : ℕ). remainder n g 0 (bits_of 8 j)) (sym d)
    go true e t ih (no d) = ih t (omega arith)
    go false e t ih d = absurd t

nothing : (b : ℕ) → bits_of 8 b ≡ add eight_zeros (bits_of 8 b)
unfolding bits_of
nothing b = refl

module _ (n g : ℕ) (hg : g < 2 ^ suc n) where
  times_x_add : (a b : ℕ) → times_x n g (a ⊕ b) ≡ times_x n g a ⊕ times_x n g b
  times_x_add a b =
      let x = times_x n g 1 in
      ring.times_x_is_product n g hg (a ⊕ b) ∙ ring.times_add n g hg x a b
      ∙ ap₂ bit_xor (sym (ring.times_x_is_product n g hg a)) (sym (ring.times_x_is_product n g hg b))

  linear : (a b : ℕ) (u v : List Bool) → length u ≡ length v → remainder n g (a ⊕ b) (add u v) ≡ remainder n g a u ⊕ remainder n g b v
  unfolding running
  linear a b [] [] l = refl
  linear a b [] (d ∷ v) l = absurd (omega arith)
  linear a b (c ∷ u) [] l = absurd (omega arith)
  linear a b (c ∷ u) (d ∷ v) l =
      ap (λ (x : ℕ). remainder n g x (add u v)) (ap₂ bit_xor (times_x_add a b) (bit c d) ∙ xor4 (times_x n g a) (times_x n g b) (cond c g 0) (cond d g 0))
      ∙ linear (times_x n g a ⊕ cond c g 0) (times_x n g b ⊕ cond d g 0) u v (omega arith)
    where
      bit : (c d : Bool) → cond (plus c d) g 0 ≡ cond c g 0 ⊕ cond d g 0
      bit true true = sym (xor_self g)
      bit true false = sym (xor_zero_r g)
      bit false d = refl

  small : (a : ℕ) → a < 2 ^ n → times_x n g a ⊕ 0 ≡ a * 2
  unfolding times_x
  small a h =
      xor_zero_r (times_x n g a) ∙ ap₂ (λ (x y : ℕ). (x * 2) ⊕ if_set y g) (mod-eq_of_lt h) (ap (λ (x : ℕ). x % 2) (div-eq_of_lt h)) ∙ xor_zero_r (a * 2)

  -- a small register only moves up
  lifted : (k j lo : ℕ) → j + k ≡ suc n → lo < 2 ^ j → remainder n g lo (replicate k false) ≡ lo * 2 ^ k
  unfolding running
  lifted zero j lo e h = omega arith
  lifted (suc k) j lo e h =
      ap (λ (x : ℕ). remainder n g x (replicate k false)) (small lo (omega (arith, pow_mono {i = j} {j = n} (omega arith))))
      ∙ lifted k (suc j) (lo * 2) (omega arith) (omega (arith, pow-suc 2 j))
      ∙ mul_assoc lo 2 (2 ^ k) ∙ ap (λ (x : ℕ). lo * x) (let e : 2 * 2 ^ k ≡ 2 ^ suc k = omega (arith, pow-suc 2 k) in e)

  module _ (q : ℕ) (e : q + 8 ≡ suc n) (test : T (highs n g q 256)) where
    pub byte_step : (r b : ℕ) → r < 2 ^ suc n → remainder n g r (bits_of 8 b) ≡ bit_xor ((r % 2 ^ q) * 2 ^ 8) (remainder n g 0 (bits_of 8 (bit_xor (r / 2 ^ q) b)))
    byte_step r b h =
        let hi = r / 2 ^ q in
        let lo = r % 2 ^ q in
        let B = bits_of 8 b in
        let R = λ (x : ℕ). remainder n g 0 (bits_of 8 x) in
        ap₂ (remainder n g) (sym whole ∙ sym (xor_zero_r (hi * 2 ^ q ⊕ lo))) (nothing b)
        ∙ linear (hi * 2 ^ q ⊕ lo) 0 eight_zeros B (sym (bits_of_length 8 b))
        ∙ ap (λ (x : ℕ). x ⊕ R b)
        (linear (hi * 2 ^ q) lo eight_zeros eight_zeros refl
        ∙ ap₂ bit_xor (high n g q 256 test hi top) (lifted 8 q lo e (mod-lt r (pow_pos q)))
        ∙ xor_comm (R hi) (lo * 2 ^ 8))
        ∙ xor_assoc (lo * 2 ^ 8) (R hi) (R b)
        ∙ ap (bit_xor (lo * 2 ^ 8))
        (sym (linear 0 0 (bits_of 8 hi) B (bits_of_length 8 hi ∙ sym (bits_of_length 8 b))) ∙ ap (remainder n g 0) (sym (bits_of_xor 8 hi b)))
      where
        whole : (r / 2 ^ q) * 2 ^ q ⊕ (r % 2 ^ q) ≡ r
        whole = xor_shifted (r / 2 ^ q) q (r % 2 ^ q) (mod-lt r (pow_pos q)) ∙ (let e : (r / 2 ^ q) * 2 ^ q + r % 2 ^ q ≡ r = omega (arith, div-add-mod' r (2 ^ q)) in e)

        top : r / 2 ^ q < 256
        top = shr_lt 8 q (omega (arith, ap (λ (i : ℕ). 2 ^ i) (let d : 8 + q ≡ suc n = omega arith in d)))

-- the test of the codes in use
pub tops : (C : Bch) → (q : ℕ) × (q + 8 ≡ suc (generator_top C)) × T (highs (generator_top C) (generator_tail C) q 256)
unfolding highs running times_x bits_of
tops Worked = (2, refl, tt)
tops Long = (62, refl, tt)

-- one byte, as the code has it: k bits of the register stay, and the table has the rest
pub by_table : (C : Bch) (table : List ℕ) → RemaindersOfBytes (generator_top C) (generator_tail C) table → (k r x b : ℕ) → k + 8 ≡ check_bits C → x ≡ b → b < 2 ^ 8 → r < 2 ^ check_bits C
    → bit_xor ((bit_and r ((1 * 2 ^ k) % 2 ^ 128 - 1)) * 2 ^ 8 % 2 ^ 128) (get_or table (bit_and (bit_xor (r / 2 ^ k) x) (2 ^ 8 - 1)) 0)
    ≡ remainder (generator_top C) (generator_tail C) r (bits_of 8 b)
by_table C table t k r x b ek ex hb hr =
    ap₂ bit_xor (ap (λ (y : ℕ). y * 2 ^ 8 % 2 ^ 128) (low_bits 128 k r (omega (arith, (tested C).small))) ∙ ap (λ (i : ℕ). (r % 2 ^ i) * 2 ^ 8 % 2 ^ 128) same ∙ mod-eq_of_lt fits)
    (ap (λ (i : ℕ). get_or table i 0) at ∙ t.each (bit_xor (r / 2 ^ q) b) below)
    ∙ sym (byte_step (generator_top C) (generator_tail C) (tested C).tail q (tops C).1 (tops C).2 r b hr)
  where
    q : ℕ
    q = (tops C).0

    same : k ≡ q
    same = omega (arith, (tops C).1)

    fits : (r % 2 ^ q) * 2 ^ 8 < 2 ^ 128
    fits = omega (arith, mod-lt r (pow_pos q), pow-add 2 q 8, ap (λ (i : ℕ). 2 ^ i) (tops C).1, pow_mono {i = check_bits C} {j = 127} (omega (arith, (tested C).small)))

    below : bit_xor (r / 2 ^ q) b < 256
    below = xor_lt 8 (r / 2 ^ q) b (shr_lt 8 q (omega (arith, ap (λ (i : ℕ). 2 ^ i) (let d : 8 + q ≡ check_bits C = omega (arith, (tops C).1) in d)))) hb

    at : bit_and (bit_xor (r / 2 ^ k) x) (2 ^ 8 - 1) ≡ bit_xor (r / 2 ^ q) b
    at = ap₂ (λ (i y : ℕ). bit_and (bit_xor (r / 2 ^ i) y) (2 ^ 8 - 1)) same ex ∙ and_mask (bit_xor (r / 2 ^ q) b) 8 ∙ mod-eq_of_lt below

one : (b : ℕ) → bits (b ∷ []) ≡ bits_of 8 b
unfolding bits
one b = append-nil (bits_of 8 b)

pub byte_more : (bs : List ℕ) (i : ℕ) → i < length bs → take ((i + 1) * 8) (bits bs) ≡ take (i * 8) (bits bs) ++ bits_of 8 (get_or bs i 0)
byte_more bs i h =
    sym (bits_take (i + 1) bs (omega arith)) ∙ ap bits (take_more bs i 0 h) ∙ bits_append (take i bs) (get_or bs i 0 ∷ [])
    ∙ ap₂ ◌++◌ (bits_take i bs (omega arith)) (one (get_or bs i 0))
