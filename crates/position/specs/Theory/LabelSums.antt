-- Sums of labels: linear, and not 0 for one or two set bits if the labels differ. The laws of the code, which a clause cites, rest on these proofs.
use Rattle.std.specs.Prelude.{◌≡◌, ℕ, zero, suc, ◌+◌, ◌*◌, ◌^◌, ◌<◌, ◌≤◌, Bool, true, false, cond, ◌≢◌, List, [], ◌∷◌, ◌++◌, length, bit_xor, refl}
use Rattle.std.proofs.Common.{sym, ap, ap₂, ◌∙◌, arith, pow_pos}
use Rattle.std.specs.Int.Bits.{xor_assoc, xor_self, xor_zero_r, xor_shifted}
use Rattle.std.proofs.lemmas.Nat.{xor_lt}
use Rattle.std.specs.List.{AllByRecursion}
use Rattle.gf2.specs.Words.{plus, add, weight, number}
use Rattle.gf2.proofs.Ring.{xor4}
use Rattle.gf2.proofs.Sums.{number_lt}
use Rattle.gf2.proofs.Vandermonde.{xor_eq}
use Rattle.position.specs.Labels.{label_sum, powers_of_two}

pub sum_add : (ls : List ℕ) (w c : List Bool) → length w ≡ length c → label_sum ls (add w c) ≡ bit_xor (label_sum ls w) (label_sum ls c)
unfolding label_sum
sum_add [] w c h = refl
sum_add (a ∷ ls) [] [] h = refl
sum_add (a ∷ ls) [] (d ∷ c) h = absurd (omega arith)
sum_add (a ∷ ls) (b ∷ w) [] h = absurd (omega arith)
sum_add (a ∷ ls) (b ∷ w) (d ∷ c) h =
    ap₂ bit_xor (one b d) (sum_add ls w c (omega arith)) ∙ xor4 (cond b a 0) (cond d a 0) (label_sum ls w) (label_sum ls c)
  where
    one : (b d : Bool) → cond (plus b d) a 0 ≡ bit_xor (cond b a 0) (cond d a 0)
    one true true = sym (xor_self a)
    one true false = sym (xor_zero_r a)
    one false d = refl

sum_append : (ls ps : List ℕ) (d p : List Bool) → length d ≡ length ls → label_sum (ls ++ ps) (d ++ p) ≡ bit_xor (label_sum ls d) (label_sum ps p)
unfolding label_sum
sum_append [] ps [] p h = refl
sum_append [] ps (b ∷ d) p h = absurd (omega arith)
sum_append (a ∷ ls) ps [] p h = absurd (omega arith)
sum_append (a ∷ ls) ps (b ∷ d) p h =
    ap (bit_xor (cond b a 0)) (sum_append ls ps d p (omega arith)) ∙ sym (xor_assoc (cond b a 0) (label_sum ls d) (label_sum ps p))

-- bits that have the powers of two add to the number that they make
sum_powers : (p : List Bool) → label_sum (powers_of_two (length p)) p ≡ number p
unfolding label_sum powers_of_two
sum_powers [] = refl
sum_powers (true ∷ p) =
    ap (bit_xor (2 ^ length p)) (sum_powers p) ∙ ap (λ (x : ℕ). bit_xor x (number p)) (let e : 2 ^ length p ≡ 1 * 2 ^ length p = omega arith in e)
    ∙ xor_shifted 1 (length p) (number p) (number_lt p) ∙ (let e : 1 * 2 ^ length p + number p ≡ 2 ^ length p + number p = omega arith in e)
sum_powers (false ∷ p) = sum_powers p ∙ (let e : number p ≡ 0 + number p = omega arith in e)

-- the sum of data bits and check bits
pub sum_with_checks : (r : ℕ) (ls : List ℕ) (d p : List Bool) → length d ≡ length ls → length p ≡ r
    → label_sum (ls ++ powers_of_two r) (d ++ p) ≡ bit_xor (label_sum ls d) (number p)
sum_with_checks r ls d p hd hp =
    sum_append ls (powers_of_two r) d p hd ∙ ap (bit_xor (label_sum ls d)) (ap (λ (r : ℕ). label_sum (powers_of_two r) p) (sym hp) ∙ sum_powers p)

pub powers_length : (r : ℕ) → length (powers_of_two r) ≡ r
unfolding powers_of_two
powers_length zero = refl
powers_length (suc r) = ap suc (powers_length r)

pub sum_lt : (r : ℕ) (ls : List ℕ) (w : List Bool) → AllByRecursion (λ a. a < 2 ^ r) ls → label_sum ls w < 2 ^ r
unfolding label_sum
sum_lt r [] w h = pow_pos r
sum_lt r (a ∷ ls) [] h = pow_pos r
sum_lt r (a ∷ ls) (true ∷ w) h = xor_lt r a (label_sum ls w) h.0 (sum_lt r ls w h.1)
sum_lt r (a ∷ ls) (false ∷ w) h = sum_lt r ls w h.1

-- labels that differ from one another and from 0
abbrev pub Apart : List ℕ → Type 0
Apart [] = Unit {0}
Apart (a ∷ ls) = (a ≢ 0) × AllByRecursion (λ b. b ≢ a) ls × Apart ls

sum_none : (ls : List ℕ) (w : List Bool) → weight w ≡ 0 → label_sum ls w ≡ 0
unfolding label_sum
sum_none [] w h = refl
sum_none (a ∷ ls) [] h = refl
sum_none (a ∷ ls) (true ∷ w) h = absurd (omega arith)
sum_none (a ∷ ls) (false ∷ w) h = sum_none ls w h

-- one set bit at most has a label or 0 as its sum
pub sum_one : (a : ℕ) (ls : List ℕ) (w : List Bool) → a ≢ 0 → AllByRecursion (λ b. b ≢ a) ls → weight w ≤ 1 → label_sum ls w ≢ a
unfolding label_sum
sum_one a [] w z o h e = z (sym e)
sum_one a (b ∷ ls) [] z o h e = z (sym e)
sum_one a (b ∷ ls) (true ∷ w) z o h e = o.0 (sym (xor_zero_r b) ∙ ap (bit_xor b) (sym (sum_none ls w (omega arith))) ∙ e)
sum_one a (b ∷ ls) (false ∷ w) z o h e = sum_one a ls w z o.1 h e

-- two set bits at most whose labels add to 0: none is set
pub sum_two : (ls : List ℕ) (w : List Bool) → length w ≡ length ls → Apart ls → weight w ≤ 2 → label_sum ls w ≡ 0 → weight w ≡ 0
unfolding label_sum
sum_two [] [] l L h e = refl
sum_two [] (b ∷ w) l L h e = absurd (omega arith)
sum_two (a ∷ ls) [] l L h e = absurd (omega arith)
sum_two (a ∷ ls) (true ∷ w) l L h e = absurd (sum_one a ls w L.0 L.1 (omega arith) (sym (xor_eq a (label_sum ls w) e)))
sum_two (a ∷ ls) (false ∷ w) l L h e = sum_two ls w (omega arith) L.2 h e
