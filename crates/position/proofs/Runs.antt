-- The labels of the set bits, added in turn as the bits are gone through.
use Rattle.std.proofs.Common.{◌≡◌, ℕ, zero, suc, ◌+◌, Bool, true, false, cond, not, List, [], ◌∷◌, get_or, drop, sym, refl, ap, ◌∙◌, add-one}
use lib.Bits.{bit_xor, xor_assoc, xor_zero_l, xor_zero_r}
use Rattle.std.specs.List.{fold, filter, enumerate_from, range_with_len}
use Rattle.position.specs.Labels.{label_sum, is_power_of_two, no_powers_of_two}
use Rattle.position.specs.Short.{data_labels}

-- the first bit that is left is the one at p, or none is
next_bit : (a : ℕ) (ls : List ℕ) (w : List Bool) (p : ℕ)
    → label_sum (a ∷ ls) (drop p w) ≡ bit_xor (cond (get_or w p false) a 0) (label_sum ls (drop (suc p) w))
unfolding label_sum
next_bit a [] [] zero = refl
next_bit a (b ∷ ls) [] zero = refl
next_bit a [] [] (suc p) = refl
next_bit a (b ∷ ls) [] (suc p) = refl
next_bit a ls (b ∷ w) zero = refl
next_bit a ls (b ∷ w) (suc p) = next_bit a ls w p

module _ (w : List Bool) where
  from : ℕ → ℕ → List ℕ → ℕ
  from s p ls = fold (λ (x : ℕ) (q : ℕ × ℕ). bit_xor x q.1) s (filter (λ (q : ℕ × ℕ). get_or w q.0 false) (enumerate_from p ls))

  from_is : (ls : List ℕ) (s p : ℕ) → from s p ls ≡ bit_xor s (label_sum ls (drop p w))
  unfolding from label_sum
  from_is [] s p = sym (xor_zero_r s)
  from_is (a ∷ ls) s p = go (get_or w p false) refl (λ t. from_is ls t (p + 1))
    where
      whole : (b : Bool) → get_or w p false ≡ b → bit_xor s (bit_xor (cond b a 0) (label_sum ls (drop (p + 1) w))) ≡ bit_xor s (label_sum (a ∷ ls) (drop p w))
      whole b e =
          ap (bit_xor s)
          (ap (λ (x : Bool). bit_xor (cond x a 0) (label_sum ls (drop (p + 1) w))) (sym e) ∙ ap (λ (k : ℕ). bit_xor (cond (get_or w p false) a 0) (label_sum ls (drop k w))) (add-one p)
          ∙ sym (next_bit a ls w p))

      go : (b : Bool) → get_or w p false ≡ b → ((t : ℕ) → from t (p + 1) ls ≡ bit_xor t (label_sum ls (drop (p + 1) w))) → from s p (a ∷ ls) ≡ bit_xor s (label_sum (a ∷ ls) (drop p w))
      go true e rest =
          ap (λ (b : Bool). fold (λ (x : ℕ) (q : ℕ × ℕ). bit_xor x q.1) s (cond b ((p, a) ∷ filter (λ (q : ℕ × ℕ). get_or w q.0 false) (enumerate_from (p + 1) ls)) (filter (λ (q : ℕ × ℕ). get_or w q.0 false) (enumerate_from (p + 1) ls)))) e
          ∙ rest (bit_xor s a) ∙ xor_assoc s a (label_sum ls (drop (p + 1) w)) ∙ whole true e
      go false e rest =
          ap (λ (b : Bool). fold (λ (x : ℕ) (q : ℕ × ℕ). bit_xor x q.1) s (cond b ((p, a) ∷ filter (λ (q : ℕ × ℕ). get_or w q.0 false) (enumerate_from (p + 1) ls)) (filter (λ (q : ℕ × ℕ). get_or w q.0 false) (enumerate_from (p + 1) ls)))) e
          ∙ rest s ∙ whole false e

-- the numbers from 3 to 554 that are no powers of two are the labels of the places from 0 on
pub added_is : (w : List Bool)
    → fold (λ (x : ℕ) (q : ℕ × ℕ). bit_xor x q.1) 0 (filter (λ (q : ℕ × ℕ). get_or w q.0 false) (enumerate_from 0 (filter (λ m. not (is_power_of_two m)) (range_with_len 3 552))))
    ≡ label_sum data_labels w
unfolding from data_labels no_powers_of_two
added_is w = from_is w data_labels 0 0 ∙ xor_zero_l (label_sum data_labels w)
