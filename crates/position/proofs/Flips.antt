-- Sums of labels of a part of a word and of a word with one bit flipped.
use Rattle.std.proofs.Common.{◌≡◌, ℕ, zero, suc, ◌<◌, Bool, true, false, cond, not, List, [], ◌∷◌, length, get_or, take, set, sym, refl, ap, ◌∙◌, arith}
use lib.Bits.{bit_xor, xor_assoc, xor_comm, xor_self}
use Rattle.position.specs.Labels.{label_sum}

-- bits without a label do not count
pub sum_take : (ls : List ℕ) (w : List Bool) (n : ℕ) → length ls ≡ n → label_sum ls (take n w) ≡ label_sum ls w
unfolding label_sum
sum_take [] w n h = refl
sum_take (a ∷ ls) w zero h = absurd (omega arith)
sum_take (a ∷ ls) [] (suc n) h = refl
sum_take (a ∷ ls) (b ∷ w) (suc n) h = ap (bit_xor (cond b a 0)) (sum_take ls w n (omega arith))

-- a flipped bit adds its label
pub sum_flipped : (ls : List ℕ) (w : List Bool) (i : ℕ) → i < length ls → i < length w
    → label_sum ls (set w i (not (get_or w i false))) ≡ bit_xor (get_or ls i 0) (label_sum ls w)
unfolding label_sum
sum_flipped [] w i h l = absurd (omega arith)
sum_flipped (a ∷ ls) [] i h l = absurd (omega arith)
sum_flipped (a ∷ ls) (true ∷ w) zero h l = sym (sym (xor_assoc a a (label_sum ls w)) ∙ ap (λ (x : ℕ). bit_xor x (label_sum ls w)) (xor_self a))
sum_flipped (a ∷ ls) (false ∷ w) zero h l = refl
sum_flipped (a ∷ ls) (b ∷ w) (suc i) h l =
    let d = get_or ls i 0 in
    let s = label_sum ls w in
    ap (bit_xor (cond b a 0)) (sum_flipped ls w i (omega arith) (omega arith)) ∙ sym (xor_assoc (cond b a 0) d s)
    ∙ ap (λ (x : ℕ). bit_xor x s) (xor_comm (cond b a 0) d) ∙ xor_assoc d (cond b a 0) s
