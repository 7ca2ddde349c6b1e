-- Last bits compared as numbers.
use Rattle.std.proofs.Common.{◌≡◌, ℕ, ◌+◌, ◌*◌, ◌%◌, ◌^◌, ◌<◌, ◌≤◌, Bool, false, cond, leb, List, length, take, drop, Some, None, unwrap_or, sym, ap, ◌∙◌, subst, ap₂, mod-eq_of_lt}
use lib.Bits.{bit_xor, xor_lt}
use lib.Count.{ones}
use Rattle.std.proofs.lemmas.Bool.{le-leb}
use Rattle.gf2.specs.Words.{add, weight, number, bits_of, number_behind}
use Rattle.gf2.specs.declared.field.Field.{Field}
use Rattle.gf2.specs.Fields.{width}
use Rattle.inner.specs.Code.{Setting}
use Rattle.gf2.proofs.Sums.{number_lt}
use Rattle.gf2.proofs.Digits.{bits_of_xor, bits_of_number}
use Rattle.gf2.proofs.Weights.{weight_bits_of}
use Rattle.pagecode.specs.InnerData.{each}
use Rattle.wordcode.proofs.Added.{each_none, each_add}
use Rattle.gf2.proofs.Sums.{plus_zero}

-- the run that `number` reads
pub number_there : (W : List Bool) (s k : ℕ) → 1 ≤ k → k ≤ 16 → s + k ≤ length W → unwrap_or (number_behind W s k) 0 ≡ number (take k (drop s W))
number_there W s k low high fit =
    ap (λ (b : Bool). unwrap_or (cond b (cond (leb k 16) (cond (leb (s + k) (length W)) (Some n) None) None) None) 0) (le-leb 1 k low)
    ∙ ap₂ (λ (a b : Bool). unwrap_or (cond a (cond b (Some n) None) None) 0) (le-leb k 16 high) (le-leb (s + k) (length W) fit)
  where
    n : ℕ
    n = number (take k (drop s W))

-- u may be added to the bits of either side
each_across : (u : Bool) (w c : List Bool) → length w ≡ length c → add w (each u c) ≡ add (each u w) c
each_across u w c h =
    ap (λ (v : List Bool). add v (each u c)) (sym (each_none w)) ∙ each_add false u w c h ∙ ap (λ (d : Bool). each d (add w c)) (sym (plus_zero u))
    ∙ sym (each_add u false w c h) ∙ ap (add (each u w)) (each_none c)

-- the bits in which a run and the bits of a number differ, counted on the numbers
pub counted : (k : ℕ) (x : List Bool) (l : ℕ) → length x ≡ k → l < 2 ^ k → ones (bit_xor (number x) l) ≡ weight (add x (bits_of k l))
counted k x l hx low =
    ap ones (sym (mod-eq_of_lt (xor_lt k (number x) l (subst (λ (i : ℕ). number x < 2 ^ i) hx (number_lt x)) low)))
    ∙ sym (weight_bits_of k (bit_xor (number x) l))
    ∙ ap weight (bits_of_xor k (number x) l ∙ ap (λ (w : List Bool). add w (bits_of k l)) (ap (λ (i : ℕ). bits_of i (number x)) (sym hx) ∙ bits_of_number x))

-- the same where they are b with u added to each
pub counted_across : (u : Bool) (x b l : List Bool) → length x ≡ length b → l ≡ each u b → weight (add x l) ≡ weight (add (each u x) b)
counted_across u x b l h e = ap weight (ap (add x) e ∙ each_across u x b h)

-- the data bits are pairs of groups of the field's width, by the values that a setting's constants have
pub in_pairs : (k1 r1 t r2 k : ℕ) (F f : Field) → Setting k1 r1 t r2 F → k ≡ k1 → f ≡ F → k % (2 * width f) ≡ 0
in_pairs k1 r1 t r2 k F f S ek ef =
    ap₂ (λ (i : ℕ) (g : Field). i % (2 * width g)) ek ef ∙ ap (λ (j : ℕ). k1 % (2 * j)) (sym S.width_of_a_field) ∙ S.pairs_of_groups
