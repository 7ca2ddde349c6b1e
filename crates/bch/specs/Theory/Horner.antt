-- The polynomial's value as a running product.
use Rattle.std.proofs.Common.{◌≡◌, ℕ, ◌^◌, ◌<◌, Bool, true, false, cond, List, [], ◌∷◌, length, sym, ap, ◌∙◌, ap₂, pow_pos}
use lib.Bits.{bit_xor, xor_assoc, xor_zero_r, xor_lt}
use Rattle.gf2.specs.Polynomials.{power}
use Rattle.gf2.specs.Fields.{IsField}
use Rattle.gf2.proofs.PowerLaws as powers
use Rattle.bch.specs.Code.{word_value}
use Rattle.bch.specs.Checks.{running}

-- s times z plus the next bit, over all bits
abbrev pub horner : (ℕ → ℕ → ℕ) → ℕ → ℕ → List Bool → ℕ
horner m z = running (m z) 1

module _ (k : ℕ) (m : ℕ → ℕ → ℕ) (F : IsField k m) where
  open F use {nontrivial}
  open F.ring use {closed, commutative, associative, distributive, unit, zero_product}

  pub bit_lt : (b : Bool) → cond b 1 0 < 2 ^ k
  bit_lt true = nontrivial
  bit_lt false = pow_pos k

  pub bit_product : (b : Bool) (P : ℕ) → P < 2 ^ k → m P (cond b 1 0) ≡ cond b P 0
  bit_product true P h = commutative P 1 ∙ unit P h
  bit_product false P h = zero_product P

  horner_is : (z : ℕ) (bs : List Bool) (s : ℕ) → s < 2 ^ k → horner m z s bs ≡ bit_xor (m (power m z (length bs)) s) (word_value m z bs)
  unfolding running word_value power
  horner_is z [] s h = sym (xor_zero_r (m 1 s) ∙ unit s h)
  horner_is z (b ∷ bs) s h =
      let P = power m z (length bs) in
      let B = cond b 1 0 in
      horner_is z bs (bit_xor (m z s) B) (xor_lt k (m z s) B (closed z s) (bit_lt b))
      ∙ ap (λ (x : ℕ). bit_xor x (word_value m z bs))
      (distributive P (m z s) B
      ∙ ap₂ bit_xor (sym (associative P z s) ∙ ap (λ (x : ℕ). m x s) (commutative P z)) (bit_product b P (powers.power_lt k m F.ring nontrivial z (length bs))))
      ∙ xor_assoc (m (m z P) s) (cond b P 0) (word_value m z bs)

  pub horner_0 : (z : ℕ) (bs : List Bool) → horner m z 0 bs ≡ word_value m z bs
  horner_0 z bs = horner_is z bs 0 (pow_pos k) ∙ ap (λ (x : ℕ). bit_xor x (word_value m z bs)) (zero_product (power m z (length bs)))
