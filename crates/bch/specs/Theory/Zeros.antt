-- The test that a sequence is 0 at several places in a row.
use Rattle.std.proofs.Common.{◌≡◌, ℕ, zero, suc, ◌+◌, ◌<◌, ◌≤◌, Bool, true, false, cond, T, eqb, refl, ap, ◌∙◌, arith}
use native.Mathlib.Decide.{ℕ_discrete}
use Rattle.std.proofs.lemmas.Bool.{eqb-true}
use Rattle.bch.specs.Decoding.{zeros}

-- passed, it is 0 at each
pub zero_at : (s : ℕ → ℕ) (n i : ℕ) → T (zeros s i n) → (j : ℕ) → i ≤ j → j < i + n → s j ≡ 0
unfolding zeros
zero_at s zero i t j l u = absurd (omega arith)
zero_at s (suc n) i t j l u = go (eqb (s i) 0) refl t (λ t. zero_at s n (suc i) t j) (ℕ_discrete j i)
  where
    go : (b : Bool) → eqb (s i) 0 ≡ b → T (cond b (zeros s (suc i) n) false) → (T (zeros s (suc i) n) → suc i ≤ j → j < suc i + n → s j ≡ 0) → Dec (j ≡ i) → s j ≡ 0
    go true e t ih (yes q) = ap s q ∙ eqb-true (s i) 0 e
    go true e t ih (no q) = ih t (omega arith) (omega arith)
    go false e t ih d = absurd t
