-- A message written bit by bit: u, then the data bits, then u added to the first of them.
use Rattle.std.proofs.Common.{◌≡◌, ℕ, zero, suc, ◌-◌, ◌<◌, ◌≤◌, Bool, true, false, not, List, [], ◌∷◌, length, get_or, take, drop, set, replicate, sym, refl, ap, ◌∙◌, ap₂, arith}
use mathlib.Core.Bool.{beq}
use Rattle.std.proofs.lemmas.List.{length-take-le}
use Rattle.gf2.specs.Words.{plus, with_run}
use Rattle.wordcode.specs.Bytes.{padded}
use Rattle.wordcode.specs.Settling.{message_of}
use Rattle.wordcode.proofs.Padding.{padded_run}

first_bit : (N : ℕ) (u : Bool) → 0 < N → set (replicate N false) 0 u ≡ padded N (u ∷ [])
first_bit zero u h = absurd (omega arith)
first_bit (suc N) u h = ap (λ (i : ℕ). u ∷ replicate i false) (let e : N ≡ suc N - suc 0 = omega arith in e)

-- u added to the first data bit
led : (N : ℕ) (u : Bool) (d : List Bool) → 0 < length d → set (padded N (u ∷ d)) 1 (not (beq (get_or d 0 false) u)) ≡ padded N (message_of u d)
led N u [] h = absurd (omega arith)
led N u (b ∷ d) h = ap (λ (x : Bool). padded N (u ∷ (x ∷ d))) (sum b u)
  where
    sum : (b u : Bool) → not (beq b u) ≡ plus u b
    sum true true = refl
    sum true false = refl
    sum false true = refl
    sum false false = refl

first_of : (k : ℕ) (V : List Bool) → 0 < k → get_or (take k V) 0 false ≡ get_or V 0 false
first_of zero V h = absurd (omega arith)
first_of (suc k) [] h = refl
first_of (suc k) (b ∷ V) h = refl

pub message_written : (N k : ℕ) (u : Bool) (V B0 B1 B2 B3 : List Bool) → 0 < N → 0 < k → k ≤ length V → B0 ≡ replicate N false → B1 ≡ set B0 0 u
    → B2 ≡ with_run 1 (take k (drop 0 V)) B1 → B3 ≡ set B2 1 (not (beq (get_or V 0 false) u)) → B3 ≡ padded N (message_of u (take k V))
message_written N k u V B0 B1 B2 B3 hN hk hV e0 e1 e2 e3 =
    e3 ∙ ap₂ (λ (w : List Bool) (b : Bool). set w 1 (not (beq b u)))
    (e2 ∙ ap (with_run 1 (take k V)) (e1 ∙ ap (λ (w : List Bool). set w 0 u) e0 ∙ first_bit N u hN) ∙ padded_run N 1 (u ∷ []) (take k V) refl)
    (sym (first_of k V hk))
    ∙ led N u (take k V) (omega (arith, length-take-le k V hV))
