-- u added to the first bit of a word, and to every bit.
use Rattle.std.proofs.Common.{◌≡◌, ℕ, zero, suc, ◌+◌, ◌<◌, ◌≤◌, Bool, true, false, List, [], ◌∷◌, ◌++◌, length, replicate, sym, refl, ap, ◌∙◌, ap₂, arith}
use Rattle.gf2.specs.Words.{plus, add, weight}
use Rattle.gf2.proofs.Sums.{plus_comm, plus_assoc, plus_back, plus_zero}
use Rattle.pagecode.specs.InnerData.{lead, each}

plus_four : (a b c d : Bool) → plus (plus a b) (plus c d) ≡ plus (plus a c) (plus b d)
plus_four a b c d =
    plus_assoc a b (plus c d) ∙ ap (plus a) (sym (plus_assoc b c d) ∙ ap (λ (x : Bool). plus x d) (plus_comm b c) ∙ plus_assoc c b d)
    ∙ sym (plus_assoc a c (plus b d))

pub lead_length : (u : Bool) (w : List Bool) → length (lead u w) ≡ length w
lead_length u [] = refl
lead_length u (b ∷ w) = refl

pub lead_back : (u : Bool) (w : List Bool) → lead u (lead u w) ≡ w
lead_back u [] = refl
lead_back u (b ∷ w) = ap (λ (c : Bool). c ∷ w) (plus_back u b)

pub lead_none : (w : List Bool) → lead false w ≡ w
lead_none [] = refl
lead_none (b ∷ w) = refl

pub lead_append : (u : Bool) (w c : List Bool) → 0 < length w → lead u (w ++ c) ≡ lead u w ++ c
lead_append u [] c h = absurd (omega arith)
lead_append u (b ∷ w) c h = refl

pub lead_add : (u v : Bool) (w c : List Bool) → length w ≡ length c → add (lead u w) (lead v c) ≡ lead (plus u v) (add w c)
lead_add u v [] [] h = refl
lead_add u v [] (d ∷ c) h = absurd (omega arith)
lead_add u v (b ∷ w) [] h = absurd (omega arith)
lead_add u v (b ∷ w) (d ∷ c) h = ap (λ (x : Bool). x ∷ add w c) (plus_four u b v d)

-- u makes up for the bit that it takes away
pub lead_weight : (u : Bool) (w : List Bool) → weight w ≤ weight (u ∷ lead u w)
lead_weight true [] = omega arith
lead_weight false [] = omega arith
lead_weight true (true ∷ w) = omega arith
lead_weight true (false ∷ w) = omega arith
lead_weight false (b ∷ w) = omega arith

pub each_length : (u : Bool) (w : List Bool) → length (each u w) ≡ length w
each_length u [] = refl
each_length u (b ∷ w) = ap suc (each_length u w)

pub each_back : (u : Bool) (w : List Bool) → each u (each u w) ≡ w
each_back u [] = refl
each_back u (b ∷ w) = ap₂ ◌∷◌ (plus_back u b) (each_back u w)

pub each_none : (w : List Bool) → each false w ≡ w
each_none [] = refl
each_none (b ∷ w) = ap (λ (r : List Bool). b ∷ r) (each_none w)

pub each_add : (u v : Bool) (w c : List Bool) → length w ≡ length c → add (each u w) (each v c) ≡ each (plus u v) (add w c)
each_add u v [] [] h = refl
each_add u v [] (d ∷ c) h = absurd (omega arith)
each_add u v (b ∷ w) [] h = absurd (omega arith)
each_add u v (b ∷ w) (d ∷ c) h = ap₂ ◌∷◌ (plus_four u b v d) (each_add u v w c (omega arith))

pub each_zeros : (u : Bool) (n : ℕ) → each u (replicate n false) ≡ replicate n u
each_zeros u zero = refl
each_zeros u (suc n) = ap₂ ◌∷◌ (plus_zero u) (each_zeros u n)

-- a bit is set in the word or in the turned word
pub each_weight : (w : List Bool) → weight (each true w) + weight w ≡ length w
each_weight [] = refl
each_weight (true ∷ w) = omega (arith, each_weight w)
each_weight (false ∷ w) = omega (arith, each_weight w)
