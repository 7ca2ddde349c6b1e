-- v_k as a copy of the bits behind the first, with u added to one of them.
use Rattle.std.proofs.Common.{◌≡◌, ℕ, suc, ◌+◌, ◌<◌, ◌≤◌, Bool, true, false, cond, not, leb, List, [], ◌∷◌, ◌++◌, length, get_or, take, drop, set, sym, refl, ap, ◌∙◌, arith, length-drop}
use mathlib.Core.Bool.{beq}
use Rattle.std.proofs.lemmas.List.{length-take-le}
use Rattle.std.proofs.lemmas.Bool.{le-leb, leb-true}
use Rattle.gf2.specs.Words.{plus, with_run, both_have, with_bits_of}
use Rattle.pagecode.specs.InnerData.{lead, inner_data, data_fits, with_inner_data}

-- whether there is room for v_k, by the two tests
pub fits : (w : List Bool) (k : ℕ) (o : List Bool) → k + 1 ≤ length w → k ≤ length o → data_fits w k o ≡ true
fits w k o h l = ap (λ (b : Bool). cond b (leb k (length o)) false) (le-leb (k + 1) (length w) h) ∙ le-leb k (length o) l

-- the first bit of what was copied, with u added
lead_set : (u : Bool) (a r : List Bool) → 0 < length a → set (a ++ r) 0 (not (beq (get_or (a ++ r) 0 false) u)) ≡ lead u a ++ r
lead_set u [] r h = absurd (omega arith)
lead_set u (b ∷ a) r h = ap (λ (d : Bool). d ∷ (a ++ r)) (sum b u)
  where
    sum : (b u : Bool) → not (beq b u) ≡ plus u b
    sum true true = refl
    sum true false = refl
    sum false true = refl
    sum false false = refl

both_true : (b d : Bool) → true ≡ cond b d false → (b ≡ true) × (d ≡ true)
both_true true true e = (refl, refl)
both_true true false e = (refl, sym e)
both_true false d e = (sym e, cc)

-- the copy with u added to its first bit is v_k
pub with_u_added : (w : List Bool) (k : ℕ) (o : List Bool) → true ≡ both_have k w 1 o 0 → 0 < k
    → set (with_bits_of k w 1 o 0) 0 (not (beq (get_or (with_bits_of k w 1 o 0) 0 false) (get_or w 0 false))) ≡ with_inner_data w k o
with_u_added w k o there some =
    ap (λ (n : List Bool). set n 0 (not (beq (get_or n 0 false) (get_or w 0 false)))) copied
    ∙ lead_set (get_or w 0 false) a (drop k o) (omega (arith, long)) ∙ ap (λ (n : List Bool). n ++ drop k o) (v_k w enough)
    ∙ sym (ap (λ (b : Bool). cond b (inner_data (take (k + 1) w) ++ drop k o) o) (fits w k o enough room))
  where
    a : List Bool
    a = take k (drop 1 w)

    enough : k + 1 ≤ length w
    enough = omega (arith, leb-true (1 + k) (length w) (both_true (leb (1 + k) (length w)) (leb (0 + k) (length o)) there).0)

    room : k ≤ length o
    room = omega (arith, leb-true (0 + k) (length o) (both_true (leb (1 + k) (length w)) (leb (0 + k) (length o)) there).1)

    long : length a ≡ k
    long = length-take-le k (drop 1 w) (omega (arith, length-drop 1 w, enough))

    copied : with_bits_of k w 1 o 0 ≡ a ++ drop k o
    copied =
        ap (λ (b : Bool). cond b (with_run 0 a o) o) (sym there) ∙ ap (λ (i : ℕ). a ++ drop i o) (let e : 0 + length a ≡ k = omega (arith, long) in e)

    v_k : (w : List Bool) → k + 1 ≤ length w → lead (get_or w 0 false) (take k (drop 1 w)) ≡ inner_data (take (k + 1) w)
    v_k [] h = absurd (omega arith)
    v_k (u ∷ w) h = ap (λ (i : ℕ). inner_data (take i (u ∷ w))) (let e : suc k ≡ k + 1 = omega arith in e)
