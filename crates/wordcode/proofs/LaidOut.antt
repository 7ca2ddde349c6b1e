-- Words laid out as u, v and b: their parts, sums and weights.
use Rattle.std.proofs.Common.{◌≡◌, ℕ, zero, suc, ◌+◌, ◌<◌, ◌≤◌, Bool, true, false, List, [], ◌∷◌, ◌++◌, length, take, drop, replicate, sym, refl, ap, ◌∙◌, ap₂, arith}
use Rattle.std.proofs.lemmas.List.{length-append, length-take-le, length-drop, take-append-drop, take_at, drop_at}
use Rattle.gf2.specs.Words.{plus, add, weight, distance}
use Rattle.gf2.proofs.Sums.{add_append, weight_append, weight_zeros, weight_ones}
use Rattle.pagecode.specs.InnerData.{lead, each}
use Rattle.wordcode.specs.Codeword.{laid_out}
use Rattle.wordcode.specs.Reading.{middle, last_bits}
use Rattle.wordcode.proofs.Added.{lead_length, lead_back, lead_none, lead_add, lead_weight, each_length, each_back, each_none, each_add, each_zeros}

-- two appended words whose first parts have one length
pub append_parts : (a b c d : List Bool) → length a ≡ length c → a ++ b ≡ c ++ d → (a ≡ c) × (b ≡ d)
append_parts a b c d h e = (
  sym (take_at a b (length a) refl) ∙ ap (take (length a)) e ∙ take_at c d (length a) (sym h),
  sym (drop_at a b (length a) refl) ∙ ap (drop (length a)) e ∙ drop_at c d (length a) (sym h),
)

pub laid_out_length : (u : Bool) (v b : List Bool) → length (laid_out u v b) ≡ 1 + length v + length b
laid_out_length u v b = omega (arith, length-append (lead u v) (each u b), lead_length u v, each_length u b)

pub laid_out_add : (u e : Bool) (v d b c : List Bool) → length v ≡ length d → length b ≡ length c
    → add (laid_out u v b) (laid_out e d c) ≡ laid_out (plus u e) (add v d) (add b c)
laid_out_add u e v d b c hv hb =
    ap (λ (w : List Bool). plus u e ∷ w)
    (add_append (lead u v) (each u b) (lead e d) (each e c) (lead_length u v ∙ hv ∙ sym (lead_length e d)) ∙ ap₂ ◌++◌ (lead_add u e v d hv) (each_add u e b c hb))

pub laid_out_parts : (u x : Bool) (v y b c : List Bool) → length v ≡ length y → laid_out u v b ≡ laid_out x y c → (u ≡ x) × (v ≡ y) × (b ≡ c)
laid_out_parts u x v y b c h e = (
  same,
  sym (lead_back u v) ∙ ap (lead u) parts.0 ∙ ap (λ (a : Bool). lead u (lead a y)) (sym same) ∙ lead_back u y,
  sym (each_back u b) ∙ ap (each u) parts.1 ∙ ap (λ (a : Bool). each u (each a c)) (sym same) ∙ each_back u c,
)
  where
    same : u ≡ x
    same = cc

    parts : (lead u v ≡ lead x y) × (each u b ≡ each x c)
    parts = append_parts (lead u v) (each u b) (lead x y) (each x c) (lead_length u v ∙ h ∙ sym (lead_length x y)) (cc)

-- every word of 1, n and r bits is laid out from its parts
pub laid_out_is : (n : ℕ) (x : Bool) (xs : List Bool) → x ∷ xs ≡ laid_out x (middle n (x ∷ xs)) (each x (last_bits n (x ∷ xs)))
laid_out_is n x xs =
    ap (λ (w : List Bool). x ∷ w)
    (sym (ap₂ ◌++◌ (lead_back x (take n xs)) (each_back x (last_bits n (x ∷ xs)) ∙ ap (λ (i : ℕ). drop i (x ∷ xs)) (let e : 1 + n ≡ suc n = omega arith in e))
    ∙ take-append-drop n xs))

pub middle_length : (n r : ℕ) (q : List Bool) → length q ≡ 1 + n + r → length (middle n q) ≡ n
middle_length n r [] h = absurd (omega arith)
middle_length n r (x ∷ xs) h = lead_length x (take n xs) ∙ length-take-le n xs (omega arith)

pub last_length : (n r : ℕ) (q : List Bool) → length q ≡ 1 + n + r → length (last_bits n q) ≡ r
last_length n r q h = omega (arith, length-drop (1 + n) q)

-- the distance of a word from another, by their parts
pub distance_parts : (n r : ℕ) (x : Bool) (xs : List Bool) → length (x ∷ xs) ≡ 1 + n + r → (u : Bool) (v b : List Bool) → length v ≡ n → length b ≡ r
    → distance (x ∷ xs) (laid_out u v b) ≡ weight (laid_out (plus x u) (add (middle n (x ∷ xs)) v) (add (each x (last_bits n (x ∷ xs))) b))
distance_parts n r x xs h u v b hv hb =
    ap (λ (q : List Bool). distance q (laid_out u v b)) (laid_out_is n x xs)
    ∙ ap weight (laid_out_add x u (middle n (x ∷ xs)) v (each x (last_bits n (x ∷ xs))) b (middle_length n r (x ∷ xs) h ∙ sym hv)
    (each_length x (last_bits n (x ∷ xs)) ∙ last_length n r (x ∷ xs) h ∙ sym hb))

-- v weighs no more than the word
pub laid_out_weight : (u : Bool) (v b : List Bool) → weight v ≤ weight (laid_out u v b)
laid_out_weight u v b = omega (arith, lead_weight u v, weight_append (u ∷ lead u v) (each u b))

pub laid_out_plain : (v b : List Bool) → weight (laid_out false v b) ≡ weight v + weight b
laid_out_plain v b =
    weight_append (lead false v) (each false b) ∙ ap₂ (λ (x y : List Bool). weight x + weight y) (lead_none v) (each_none b)

-- u alone: bits 1 and 2 and the last
pub laid_out_alone : (n r : ℕ) → 0 < n → weight (laid_out true (replicate n false) (replicate r false)) ≡ 2 + r
laid_out_alone zero r h = absurd (omega arith)
laid_out_alone (suc n) r h =
    omega (arith, weight_append (replicate n false) (each true (replicate r false)), weight_zeros n, ap weight (each_zeros true r), weight_ones r)
