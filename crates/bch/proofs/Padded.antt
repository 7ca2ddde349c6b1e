-- Polynomials with zeros behind them go through the elimination like those without.
use Rattle.std.proofs.Common.{◌≡◌, ℕ, zero, suc, ◌+◌, ◌-◌, ◌<◌, ◌≤◌, Bool, true, false, cond, eqb, List, [], ◌∷◌, map, length, take, refl, ap, ◌∙◌, ap₂, arith}
use lib.Bits.{bit_xor, xor_zero_r}
use Rattle.gf2.specs.Polynomials.{power}
use Rattle.bch.specs.Decoding.{all_vanish}
use Rattle.bch.specs.Elimination.{against, add_scaled, cleared, met_one, met_all, unit_rows}
use Rattle.bch.proofs.Kept.{Short, met_one_keeps, met_all_keeps, units_short, sum_short}
use Rattle.bch.specs.Theory.AnyPoints.{units}

-- the polynomial with w coefficients
unfoldable pub wide : ℕ → List ℕ → List ℕ
wide zero p = []
wide (suc w) [] = 0 ∷ wide w []
wide (suc w) (c ∷ p) = c ∷ wide w p

pub rows_of_units : (t : ℕ) → t < 6 → take (t + 1) unit_rows ≡ map (wide 6) (units (suc t))
unfolding units wide
rows_of_units zero h = refl
rows_of_units (suc zero) h = refl
rows_of_units (suc (suc zero)) h = refl
rows_of_units (suc (suc (suc zero))) h = refl
rows_of_units (suc (suc (suc (suc zero)))) h = refl
rows_of_units (suc (suc (suc (suc (suc zero))))) h = refl
rows_of_units (suc (suc (suc (suc (suc (suc t)))))) h = absurd (omega arith)

module _ (m : ℕ → ℕ → ℕ) (left : (a : ℕ) → m 0 a ≡ 0) (right : (a : ℕ) → m a 0 ≡ 0) where
  against_zeros : (w : ℕ) (s : ℕ → ℕ) (i : ℕ) → against m (wide w []) s i ≡ 0
  unfolding against wide
  against_zeros zero s i = refl
  against_zeros (suc w) s i = ap₂ bit_xor (left (s i)) (against_zeros w s (suc i))

  against_wide : (w : ℕ) (p : List ℕ) (s s' : ℕ → ℕ) (i : ℕ) → length p ≤ w → ((k : ℕ) → i ≤ k → k < i + length p → s k ≡ s' k) → against m (wide w p) s i ≡ against m p s' i
  unfolding against wide
  against_wide zero [] s s' i l h = refl
  against_wide zero (c ∷ p) s s' i l h = absurd (omega arith)
  against_wide (suc w) [] s s' i l h = ap₂ bit_xor (left (s i)) (against_zeros w s (suc i))
  against_wide (suc w) (c ∷ p) s s' i l h =
      ap₂ (λ (a b : ℕ). bit_xor (m c a) b) (h i (omega arith) (omega arith)) (against_wide w p s s' (suc i) (omega arith) (λ k a b. h k (omega arith) (omega arith)))

  add_scaled_wide : (a w : ℕ) (p q : List ℕ) → length p ≤ w → length q ≤ w → add_scaled m a (wide w p) (wide w q) ≡ wide w (add_scaled m a p q)
  unfolding add_scaled wide
  add_scaled_wide a zero [] [] l u = refl
  add_scaled_wide a zero [] (d ∷ q) l u = absurd (omega arith)
  add_scaled_wide a zero (c ∷ p) q l u = absurd (omega arith)
  add_scaled_wide a (suc w) [] [] l u = ap₂ ◌∷◌ (ap (λ (x : ℕ). bit_xor x 0) (right a)) (add_scaled_wide a w [] [] (omega arith) (omega arith))
  add_scaled_wide a (suc w) [] (d ∷ q) l u = ap₂ ◌∷◌ (ap (λ (x : ℕ). bit_xor x d) (right a)) (add_scaled_wide a w [] q (omega arith) (omega arith))
  add_scaled_wide a (suc w) (c ∷ p) [] l u = ap₂ ◌∷◌ (xor_zero_r (m a c)) (add_scaled_wide a w p [] (omega arith) (omega arith))
  add_scaled_wide a (suc w) (c ∷ p) (d ∷ q) l u = ap (λ (x : List ℕ). bit_xor (m a c) d ∷ x) (add_scaled_wide a w p q (omega arith) (omega arith))

  module _ (inv s s' : ℕ → ℕ) (w n : ℕ) (fits : n ≤ w) where
    abbrev Agree : ℕ → Type 0
    Agree i = (k : ℕ) → i ≤ k → k < i + n → s k ≡ s' k

    value : (i : ℕ) → Agree i → (p : List ℕ) → length p ≤ n → against m (wide w p) s i ≡ against m p s' i
    value i g p l = against_wide w p s s' i (omega arith) (λ k a b. g k a (omega arith))

    cleared_wide : (i : ℕ) → Agree i → (p : List ℕ) (qs : List (List ℕ)) → length p ≤ n → Short n qs
        → cleared m inv s i (wide w p) (map (wide w) qs) ≡ map (wide w) (cleared m inv s' i p qs)
    unfolding cleared
    cleared_wide i g p [] l h = refl
    cleared_wide i g p (q ∷ qs) l h =
        let k = h.0 in
        ap₂ ◌∷◌
        (ap₂ (λ (a b : ℕ). add_scaled m (m a (inv b)) (wide w p) (wide w q)) (value i g q h.0) (value i g p l)
        ∙ add_scaled_wide (m (against m q s' i) (inv (against m p s' i))) w p q (omega arith) (omega arith))
        (cleared_wide i g p qs l h.1)

    met_one_wide : (i : ℕ) → Agree i → (ps : List (List ℕ)) → Short n ps → met_one m inv s i (map (wide w) ps) ≡ map (wide w) (met_one m inv s' i ps)
    unfolding met_one
    met_one_wide i g [] h = refl
    met_one_wide i g (p ∷ ps) h =
        ap (λ (x : ℕ). elim (eqb x 0) [ true ↦ wide w p ∷ met_one m inv s i (map (wide w) ps) | false ↦ cleared m inv s i (wide w p) (map (wide w) ps) ]) (value i g p h.0)
        ∙ go (eqb (against m p s' i) 0) (met_one_wide i g ps h.1)
      where
        go : (b : Bool) → met_one m inv s i (map (wide w) ps) ≡ map (wide w) (met_one m inv s' i ps)
            → elim b [ true ↦ wide w p ∷ met_one m inv s i (map (wide w) ps) | false ↦ cleared m inv s i (wide w p) (map (wide w) ps) ]
            ≡ map (wide w) (elim b [ true ↦ p ∷ met_one m inv s' i ps | false ↦ cleared m inv s' i p ps ])
        go true ih = ap (λ (x : List (List ℕ)). wide w p ∷ x) ih
        go false ih = cleared_wide i g p ps h.0 h.1

    pub met_all_wide : (e i : ℕ) → ((k : ℕ) → i ≤ k → k < i + e - 1 + n → s k ≡ s' k) → (ps : List (List ℕ)) → Short n ps
        → met_all m inv s e i (map (wide w) ps) ≡ map (wide w) (met_all m inv s' e i ps)
    unfolding met_all
    met_all_wide zero i g ps h = refl
    met_all_wide (suc e) i g ps h =
        ap (met_all m inv s e (suc i)) (met_one_wide i (λ k a b. g k a (omega arith)) ps h)
        ∙ met_all_wide e (suc i) (λ k a b. g k (omega arith) (omega arith)) (met_one m inv s' i ps) (met_one_keeps m inv s' (λ p. length p ≤ n) (sum_short m n) i ps h)

    pub root_wide : (y : ℕ) (ps : List (List ℕ)) → Short n ps → all_vanish m (map (wide w) ps) y ≡ all_vanish m ps y
    unfolding all_vanish
    root_wide y [] h = refl
    root_wide y (p ∷ ps) h =
        let k = h.0 in
        ap₂ (λ (x : ℕ) (b : Bool). cond (eqb x 0) b false) (against_wide w p (power m y) (power m y) 0 (omega arith) (λ k a b. refl)) (root_wide y ps h.1)

  -- the positions are those of the polynomials as the theory has them
  pub same_roots : (inv s s' : ℕ → ℕ) (t : ℕ) → t < 6 → ((k : ℕ) → 1 ≤ k → k ≤ t + t → s k ≡ s' k) → (y : ℕ)
      → all_vanish m (met_all m inv s t 1 (take (t + 1) unit_rows)) y ≡ all_vanish m (met_all m inv s' t 1 (units (suc t))) y
  same_roots inv s s' t h g y =
      ap (λ (x : List (List ℕ)). all_vanish m (met_all m inv s t 1 x) y) (rows_of_units t h)
      ∙ ap (λ (x : List (List ℕ)). all_vanish m x y)
      (met_all_wide inv s s' 6 (suc t) (omega arith) t 1 (λ k a b. g k a (omega arith)) (units (suc t)) (units_short (suc t)))
      ∙ root_wide inv s s' 6 (suc t) (omega arith) y (met_all m inv s' t 1 (units (suc t)))
      (met_all_keeps m inv s' (λ p. length p ≤ suc t) (sum_short m (suc t)) t 1 (units (suc t)) (units_short (suc t)))
