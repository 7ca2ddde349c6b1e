-- What the elimination keeps of its polynomials: whatever sums p a + q keep, their lengths among that.
use Rattle.std.proofs.Common.{ℕ, zero, suc, ◌≤◌, Bool, true, false, eqb, List, [], ◌∷◌, map, length, arith}
use Rattle.std.specs.List.{AllByRecursion as All}
use Rattle.bch.specs.Elimination.{against, add_scaled, cleared, met_one, met_all}
use Rattle.bch.specs.Theory.AnyPoints.{units}

module _ (m : ℕ → ℕ → ℕ) (inv s : ℕ → ℕ) (P : List ℕ → Type 0) (stable : (a : ℕ) (p q : List ℕ) → P p → P q → P (add_scaled m a p q)) where
  cleared_keeps : (i : ℕ) (p : List ℕ) (ps : List (List ℕ)) → P p → All P ps → All P (cleared m inv s i p ps)
  unfolding cleared
  cleared_keeps i p [] hp h = tt
  cleared_keeps i p (q ∷ ps) hp h = (stable (m (against m q s i) (inv (against m p s i))) p q hp h.0, cleared_keeps i p ps hp h.1)

  pub met_one_keeps : (i : ℕ) (ps : List (List ℕ)) → All P ps → All P (met_one m inv s i ps)
  unfolding met_one
  met_one_keeps i [] h = tt
  met_one_keeps i (p ∷ ps) h = split (eqb (against m p s i) 0) (met_one_keeps i ps h.1)
    where
      split : (b : Bool) → All P (met_one m inv s i ps) → All P (elim b [ true ↦ p ∷ met_one m inv s i ps | false ↦ cleared m inv s i p ps ])
      split true ih = (h.0, ih)
      split false ih = cleared_keeps i p ps h.0 h.1

  pub met_all_keeps : (n i : ℕ) (ps : List (List ℕ)) → All P ps → All P (met_all m inv s n i ps)
  unfolding met_all
  met_all_keeps zero i ps h = h
  met_all_keeps (suc n) i ps h = met_all_keeps n (suc i) (met_one m inv s i ps) (met_one_keeps i ps h)

-- at most n coefficients
abbrev pub Short : ℕ → List (List ℕ) → Type 0
Short n ps = All (λ p. length p ≤ n) ps

cons_short : (n : ℕ) (ps : List (List ℕ)) → Short n ps → Short (suc n) (map (λ p. 0 ∷ p) ps)
cons_short n [] h = tt
cons_short n (p ∷ ps) h = (let l = h.0 in omega arith, cons_short n ps h.1)

pub units_short : (n : ℕ) → Short n (units n)
unfolding units
units_short zero = tt
units_short (suc n) = (omega arith, cons_short n (units n) (units_short n))

pub sum_short : (m : ℕ → ℕ → ℕ) (n a : ℕ) (p q : List ℕ) → length p ≤ n → length q ≤ n → length (add_scaled m a p q) ≤ n
unfolding add_scaled
sum_short m n a [] q l u = u
sum_short m zero a (c ∷ p) q l u = absurd (omega arith)
sum_short m (suc n) a (c ∷ p) [] l u = let h = sum_short m n a p [] (omega arith) (omega arith) in omega arith
sum_short m (suc n) a (c ∷ p) (d ∷ q) l u = let h = sum_short m n a p q (omega arith) (omega arith) in omega arith
