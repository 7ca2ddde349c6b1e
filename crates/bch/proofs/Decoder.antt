-- The decoder finds the bits in which a word differs from the codeword near it.
use Rattle.std.proofs.Common.{◌≡◌, ℕ, suc, ◌+◌, ◌^◌, ◌<◌, ◌≤◌, Bool, true, false, cond, T, eqb, ◌≢◌, ◌⊎◌, List, [], ◌∷◌, length, sym, refl, ap, ◌∙◌, subst, ap₂, inl, inr, arith}
use lib.Bits.{bit_xor, xor_zero_r}
use Rattle.std.proofs.lemmas.Bool.{eqb-true}
use Rattle.std.specs.List.{AllByRecursion as All}
use Rattle.gf2.specs.Polynomials.{power, power_sum, Distinct, Nonzero}
use Rattle.bch.specs.Elimination.{against, met_all}
use Rattle.gf2.specs.Words.{add, weight}
use Rattle.gf2.proofs.Sums.{add_length}
use Rattle.bch.specs.Decoding.{all_vanish, marks}
use Rattle.gf2.specs.Fields.{IsField}
use Rattle.bch.proofs.Kernel as ker
use Rattle.bch.proofs.Kernel.{Member}
use Rattle.bch.specs.Theory.AnyPoints.{units, locator_sum, SumsVanish, flips}
use Rattle.bch.specs.Theory.Distance.{locs, locs_length, locs_all, locs_apart}
use Rattle.bch.specs.Theory.Distance as distance

not_member : (y : ℕ) (xs : List ℕ) → All (λ x. x ≢ y) xs → Member y xs → ⊥
not_member y [] h e = e
not_member y (x ∷ xs) h (inl e) = h.0 e
not_member y (x ∷ xs) h (inr e) = not_member y xs h.1 e

-- marks that pass exactly at the points of the set bits are the word
marks_are : (a : ℕ → ℕ) (f : ℕ → Bool) (w : List Bool) → ((i j : ℕ) → i < j → j < length w → a i ≢ a j)
    → ((i : ℕ) → i < length w → T (f i) → Member (a i) (locs a w)) → ((i : ℕ) → i < length w → Member (a i) (locs a w) → T (f i))
    → marks f (length w) ≡ w
unfolding locs marks
marks_are a f [] d to from = refl
marks_are a f (true ∷ bs) d to from =
    ap₂ ◌∷◌ (is_true (f (length bs)) (from (length bs) (omega arith) (inl refl)))
    (marks_are a f bs (λ i j l k. d i j l (omega arith)) (λ i l t. past i l (to i (omega arith) t)) (λ i l e. from i (omega arith) (inr e)))
  where
    is_true : (b : Bool) → T b → b ≡ true
    is_true true t = refl
    is_true false t = absurd t

    past : (i : ℕ) → i < length bs → (a (length bs) ≡ a i) ⊎ Member (a i) (locs a bs) → Member (a i) (locs a bs)
    past i l (inl e) = absurd (d i (length bs) l (omega arith) (sym e))
    past i l (inr e) = e
marks_are a f (false ∷ bs) d to from =
    ap₂ ◌∷◌ (is_false (f (length bs)) (λ t. not_member (a (length bs)) (locs a bs) far (to (length bs) (omega arith) t)))
    (marks_are a f bs (λ i j l k. d i j l (omega arith)) (λ i l t. to i (omega arith) t) (λ i l e. from i (omega arith) e))
  where
    is_false : (b : Bool) → (T b → ⊥) → b ≡ false
    is_false true t = absurd (t tt)
    is_false false t = refl

    far : All (λ x. x ≢ a (length bs)) (locs a bs)
    far = locs_all a (λ x. x ≢ a (length bs)) bs (λ i l. d i (length bs) l (omega arith))

module _ (k : ℕ) (m : ℕ → ℕ → ℕ) (F : IsField k m) (inv : ℕ → ℕ)
    (inverse : (a : ℕ) → a < 2 ^ k → a ≢ 0 → m a (inv a) ≡ 1)
    (a : ℕ → ℕ) (N : ℕ) (points : (i : ℕ) → i < N → Nonzero k (a i)) (apart : (i j : ℕ) → i < j → j < N → a i ≢ a j) where
  open F use {nontrivial, no_zero_divisors}
  open F.ring use {closed, commutative, associative, distributive, unit, zero_product}

  root_to : (ps : List (List ℕ)) (y : ℕ) → T (all_vanish m ps y) → All (λ p. against m p (power m y) 0 ≡ 0) ps
  unfolding all_vanish
  root_to [] y t = tt
  root_to (p ∷ ps) y t = go (eqb (against m p (power m y) 0) 0) refl t (root_to ps y)
    where
      go : (b : Bool) → eqb (against m p (power m y) 0) 0 ≡ b → T (cond b (all_vanish m ps y) false) → (T (all_vanish m ps y) → All (λ p. against m p (power m y) 0 ≡ 0) ps)
          → (against m p (power m y) 0 ≡ 0) × All (λ p. against m p (power m y) 0 ≡ 0) ps
      go true e t ih = (eqb-true (against m p (power m y) 0) 0 e, ih t)
      go false e t ih = absurd t

  root_from : (ps : List (List ℕ)) (y : ℕ) → All (λ p. against m p (power m y) 0 ≡ 0) ps → T (all_vanish m ps y)
  unfolding all_vanish
  root_from [] y h = tt
  root_from (p ∷ ps) y h = subst (λ (x : ℕ). T (cond (eqb x 0) (all_vanish m ps y) false)) (sym h.0) (root_from ps y h.1)

  -- a member takes what holds of all
  at : (P : ℕ → Type 0) (y : ℕ) (xs : List ℕ) → All P xs → Member y xs → P y
  at P y [] h e = absurd e
  at P y (x ∷ xs) h (inl e) = subst P e h.0
  at P y (x ∷ xs) h (inr e) = at P y xs h.1 e

  all_at : (y : ℕ) (xs : List ℕ) (ps : List (List ℕ)) → Member y xs → All (λ p. All (λ x. against m p (power m x) 0 ≡ 0) xs) ps → All (λ p. against m p (power m y) 0 ≡ 0) ps
  all_at y xs [] e h = tt
  all_at y xs (p ∷ ps) e h = (at (λ x. against m p (power m x) 0 ≡ 0) y xs h.0 e, all_at y xs ps e h.1)

  pub finds : (t : ℕ) (r c : List Bool) → length r ≤ N → length c ≡ length r → SumsVanish m a t c → weight (add r c) ≤ t → flips m inv a t r ≡ add r c
  unfolding flips
  finds t r c fits same code few =
      ap (marks f) (sym el) ∙ marks_are a f e (λ i j l q. apart i j l (omega (arith, el)))
      (λ i l u. only (a i) (points i (omega (arith, el))).0 (root_to ps (a i) u))
      (λ i l u. root_from ps (a i) (all_at (a i) (locs a e) ps u all))
    where
      e : List Bool
      e = add r c

      el : length e ≡ length r
      el = add_length r c (sym same)

      ps : List (List ℕ)
      ps = met_all m inv (locator_sum m a r) t 1 (units (suc t))

      f : ℕ → Bool
      f i = all_vanish m ps (a i)

      agree : (j : ℕ) → 1 ≤ j → j ≤ t + t → locator_sum m a r j ≡ power_sum m (λ x. 1) (locs a e) j
      agree j l u =
          sym (xor_zero_r (locator_sum m a r j)) ∙ ap (bit_xor (locator_sum m a r j)) (sym (code j l u)) ∙ sym (distance.locator_sum_add k m F a N points apart r c j (sym same)) ∙ distance.locator_sum_is_power_sum k m F a N points apart e j

      pts : All (Nonzero k) (locs a e)
      pts = locs_all a (Nonzero k) e (λ i l. points i (omega (arith, el)))

      ap' : Distinct (locs a e)
      ap' = locs_apart a e (λ i j l q. apart i j l (omega (arith, el)))

      few' : length (locs a e) ≤ t
      few' = omega (arith, locs_length a e)

      only : (y : ℕ) → y < 2 ^ k → All (λ p. against m p (power m y) 0 ≡ 0) ps → Member y (locs a e)
      only = ker.only k m F inv inverse (locator_sum m a r) t (locs a e) pts ap' few' agree

      all : All (λ p. All (λ x. against m p (power m x) 0 ≡ 0) (locs a e)) ps
      all = ker.all k m F inv inverse (locator_sum m a r) t (locs a e) pts ap' few' agree
