-- Two codewords of a BCH code are far apart: the points of the bits in which they differ would be too few for their syndromes to vanish.
use Rattle.std.proofs.Common.{◌≡◌, ℕ, suc, ◌+◌, ◌<◌, ◌≤◌, Bool, true, false, cond, ◌≢◌, List, [], ◌∷◌, length, sym, refl, ap, ◌∙◌, ap₂, arith}
use lib.Bits.{bit_xor, xor_zero_r, xor_self}
use Rattle.std.specs.List.{AllByRecursion}
use Rattle.gf2.specs.Polynomials.{power, power_sum, Distinct, Nonzero}
use Rattle.gf2.specs.Words.{plus, add, weight}
use Rattle.gf2.proofs.Sums.{add_length}
use Rattle.gf2.proofs.Ring.{◌⊕◌, xor4}
use Rattle.gf2.specs.Fields.{IsField}
use Rattle.gf2.proofs.PowerLaws as powers
use Rattle.gf2.proofs.Vandermonde as v
use Rattle.bch.specs.Theory.AnyPoints.{locator_sum, SumsVanish}

-- the points of the set bits
unfoldable pub locs : (ℕ → ℕ) → List Bool → List ℕ
locs a [] = []
locs a (true ∷ bs) = a (length bs) ∷ locs a bs
locs a (false ∷ bs) = locs a bs

pub locs_length : (a : ℕ → ℕ) (w : List Bool) → length (locs a w) ≡ weight w
unfolding locs
locs_length a [] = refl
locs_length a (true ∷ bs) = ap suc (locs_length a bs)
locs_length a (false ∷ bs) = locs_length a bs

pub locs_all : (a : ℕ → ℕ) (P : ℕ → Type 0) (w : List Bool) → ((i : ℕ) → i < length w → P (a i)) → AllByRecursion P (locs a w)
unfolding locs
locs_all a P [] h = tt
locs_all a P (true ∷ bs) h = (h (length bs) (omega arith), locs_all a P bs (λ i l. h i (omega arith)))
locs_all a P (false ∷ bs) h = locs_all a P bs (λ i l. h i (omega arith))

pub locs_apart : (a : ℕ → ℕ) (w : List Bool) → ((i j : ℕ) → i < j → j < length w → a i ≢ a j) → Distinct (locs a w)
unfolding locs
locs_apart a [] h = tt
locs_apart a (true ∷ bs) h =
    (locs_all a (λ y. y ≢ a (length bs)) bs (λ i l. h i (length bs) l (omega arith)), locs_apart a bs (λ i j l k. h i j l (omega arith)))
locs_apart a (false ∷ bs) h = locs_apart a bs (λ i j l k. h i j l (omega arith))

module _ (k : ℕ) (m : ℕ → ℕ → ℕ) (F : IsField k m) (a : ℕ → ℕ) (N : ℕ) (points : (i : ℕ) → i < N → Nonzero k (a i))
    (apart : (i j : ℕ) → i < j → j < N → a i ≢ a j) where
  open F use {nontrivial}
  open F.ring use {unit}

  pub locator_sum_is_power_sum : (w : List Bool) (j : ℕ) → locator_sum m a w j ≡ power_sum m (λ x. 1) (locs a w) j
  unfolding locator_sum power_sum locs
  locator_sum_is_power_sum [] j = refl
  locator_sum_is_power_sum (true ∷ bs) j = ap₂ bit_xor (sym (unit (power m (a (length bs)) j) (powers.power_lt k m F.ring nontrivial (a (length bs)) j))) (locator_sum_is_power_sum bs j)
  locator_sum_is_power_sum (false ∷ bs) j = locator_sum_is_power_sum bs j

  pub locator_sum_add : (w u : List Bool) (j : ℕ) → length w ≡ length u → locator_sum m a (add w u) j ≡ locator_sum m a w j ⊕ locator_sum m a u j
  unfolding locator_sum
  locator_sum_add [] [] j h = refl
  locator_sum_add [] (d ∷ u) j h = absurd (omega arith)
  locator_sum_add (b ∷ w) [] j h = absurd (omega arith)
  locator_sum_add (b ∷ w) (d ∷ u) j h =
      let P = power m (a (length w)) j in
      let l : length w ≡ length u = omega arith in
      ap₂ bit_xor (ap (λ (x : ℕ). cond (plus b d) (power m (a x) j) 0) (add_length w u l) ∙ bits b d P) (locator_sum_add w u j l)
      ∙ xor4 (cond b P 0) (cond d P 0) (locator_sum m a w j) (locator_sum m a u j)
      ∙ ap (λ (x : ℕ). (cond b P 0 ⊕ locator_sum m a w j) ⊕ (cond d (power m (a x) j) 0 ⊕ locator_sum m a u j)) l
    where
      bits : (b d : Bool) (P : ℕ) → cond (plus b d) P 0 ≡ cond b P 0 ⊕ cond d P 0
      bits true true P = sym (xor_self P)
      bits true false P = sym (xor_zero_r P)
      bits false d P = refl

  -- distance: a codeword with at most 2t set bits has none
  pub distance : (t : ℕ) (w : List Bool) → length w ≤ N → SumsVanish m a t w → weight w ≤ t + t → weight w ≡ 0
  distance t w fits code few = ends (locs a w) (locs_length a w) zeros
    where
      zeros : AllByRecursion (λ x. ◌≡◌ {A = ℕ} 1 0) (locs a w)
      zeros =
          v.vandermonde k m F (locs a w) (λ x. 1) 1 (locs_all a (Nonzero k) w (λ i l. points i (omega arith)))
          (locs_apart a w (λ i j l q. apart i j l (omega arith))) (λ x. nontrivial)
          (λ j l u. sym (locator_sum_is_power_sum w j) ∙ code j l (omega (arith, locs_length a w)))

      ends : (xs : List ℕ) → length xs ≡ weight w → AllByRecursion (λ x. ◌≡◌ {A = ℕ} 1 0) xs → weight w ≡ 0
      ends [] h z = sym h
      ends (x ∷ xs) h z = let e = z.0 in absurd (omega arith)
