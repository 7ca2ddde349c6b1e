-- What a change of the groups does to the sum of products: some group has one filling for each outcome, whatever the others hold.
use Rattle.std.proofs.Common.{◌≡◌, ℕ, zero, suc, ◌^◌, ◌<◌, ◌≢◌, ◌⊎◌, List, [], ◌∷◌, length, set, replicate, sym, refl, ap, ◌∙◌, ap₂, inl, inr, arith}
use mathlib.Core.List.{zip_with}
use native.Mathlib.Decide.{ℕ_discrete}
use lib.Bits.{bit_xor, xor_comm, xor_assoc, xor_lt, xor_self, xor_zero_r}
use Rattle.std.specs.List.{AllByRecursion as All}
use Rattle.gf2.specs.declared.field.Field.{Field}
use Rattle.gf2.specs.Fields.{width, product}
use Rattle.gf2.specs.Polynomials.{Element}
use Rattle.gf2.proofs.Five.{ring, field}
use Rattle.gf2.proofs.Ring.{◌⊕◌, xor4}
use Rattle.gf2.proofs.Vandermonde.{dist_l}
use Rattle.pagecode.specs.Groups.{sum_of_products}
use Rattle.pagecode.proofs.Pairs.{double, sum_lt}

xor_cancel : (a b : ℕ) → (a ⊕ b) ⊕ b ≡ a
xor_cancel a b = xor_assoc a b b ∙ ap (bit_xor a) (xor_self b) ∙ xor_zero_r a

module _ (F : Field) where
  open ring F use {closed, commutative, associative, distributive, unit}

  abbrev m : ℕ → ℕ → ℕ
  m = product F

  -- how the sum of products of the groups vs changes when ds is added to them
  unfoldable pub change : List ℕ → List ℕ → ℕ
  change vs ds = sum_of_products m (zip_with bit_xor vs ds) ⊕ sum_of_products m vs

  pub change_lt : (vs ds : List ℕ) → change vs ds < 2 ^ width F
  unfolding change
  change_lt vs ds = xor_lt (width F) (sum_of_products m (zip_with bit_xor vs ds)) (sum_of_products m vs) (sum_lt F (zip_with bit_xor vs ds)) (sum_lt F vs)

  -- exactly one element at which g is c
  abbrev pub One : (ℕ → ℕ) → ℕ → Type 0
  One g c = (x : ℕ) × (x < 2 ^ width F) × (g x ≡ c) × ((y : ℕ) → y < 2 ^ width F → g y ≡ c → y ≡ x)

  one_quotient : (a c : ℕ) → a < 2 ^ width F → a ≢ 0 → c < 2 ^ width F → One (m a) c
  one_quotient a c ha az hc =
      let r = (field F).inverse a ha az in
      let b = r.0 in (
        m b c,
        closed b c,
        sym (associative a b c) ∙ ap (λ (x : ℕ). m x c) r.2 ∙ unit c hc,
        λ y hy e. sym (unit y hy) ∙ ap (λ (x : ℕ). m x y) (sym r.2 ∙ commutative a b) ∙ associative b a y ∙ ap (m b) e,
      )

  one_shifted : (g o : ℕ → ℕ) (h c : ℕ) → ((x : ℕ) → o x ≡ g x ⊕ h) → One g (c ⊕ h) → One o c
  one_shifted g o h c e q = (
    q.0,
    q.1,
    e q.0 ∙ ap (λ (x : ℕ). x ⊕ h) q.2 ∙ xor_cancel c h,
    λ y hy z. q.3 y hy (sym (xor_cancel (g y) h) ∙ ap (λ (x : ℕ). x ⊕ h) (sym (e y) ∙ z)),
  )

  -- the first pair v, x of groups with d, e added, before sums a and b: what depends on x is the product of d and x
  first_pair : (v d x e a b : ℕ) → (m (v ⊕ d) (x ⊕ e) ⊕ a) ⊕ (m v x ⊕ b) ≡ m d x ⊕ ((m (v ⊕ d) e ⊕ a) ⊕ b)
  first_pair v d x e a b =
      let s = m (v ⊕ d) e in
      ap (λ (y : ℕ). (y ⊕ a) ⊕ (m v x ⊕ b)) (distributive (v ⊕ d) x e ∙ ap (λ (y : ℕ). y ⊕ s) (dist_l (width F) m (field F) v d x))
      ∙ ap (λ (y : ℕ). y ⊕ (m v x ⊕ b)) (xor_assoc (m v x ⊕ m d x) s a ∙ xor_assoc (m v x) (m d x) (s ⊕ a))
      ∙ xor4 (m v x) (m d x ⊕ (s ⊕ a)) (m v x) b ∙ ap (λ (y : ℕ). y ⊕ ((m d x ⊕ (s ⊕ a)) ⊕ b)) (xor_self (m v x)) ∙ xor_assoc (m d x) (s ⊕ a) b

  -- a group with one filling for each change of the sum
  abbrev pub FreeGroup : ℕ → List ℕ → Type 0
  FreeGroup p ds =
      (g : ℕ) × (g < double p) × ((vs : List ℕ) (c : ℕ) → length vs ≡ double p → c < 2 ^ width F → One (λ x. change (set vs g x) ds) c)

  pub free_group : (p : ℕ) (ds : List ℕ) → length ds ≡ double p → All (Element (width F)) ds → (ds ≡ replicate (double p) 0) ⊎ FreeGroup p ds
  unfolding change sum_of_products zip_with
  free_group zero [] h l = inl refl
  free_group zero (d ∷ ds) h l = absurd (omega arith)
  free_group (suc p) [] h l = absurd (omega arith)
  free_group (suc p) (a ∷ []) h l = absurd (omega arith)
  free_group (suc p) (a ∷ (b ∷ ds)) h l = go (ℕ_discrete a 0) (ℕ_discrete b 0) (free_group p ds (omega arith) l.1.1)
    where
      Each : ℕ → Type 0
      Each g = (vs : List ℕ) (c : ℕ) → length vs ≡ double (suc p) → c < 2 ^ width F → One (λ x. change (set vs g x) (a ∷ (b ∷ ds))) c

      -- one linear equation: d x + s + the change of the other groups
      linear : (d v e : ℕ) (vs : List ℕ) (o : ℕ → ℕ) (c : ℕ) → d < 2 ^ width F → d ≢ 0 → c < 2 ^ width F
          → ((x : ℕ) → o x ≡ (m (v ⊕ d) (x ⊕ e) ⊕ sum_of_products m (zip_with bit_xor vs ds)) ⊕ (m v x ⊕ sum_of_products m vs)) → One o c
      linear d v e vs o c hd z hc is =
          let A = sum_of_products m (zip_with bit_xor vs ds) in
          let B = sum_of_products m vs in
          let H = (m (v ⊕ d) e ⊕ A) ⊕ B in
          let low : H < 2 ^ width F =
          xor_lt (width F) (m (v ⊕ d) e ⊕ A) B (xor_lt (width F) (m (v ⊕ d) e) A (closed (v ⊕ d) e) (sum_lt F (zip_with bit_xor vs ds))) (sum_lt F vs) in
          one_shifted (m d) o H c (λ x. is x ∙ first_pair v d x e A B) (one_quotient d (c ⊕ H) hd z (xor_lt (width F) c H hc low))

      second : a ≢ 0 → Each 1
      second z [] c hv hc = absurd (omega arith)
      second z (v ∷ []) c hv hc = absurd (omega arith)
      second z (v ∷ (w ∷ vs)) c hv hc = linear a v b vs (λ x. change (v ∷ (x ∷ vs)) (a ∷ (b ∷ ds))) c l.0 z hc (λ x. refl)

      first : b ≢ 0 → Each 0
      first z [] c hv hc = absurd (omega arith)
      first z (v ∷ []) c hv hc = absurd (omega arith)
      first z (w ∷ (v ∷ vs)) c hv hc =
          linear b v a vs (λ x. change (x ∷ (v ∷ vs)) (a ∷ (b ∷ ds))) c l.1.0 z hc
          (λ x. ap₂ (λ (y z : ℕ). (y ⊕ sum_of_products m (zip_with bit_xor vs ds)) ⊕ (z ⊕ sum_of_products m vs)) (commutative (x ⊕ a) (v ⊕ b)) (commutative x v))

      later : (r : FreeGroup p ds) → Each (suc (suc r.0))
      later r [] c hv hc = absurd (omega arith)
      later r (v ∷ []) c hv hc = absurd (omega arith)
      later r (v ∷ (w ∷ vs)) c hv hc =
          let P = m (v ⊕ a) (w ⊕ b) in
          let H = P ⊕ m v w in
          let low : H < 2 ^ width F = xor_lt (width F) P (m v w) (closed (v ⊕ a) (w ⊕ b)) (closed v w) in
          let X : ℕ → ℕ = λ x. sum_of_products m (zip_with bit_xor (set vs r.0 x) ds) in
          let Y : ℕ → ℕ = λ x. sum_of_products m (set vs r.0 x) in
          one_shifted (λ x. change (set vs r.0 x) ds) (λ x. change (v ∷ (w ∷ set vs r.0 x)) (a ∷ (b ∷ ds))) H c
          (λ x. xor4 P (X x) (m v w) (Y x) ∙ xor_comm H (X x ⊕ Y x))
          (r.2 vs (c ⊕ H) (omega arith) (xor_lt (width F) c H hc low))

      go : Dec (a ≡ 0) → Dec (b ≡ 0) → (ds ≡ replicate (double p) 0) ⊎ FreeGroup p ds
          → (a ∷ (b ∷ ds) ≡ replicate (double (suc p)) 0) ⊎ FreeGroup (suc p) (a ∷ (b ∷ ds))
      go (no z) y r = inr (1, omega arith, second z)
      go (yes u) (no z) r = inr (0, omega arith, first z)
      go (yes u) (yes v) (inl e) = inl (ap₂ ◌∷◌ u (ap₂ ◌∷◌ v e))
      go (yes u) (yes v) (inr r) = inr (suc (suc r.0), omega (arith, r.1), later r)
