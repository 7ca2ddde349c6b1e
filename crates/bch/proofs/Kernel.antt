-- The elimination finds the error points: they are the points at which every polynomial that is left is 0.
use Rattle.std.proofs.Common.{◌≡◌, ℕ, zero, suc, ◌+◌, ◌^◌, ◌<◌, ◌≤◌, Bool, true, false, T, eqb, ◌≢◌, ◌⊎◌, List, [], ◌∷◌, map, length, sym, refl, ap, ◌∙◌, subst, ap₂, inl, inr, arith, pow_pos}
use native.Mathlib.Decide.{ℕ_discrete}
use lib.Bits.{bit_xor, xor_assoc, xor_zero_r, xor_self, xor_lt}
use Rattle.std.proofs.lemmas.Bool.{eqb-true}
use Rattle.std.specs.List.{AllByRecursion as All}
use Rattle.std.proofs.ByRecursion.{All-weaker}
use Rattle.gf2.specs.Polynomials.{power, power_sum, Distinct, Nonzero}
use Rattle.bch.specs.Elimination.{against, add_scaled, cleared, met_one, met_all}
use Rattle.gf2.proofs.Ring.{◌⊕◌, xor4}
use Rattle.gf2.specs.Fields.{IsField}
use Rattle.gf2.proofs.PowerLaws as powers
use Rattle.gf2.proofs.Vandermonde as v
use Rattle.gf2.proofs.Vandermonde.{xor_eq, all_map2}
use Rattle.bch.proofs.Kept.{met_all_keeps, units_short, sum_short}
use Rattle.bch.specs.Theory.AnyPoints.{units}

abbrev pub Member : ℕ → List ℕ → Type 0
Member y [] = ⊥
Member y (x ∷ xs) = (x ≡ y) ⊎ Member y xs

-- the sum of a_P times what P makes
dot : (ℕ → ℕ → ℕ) → List ℕ → List (List ℕ) → (ℕ → ℕ) → ℕ → ℕ
dot m [] ps s i = 0
dot m (a ∷ cs) [] s i = 0
dot m (a ∷ cs) (p ∷ ps) s i = bit_xor (m a (against m p s i)) (dot m cs ps s i)

module _ (k : ℕ) (m : ℕ → ℕ → ℕ) (F : IsField k m) (inv : ℕ → ℕ)
    (inverse : (a : ℕ) → a < 2 ^ k → a ≢ 0 → m a (inv a) ≡ 1) where
  open F use {nontrivial, no_zero_divisors}
  open F.ring use {closed, commutative, associative, distributive, unit, zero_product}

  against_lt : (p : List ℕ) (s : ℕ → ℕ) (i : ℕ) → against m p s i < 2 ^ k
  unfolding against
  against_lt [] s i = pow_pos k
  against_lt (c ∷ p) s i = xor_lt k (m c (s i)) (against m p s (suc i)) (closed c (s i)) (against_lt p s (suc i))

  against_add_scaled : (a : ℕ) (p q : List ℕ) (s : ℕ → ℕ) (i : ℕ) → against m (add_scaled m a p q) s i ≡ m a (against m p s i) ⊕ against m q s i
  unfolding against add_scaled
  against_add_scaled a [] q s i = ap (λ (y : ℕ). y ⊕ against m q s i) (sym (zero_product a))
  against_add_scaled a (c ∷ p) [] s i =
      ap₂ bit_xor (associative a c (s i)) (against_add_scaled a p [] s (suc i) ∙ xor_zero_r (m a (against m p s (suc i))))
      ∙ sym (distributive a (m c (s i)) (against m p s (suc i))) ∙ sym (xor_zero_r (m a (m c (s i) ⊕ against m p s (suc i))))
  against_add_scaled a (c ∷ p) (d ∷ q) s i =
      ap₂ bit_xor (v.dist_l k m F (m a c) d (s i) ∙ ap (λ (y : ℕ). y ⊕ m d (s i)) (associative a c (s i))) (against_add_scaled a p q s (suc i))
      ∙ xor4 (m a (m c (s i))) (m d (s i)) (m a (against m p s (suc i))) (against m q s (suc i))
      ∙ ap (λ (y : ℕ). y ⊕ (m d (s i) ⊕ against m q s (suc i))) (sym (distributive a (m c (s i)) (against m p s (suc i))))

  module _ (s : ℕ → ℕ) (i : ℕ) where
    -- what cleared leaves, against any sequence
    cleared_dot : (p : List ℕ) (cs : List ℕ) (ps : List (List ℕ)) (r : ℕ → ℕ) (j : ℕ)
        → dot m cs (cleared m inv s i p ps) r j ≡ m (m (dot m cs ps s i) (inv (against m p s i))) (against m p r j) ⊕ dot m cs ps r j
    unfolding dot cleared
    cleared_dot p [] ps r j = sym (ap (λ (y : ℕ). m y (against m p r j) ⊕ 0) (v.nought_l k m F (inv (against m p s i))) ∙ ap (λ (y : ℕ). y ⊕ 0) (v.nought_l k m F (against m p r j)))
    cleared_dot p (a ∷ cs) [] r j = sym (ap (λ (y : ℕ). m y (against m p r j) ⊕ 0) (v.nought_l k m F (inv (against m p s i))) ∙ ap (λ (y : ℕ). y ⊕ 0) (v.nought_l k m F (against m p r j)))
    cleared_dot p (a ∷ cs) (q ∷ ps) r j =
        let u = inv (against m p s i) in
        let X = against m p r j in
        let B = against m q s i in
        let D = dot m cs ps s i in
        ap₂ bit_xor
        (ap (m a) (against_add_scaled (m B u) p q r j) ∙ distributive a (m (m B u) X) (against m q r j)
        ∙ ap (λ (y : ℕ). y ⊕ m a (against m q r j)) (sym (associative a (m B u) X) ∙ ap (λ (y : ℕ). m y X) (sym (associative a B u))))
        (cleared_dot p cs ps r j)
        ∙ xor4 (m (m (m a B) u) X) (m a (against m q r j)) (m (m D u) X) (dot m cs ps r j)
        ∙ ap (λ (y : ℕ). y ⊕ (m a (against m q r j) ⊕ dot m cs ps r j))
        (sym (v.dist_l k m F (m (m a B) u) (m D u) X) ∙ ap (λ (y : ℕ). m y X) (sym (v.dist_l k m F (m a B) D u)))

    -- what the list spans and meets the equation, the next list spans
    Kept : List ℕ → List (List ℕ) → List (List ℕ) → Type 0
    Kept cs ps qs = (bs : List ℕ) × ((r : ℕ → ℕ) (j : ℕ) → dot m cs ps r j ≡ dot m bs qs r j)

    keep : (ps : List (List ℕ)) (cs : List ℕ) → dot m cs ps s i ≡ 0 → Kept cs ps (met_one m inv s i ps)
    unfolding Kept dot met_one
    keep [] cs e = ([], λ r j. none cs r j)
      where
        none : (cs : List ℕ) (r : ℕ → ℕ) (j : ℕ) → dot m cs [] r j ≡ 0
        none [] r j = refl
        none (a ∷ cs) r j = refl
    keep (p ∷ ps) [] e = ([], λ r j. refl)
    keep (p ∷ ps) (a ∷ cs) e = split (eqb (against m p s i) 0) refl (keep ps cs)
      where
        X : ℕ
        X = against m p s i

        split : (b : Bool) → eqb X 0 ≡ b → (dot m cs ps s i ≡ 0 → Kept cs ps (met_one m inv s i ps))
            → Kept (a ∷ cs) (p ∷ ps) (elim b [ true ↦ p ∷ met_one m inv s i ps | false ↦ cleared m inv s i p ps ])
        split true t ih =
            let z : X ≡ 0 = eqb-true X 0 t in
            let h = ih (sym (ap (λ (y : ℕ). m a y ⊕ dot m cs ps s i) z ∙ ap (λ (y : ℕ). y ⊕ dot m cs ps s i) (zero_product a)) ∙ e) in
            (a ∷ h.0, λ r j. ap (bit_xor (m a (against m p r j))) (h.1 r j))
        split false t ih =
            let z : X ≢ 0 = λ y. subst T t (subst (λ (y : ℕ). T (eqb y 0)) (sym y) tt) in
            (cs, λ r j. ap (λ (y : ℕ). y ⊕ dot m cs ps r j) (sym (back z r j)) ∙ sym (cleared_dot p cs ps r j))
          where
            back : X ≢ 0 → (r : ℕ → ℕ) (j : ℕ) → m (m (dot m cs ps s i) (inv X)) (against m p r j) ≡ m a (against m p r j)
            back z r j =
                ap (λ (y : ℕ). m (m y (inv X)) (against m p r j)) (sym (xor_eq (m a X) (dot m cs ps s i) e))
                ∙ ap (λ (y : ℕ). m y (against m p r j)) (associative a X (inv X) ∙ ap (m a) (inverse X (against_lt p s i) z))
                ∙ associative a 1 (against m p r j) ∙ ap (m a) (unit (against m p r j) (against_lt p r j))

    -- the next list meets the equation, and each that the list met
    cleared_meets : (p : List ℕ) (ps : List (List ℕ)) → against m p s i ≢ 0 → All (λ q. against m q s i ≡ 0) (cleared m inv s i p ps)
    unfolding cleared
    cleared_meets p [] z = tt
    cleared_meets p (q ∷ ps) z = (here, cleared_meets p ps z)
      where
        X : ℕ
        X = against m p s i

        B : ℕ
        B = against m q s i

        here : against m (add_scaled m (m B (inv X)) p q) s i ≡ 0
        here =
            against_add_scaled (m B (inv X)) p q s i
            ∙ ap (λ (y : ℕ). y ⊕ B)
            (associative B (inv X) X ∙ ap (m B) (commutative (inv X) X ∙ inverse X (against_lt p s i) z) ∙ commutative B 1 ∙ unit B (against_lt q s i))
            ∙ xor_self B

    meets : (ps : List (List ℕ)) → All (λ q. against m q s i ≡ 0) (met_one m inv s i ps)
    unfolding met_one
    meets [] = tt
    meets (p ∷ ps) = split (eqb (against m p s i) 0) refl (meets ps)
      where
        split : (b : Bool) → eqb (against m p s i) 0 ≡ b → All (λ q. against m q s i ≡ 0) (met_one m inv s i ps)
            → All (λ q. against m q s i ≡ 0) (elim b [ true ↦ p ∷ met_one m inv s i ps | false ↦ cleared m inv s i p ps ])
        split true t ih = (eqb-true (against m p s i) 0 t, ih)
        split false t ih = cleared_meets p ps (λ y. subst T t (subst (λ (y : ℕ). T (eqb y 0)) (sym y) tt))

  -- ---- several equations
  zero_stable : (s : ℕ → ℕ) (i a : ℕ) (p q : List ℕ) → against m p s i ≡ 0 → against m q s i ≡ 0 → against m (add_scaled m a p q) s i ≡ 0
  zero_stable s i a p q hp hq = against_add_scaled a p q s i ∙ ap₂ (λ (x y : ℕ). m a x ⊕ y) hp hq ∙ ap (λ (x : ℕ). x ⊕ 0) (zero_product a)

  met_all_meets : (s : ℕ → ℕ) (n i : ℕ) (ps : List (List ℕ)) (j : ℕ) → i ≤ j → j < i + n → All (λ p. against m p s j ≡ 0) (met_all m inv s n i ps)
  unfolding met_all
  met_all_meets s zero i ps j h l = absurd (omega arith)
  met_all_meets s (suc n) i ps j h l = go (λ a b. met_all_meets s n (suc i) (met_one m inv s i ps) j a b) (ℕ_discrete j i)
    where
      go : (suc i ≤ j → j < suc i + n → All (λ p. against m p s j ≡ 0) (met_all m inv s n (suc i) (met_one m inv s i ps))) → Dec (j ≡ i) → All (λ p. against m p s j ≡ 0) (met_all m inv s n (suc i) (met_one m inv s i ps))
      go ih (yes e) =
          met_all_keeps m inv s (λ p. against m p s j ≡ 0) (zero_stable s j) n (suc i) (met_one m inv s i ps)
          (subst (λ (x : ℕ). All (λ p. against m p s x ≡ 0) (met_one m inv s i ps)) (sym e) (meets s i ps))
      go ih (no e) = ih (omega arith) (omega arith)

  met_all_spans : (s : ℕ → ℕ) (n i : ℕ) (ps : List (List ℕ)) (cs : List ℕ) → ((j : ℕ) → i ≤ j → j < i + n → dot m cs ps s j ≡ 0)
      → (bs : List ℕ) × ((r : ℕ → ℕ) (j : ℕ) → dot m cs ps r j ≡ dot m bs (met_all m inv s n i ps) r j)
  unfolding met_all Kept
  met_all_spans s zero i ps cs h = (cs, λ r j. refl)
  met_all_spans s (suc n) i ps cs h =
      let a = keep s i ps cs (h i (omega arith) (omega arith)) in
      let b = met_all_spans s n (suc i) (met_one m inv s i ps) a.0 (λ j l u. sym (a.1 s j) ∙ h j (omega arith) (omega arith)) in
      (b.0, λ r j. a.1 r j ∙ b.1 r j)

  -- ---- the start spans every polynomial
  Low : List ℕ → Type 0
  Low cs = All (λ c. c < 2 ^ k) cs

  shift_dot : (cs : List ℕ) (ps : List (List ℕ)) (r : ℕ → ℕ) (j : ℕ) → dot m cs (map (λ p. 0 ∷ p) ps) r j ≡ dot m cs ps r (suc j)
  unfolding dot against
  shift_dot [] ps r j = refl
  shift_dot (c ∷ cs) [] r j = refl
  shift_dot (c ∷ cs) (p ∷ ps) r j =
      ap₂ bit_xor (ap (λ (y : ℕ). m c (y ⊕ against m p r (suc j))) (v.nought_l k m F (r j))) (shift_dot cs ps r j)

  units_dot : (n : ℕ) (cs : List ℕ) → Low cs → length cs ≤ n → (r : ℕ → ℕ) (j : ℕ) → dot m cs (units n) r j ≡ against m cs r j
  unfolding dot against units Low
  units_dot zero [] low h r j = refl
  units_dot zero (c ∷ cs) low h r j = absurd (omega arith)
  units_dot (suc n) [] low h r j = refl
  units_dot (suc n) (c ∷ cs) low h r j =
      ap₂ bit_xor
      (ap (m c) (xor_zero_r (m 1 (r j))) ∙ sym (associative c 1 (r j)) ∙ ap (λ (y : ℕ). m y (r j)) (commutative c 1 ∙ unit c low.0))
      (shift_dot cs (units n) r j ∙ units_dot n cs low.1 (omega arith) r (suc j))

  -- ---- sequences
  against_cong : (p : List ℕ) (s r : ℕ → ℕ) (i : ℕ) → ((j : ℕ) → i ≤ j → j < i + length p → s j ≡ r j) → against m p s i ≡ against m p r i
  unfolding against
  against_cong [] s r i h = refl
  against_cong (c ∷ p) s r i h =
      ap₂ bit_xor (ap (m c) (h i (omega arith) (omega arith))) (against_cong p s r (suc i) (λ j a b. h j (omega arith) (omega arith)))

  against_sum : (p : List ℕ) (s r : ℕ → ℕ) (i : ℕ) → against m p (λ j. s j ⊕ r j) i ≡ against m p s i ⊕ against m p r i
  unfolding against
  against_sum [] s r i = refl
  against_sum (c ∷ p) s r i =
      ap₂ bit_xor (distributive c (s i) (r i)) (against_sum p s r (suc i)) ∙ xor4 (m c (s i)) (m c (r i)) (against m p s (suc i)) (against m p r (suc i))

  against_nil : (p : List ℕ) (i : ℕ) → against m p (λ j. 0) i ≡ 0
  unfolding against
  against_nil [] i = refl
  against_nil (c ∷ p) i = ap₂ bit_xor (zero_product c) (against_nil p (suc i))

  -- the value at x
  abbrev pub ev : List ℕ → ℕ → ℕ
  ev p x = against m p (power m x) 0

  against_power : (p : List ℕ) (x i : ℕ) → against m p (power m x) (suc i) ≡ m x (against m p (power m x) i)
  unfolding against power
  against_power [] x i = sym (zero_product x)
  against_power (c ∷ p) x i = ap₂ bit_xor (powers.swap k m F.ring c x (power m x i)) (against_power p x (suc i)) ∙ sym (distributive x (m c (power m x i)) (against m p (power m x) (suc i)))

  against_value : (p : List ℕ) (x i : ℕ) → against m p (power m x) i ≡ m (ev p x) (power m x i)
  unfolding power
  against_value p x zero = sym (commutative (against m p (power m x) 0) 1 ∙ unit (against m p (power m x) 0) (against_lt p (power m x) 0))
  against_value p x (suc i) = against_power p x i ∙ ap (m x) (against_value p x i) ∙ powers.swap k m F.ring x (ev p x) (power m x i)

  exchange : (p xs : List ℕ) (i : ℕ) → against m p (power_sum m (λ x. 1) xs) i ≡ power_sum m (ev p) xs i
  unfolding power_sum
  exchange p [] i = against_nil p i
  exchange p (x ∷ xs) i =
      against_sum p (λ j. m 1 (power m x j)) (power_sum m (λ x. 1) xs) i
      ∙ ap₂ bit_xor (against_cong p (λ j. m 1 (power m x j)) (power m x) i (λ j a b. unit (power m x j) (powers.power_lt k m F.ring nontrivial x j)) ∙ against_value p x i) (exchange p xs i)

  -- ---- the locator: the polynomial whose roots are the points
  ev_cons : (c : ℕ) (p : List ℕ) (z : ℕ) → c < 2 ^ k → ev (c ∷ p) z ≡ c ⊕ m z (ev p z)
  unfolding against power
  ev_cons c p z h = ap₂ bit_xor (commutative c 1 ∙ unit c h) (against_power p z 0)

  ev_nil : (z : ℕ) → ev [] z ≡ 0
  unfolding against
  ev_nil z = refl

  -- c + (x + z) p
  times_linear : ℕ → ℕ → List ℕ → List ℕ
  times_linear x c [] = c ∷ []
  times_linear x c (d ∷ p) = (c ⊕ m x d) ∷ times_linear x d p

  times_linear_length : (x c : ℕ) (p : List ℕ) → length (times_linear x c p) ≡ suc (length p)
  unfolding times_linear
  times_linear_length x c [] = refl
  times_linear_length x c (d ∷ p) = ap suc (times_linear_length x d p)

  times_linear_low : (x c : ℕ) (p : List ℕ) → c < 2 ^ k → Low p → Low (times_linear x c p)
  unfolding times_linear Low
  times_linear_low x c [] h low = (h, tt)
  times_linear_low x c (d ∷ p) h low = (xor_lt k c (m x d) h (closed x d), times_linear_low x d p low.0 low.1)

  times_linear_value : (x c : ℕ) (p : List ℕ) (z : ℕ) → c < 2 ^ k → Low p → ev (times_linear x c p) z ≡ c ⊕ m (x ⊕ z) (ev p z)
  unfolding times_linear Low
  times_linear_value x c [] z h low = ev_cons c [] z h ∙ ap (bit_xor c) (ap (m z) (ev_nil z) ∙ zero_product z ∙ sym (ap (m (x ⊕ z)) (ev_nil z) ∙ zero_product (x ⊕ z)))
  times_linear_value x c (d ∷ p) z h low =
      let w = x ⊕ z in
      let E = ev p z in
      ev_cons (c ⊕ m x d) (times_linear x d p) z (xor_lt k c (m x d) h (closed x d))
      ∙ ap (λ (y : ℕ). (c ⊕ m x d) ⊕ m z y) (times_linear_value x d p z low.0 low.1)
      ∙ xor_assoc c (m x d) (m z (d ⊕ m w E))
      ∙ ap (bit_xor c)
      (ap (bit_xor (m x d)) (distributive z d (m w E)) ∙ sym (xor_assoc (m x d) (m z d) (m z (m w E)))
      ∙ ap₂ bit_xor (sym (v.dist_l k m F x z d)) (powers.swap k m F.ring z w E) ∙ sym (distributive w d (m z E))
      ∙ ap (m w) (sym (ev_cons d p z low.0)))

  locator : List ℕ → List ℕ
  locator [] = 1 ∷ []
  locator (x ∷ xs) = times_linear x 0 (locator xs)

  locator_low : (xs : List ℕ) → Low (locator xs)
  unfolding locator Low
  locator_low [] = (nontrivial, tt)
  locator_low (x ∷ xs) = times_linear_low x 0 (locator xs) (pow_pos k) (locator_low xs)

  locator_length : (xs : List ℕ) → length (locator xs) ≡ suc (length xs)
  unfolding locator
  locator_length [] = refl
  locator_length (x ∷ xs) = times_linear_length x 0 (locator xs) ∙ ap suc (locator_length xs)

  locator_value : (x : ℕ) (xs : List ℕ) (z : ℕ) → ev (locator (x ∷ xs)) z ≡ m (x ⊕ z) (ev (locator xs) z)
  unfolding locator
  locator_value x xs z = times_linear_value x 0 (locator xs) z (pow_pos k) (locator_low xs)

  locator_roots : (xs : List ℕ) → All (λ x. ev (locator xs) x ≡ 0) xs
  locator_roots [] = tt
  locator_roots (x ∷ xs) = (
    locator_value x xs x ∙ ap (λ (y : ℕ). m y (ev (locator xs) x)) (xor_self x) ∙ v.nought_l k m F (ev (locator xs) x),
    All-weaker _ _ (λ y e. locator_value x xs y ∙ ap (m (x ⊕ y)) e ∙ zero_product (x ⊕ y)) xs (locator_roots xs),
  )

  locator_only : (xs : List ℕ) (y : ℕ) → y < 2 ^ k → All (λ x. x < 2 ^ k) xs → ev (locator xs) y ≡ 0 → Member y xs
  unfolding locator
  locator_only [] y hy h e = let z : ◌≡◌ {A = ℕ} 1 0 = sym const ∙ e in omega arith
    where
      const : ev (locator []) y ≡ 1
      const = ev_cons 1 [] y nontrivial ∙ ap (bit_xor 1) (ap (m y) (ev_nil y) ∙ zero_product y)
  locator_only (x ∷ xs) y hy h e = go (λ z. locator_only xs y hy h.1 z) (ℕ_discrete x y)
    where
      go : (ev (locator xs) y ≡ 0 → Member y xs) → Dec (x ≡ y) → (x ≡ y) ⊎ Member y xs
      go ih (yes q) = inl q
      go ih (no q) =
          inr (ih (no_zero_divisors (x ⊕ y) (ev (locator xs) y) (xor_lt k x y h.0 hy) (against_lt (locator xs) (power m y) 0)
          (λ z. q (xor_eq x y z)) (sym (locator_value x xs y) ∙ e)))

  -- ---- the theorem
  module _ (s : ℕ → ℕ) (t : ℕ) (xs : List ℕ) (pts : All (Nonzero k) xs) (apart : Distinct xs) (few : length xs ≤ t)
      (agree : (j : ℕ) → 1 ≤ j → j ≤ t + t → s j ≡ power_sum m (λ x. 1) xs j) where
    abbrev pub left : List (List ℕ)
    left = met_all m inv s t 1 (units (suc t))

    same : (p : List ℕ) (j : ℕ) → length p ≤ suc t → 1 ≤ j → j ≤ t → against m p s j ≡ power_sum m (ev p) xs j
    same p j h a b = against_cong p s (power_sum m (λ x. 1) xs) j (λ i c d. agree i (omega arith) (omega arith)) ∙ exchange p xs j

    dot_0 : (cs : List ℕ) (ps : List (List ℕ)) (r : ℕ → ℕ) (j : ℕ) → All (λ p. against m p r j ≡ 0) ps → dot m cs ps r j ≡ 0
    unfolding dot
    dot_0 [] ps r j h = refl
    dot_0 (c ∷ cs) [] r j h = refl
    dot_0 (c ∷ cs) (p ∷ ps) r j h = ap₂ bit_xor (ap (m c) h.0 ∙ zero_product c) (dot_0 cs ps r j h.1)

    -- a point at which all are 0 that are left is an error point
    pub only : (y : ℕ) → y < 2 ^ k → All (λ p. ev p y ≡ 0) left → Member y xs
    only y hy h = locator_only xs y hy (All-weaker (Nonzero k) (λ x. x < 2 ^ k) (λ x q. q.0) xs pts) value
      where
        E : List ℕ
        E = locator xs

        short : length E ≤ suc t
        short = omega (arith, locator_length xs)

        spans : (r : ℕ → ℕ) (j : ℕ) → dot m E (units (suc t)) r j ≡ against m E r j
        spans = units_dot (suc t) E (locator_low xs) short

        sp : (bs : List ℕ) × ((r : ℕ → ℕ) (j : ℕ) → dot m E (units (suc t)) r j ≡ dot m bs (met_all m inv s t 1 (units (suc t))) r j)
        sp = met_all_spans s t 1 (units (suc t)) E (λ j a b. spans s j ∙ same E j short a (omega arith) ∙ v.power_sum_0 k m F (ev E) xs j (locator_roots xs))

        value : ev E y ≡ 0
        value = (sym (spans (power m y) 0) ∙ sp.1 (power m y) 0 ∙ dot_0 sp.0 (met_all m inv s t 1 (units (suc t))) (power m y) 0 h)

    -- and every error point is such a point
    all_for_each : (P : ℕ → List ℕ → Type 0) (A : ℕ → Type 0) (ps : List (List ℕ)) → ((j : ℕ) → A j → All (P j) ps) → All (λ p. (j : ℕ) → A j → P j p) ps
    all_for_each P A [] h = tt
    all_for_each P A (p ∷ ps) h = (λ j a. (h j a).0, all_for_each P A ps (λ j a. (h j a).1))

    pub all : All (λ p. All (λ x. ev p x ≡ 0) xs) left
    all =
        all_map2 zeros left
        (met_all_keeps m inv s (λ p. length p ≤ suc t) (sum_short m (suc t)) t 1 (units (suc t)) (units_short (suc t)))
        (all_for_each (λ j p. against m p s j ≡ 0) (λ j. (1 ≤ j) × (j < 1 + t)) left (λ j h. met_all_meets s t 1 (units (suc t)) j h.0 h.1))
      where
        zeros : (p : List ℕ) → length p ≤ suc t → ((j : ℕ) → (1 ≤ j) × (j < 1 + t) → against m p s j ≡ 0) → All (λ x. ev p x ≡ 0) xs
        zeros p short h =
            v.vandermonde k m F xs (ev p) 1 pts apart (λ x. against_lt p (power m x) 0)
            (λ j a b. sym (same p j short a (omega arith)) ∙ h j (a, omega arith))
