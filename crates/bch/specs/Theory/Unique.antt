-- A word that is 0 at as many distinct points as it has bits has no set bit; the points of a BCH code come with their squares.
use Rattle.std.proofs.Common.{◌≡◌, ℕ, zero, suc, ◌+◌, ◌%◌, ◌^◌, ◌<◌, ◌≤◌, Bool, true, false, cond, T, eqb, ltb, ◌≢◌, List, [], ◌∷◌, map, length, sym, refl, ap, ◌∙◌, subst, ap₂, zero-add, arith, ltb→lt}
use native.Mathlib.Decide.{dec_lt}
use lib.ListN.{length-map}
use lib.Dec.{eqb_refl}
use lib.Bits.{bit_xor, xor_comm, xor_assoc, xor_zero_r, xor_self}
use Rattle.std.specs.List.{AllByRecursion}
use Rattle.std.proofs.ByRecursion.{All-weaker, All-map}
use Rattle.gf2.specs.Polynomials.{power, value, Distinct, Element}
use Rattle.gf2.specs.Words.{weight}
use Rattle.bch.specs.Code.{word_value}
use Rattle.bch.specs.Theory.Orbits.{twice, not_in, differ}
use Rattle.gf2.proofs.Ring.{◌⊕◌, xor4}
use Rattle.gf2.specs.Fields.{IsField}
use Rattle.gf2.proofs.Vandermonde as v
use Rattle.gf2.proofs.Roots.{few_roots, value_lt}
use Rattle.gf2.proofs.PowerLaws as powers
use Rattle.bch.specs.Theory.Horner as horner

-- the bits, lowest first, before cs
low_first : List Bool → List ℕ → List ℕ
low_first [] cs = cs
low_first (b ∷ bs) cs = low_first bs (cond b 1 0 ∷ cs)

low_first_length : (bs : List Bool) (cs : List ℕ) → length (low_first bs cs) ≡ length bs + length cs
unfolding low_first
low_first_length [] cs = sym (zero-add (length cs))
low_first_length (b ∷ bs) cs = let h = low_first_length bs (cond b 1 0 ∷ cs) in omega arith

cond_l : (a b : Bool) → T (cond a b false) → T a
cond_l true b t = tt
cond_l false b t = t

cond_r : (a b : Bool) → T (cond a b false) → T b
cond_r true b t = t
cond_r false b t = absurd t

module _ (k : ℕ) (m : ℕ → ℕ → ℕ) (F : IsField k m) where
  open F use {nontrivial, no_zero_divisors}
  open F.ring use {closed, commutative, associative, distributive, unit, zero_product}

  low_first_value : (bs : List Bool) (cs : List ℕ) (z : ℕ) → AllByRecursion (Element k) cs → value m (low_first bs cs) z ≡ m (power m z (length bs)) (value m cs z) ⊕ word_value m z bs
  unfolding low_first word_value value power
  low_first_value [] cs z h = sym (xor_zero_r (m 1 (value m cs z)) ∙ unit (value m cs z) (value_lt k m F cs z h))
  low_first_value (b ∷ bs) cs z h =
      let P = power m z (length bs) in
      let E = value m cs z in
      let A = cond b P 0 in
      low_first_value bs (cond b 1 0 ∷ cs) z (horner.bit_lt k m F b, h)
      ∙ ap (λ (y : ℕ). y ⊕ word_value m z bs)
      (distributive P (cond b 1 0) (m z E) ∙ ap₂ bit_xor (horner.bit_product k m F b P (powers.power_lt k m F.ring nontrivial z (length bs))) (sym (associative P z E) ∙ ap (λ (y : ℕ). m y E) (commutative P z))
      ∙ xor_comm A (m (m z P) E))
      ∙ xor_assoc (m (m z P) E) A (word_value m z bs)

  low_first_low : (bs : List Bool) (cs : List ℕ) → AllByRecursion (λ c. c < 2 ^ k) cs → AllByRecursion (λ c. c < 2 ^ k) (low_first bs cs)
  unfolding low_first
  low_first_low [] cs h = h
  low_first_low (b ∷ bs) cs h = low_first_low bs (cond b 1 0 ∷ cs) (horner.bit_lt k m F b, h)

  -- a set bit is a coefficient other than 0
  some_bit : (bs : List Bool) (cs : List ℕ) → (AllByRecursion (λ c. c ≡ 0) cs → ⊥) → AllByRecursion (λ c. c ≡ 0) (low_first bs cs) → ⊥
  unfolding low_first
  some_bit [] cs some h = some h
  some_bit (b ∷ bs) cs some h = some_bit bs (cond b 1 0 ∷ cs) (λ q. some q.1) h

  -- as many distinct roots as bits
  pub no_bits : (w : List Bool) (zs : List ℕ) → AllByRecursion (Element k) zs → Distinct zs → length w ≤ length zs → AllByRecursion (λ z. word_value m z w ≡ 0) zs → weight w ≡ 0
  unfolding word_value
  no_bits [] zs low apart h e = refl
  no_bits (false ∷ bs) zs low apart h e = no_bits bs zs low apart (omega arith) e
  no_bits (true ∷ bs) zs low apart h e =
      absurd
      (omega (arith, few_roots k m F (low_first bs (1 ∷ [])) zs (low_first_low bs (1 ∷ []) (nontrivial, tt)) (some_bit bs (1 ∷ []) one_is_not_0) low apart (All-weaker _ _ same zs e), low_first_length bs (1 ∷ [])))
    where
      one_is_not_0 : AllByRecursion (λ (c : ℕ). c ≡ 0) (1 ∷ []) → ⊥
      one_is_not_0 q = let z : ◌≡◌ {A = ℕ} 1 0 = q.0 in omega arith

      same : (z : ℕ) → word_value m z (true ∷ bs) ≡ 0 → value m (low_first bs (1 ∷ [])) z ≡ 0
      same z e =
          low_first_value bs (1 ∷ []) z (nontrivial, tt)
          ∙ ap (λ (y : ℕ). m (power m z (length bs)) y ⊕ word_value m z bs) (constant z)
          ∙ ap (λ (y : ℕ). y ⊕ word_value m z bs) (commutative (power m z (length bs)) 1 ∙ unit (power m z (length bs)) (powers.power_lt k m F.ring nontrivial z (length bs))) ∙ e
        where
          constant : (z : ℕ) → value m (1 ∷ []) z ≡ 1
          constant z = unfold value in (ap (bit_xor 1) (zero_product z))

  -- squares
  square : (a b : ℕ) → m (a ⊕ b) (a ⊕ b) ≡ m a a ⊕ m b b
  square a b =
      v.dist_l k m F a b (a ⊕ b) ∙ ap₂ bit_xor (distributive a a b) (distributive b a b ∙ xor_comm (m b a) (m b b))
      ∙ xor4 (m a a) (m a b) (m b b) (m b a) ∙ ap (bit_xor (m a a ⊕ m b b)) (ap (bit_xor (m a b)) (commutative b a) ∙ xor_self (m a b))
      ∙ xor_zero_r (m a a ⊕ m b b)

  word_value_square : (z : ℕ) (w : List Bool) → word_value m (m z z) w ≡ m (word_value m z w) (word_value m z w)
  unfolding word_value
  word_value_square z [] = sym (zero_product 0)
  word_value_square z (b ∷ bs) = ap₂ bit_xor (bit b) (word_value_square z bs) ∙ sym (square (cond b (power m z (length bs)) 0) (word_value m z bs))
    where
      bit : (b : Bool) → cond b (power m (m z z) (length bs)) 0 ≡ m (cond b (power m z (length bs)) 0) (cond b (power m z (length bs)) 0)
      bit true = powers.power_product k m F.ring nontrivial z z (length bs)
      bit false = sym (zero_product 0)

  module _ (x N : ℕ) (back : power m x N ≡ 1) where
    pub twice_roots : (w : List Bool) (n e : ℕ) → word_value m (power m x e) w ≡ 0 → AllByRecursion (λ d. word_value m (power m x d) w ≡ 0) (twice N n e)
    unfolding twice
    twice_roots w zero e h = tt
    twice_roots w (suc n) e h = (
      h,
      twice_roots w n ((e + e) % N)
          (ap (λ (y : ℕ). word_value m y w) (powers.power_round k m F.ring nontrivial x N back (e + e) ∙ powers.power_add k m F.ring nontrivial x e e) ∙ word_value_square (power m x e) w ∙ ap (λ (y : ℕ). m y y) h ∙ zero_product 0),
    )

  -- exponents that differ below N give distinct points
  module _ (a : ℕ → ℕ) (N : ℕ) (apart : (i j : ℕ) → i < j → j < N → a i ≢ a j) where
    either : (d e : ℕ) → d < N → e < N → d ≢ e → a d ≢ a e
    either d e hd he ne q = go (dec_lt d e)
      where
        go : Dec (d < e) → ⊥
        go (yes l) = apart d e l he q
        go (no l) = apart e d (omega arith) hd (sym q)

    below : (es : List ℕ) → T (differ N es) → AllByRecursion (λ e. e < N) es
    unfolding differ
    below [] t = tt
    below (e ∷ es) t = (
      ltb→lt e N (cond_l (ltb e N) (cond (not_in e es) (differ N es) false) t),
      below es (cond_r (not_in e es) (differ N es) (cond_r (ltb e N) (cond (not_in e es) (differ N es) false) t)),
    )

    far : (e : ℕ) (es : List ℕ) → e < N → AllByRecursion (λ d. d < N) es → T (not_in e es) → AllByRecursion (λ y. y ≢ a e) (map a es)
    unfolding not_in
    far e [] h low t = tt
    far e (d ∷ ds) h low t = go (eqb d e) refl t (far e ds h low.1)
      where
        go : (b : Bool) → eqb d e ≡ b → T (elim b [ true ↦ false | false ↦ not_in e ds ]) → (T (not_in e ds) → AllByRecursion (λ y. y ≢ a e) (map a ds))
            → (a d ≢ a e) × AllByRecursion (λ y. y ≢ a e) (map a ds)
        go true q t ih = absurd t
        go false q t ih = (either d e low.0 h (λ z. subst T q (subst (λ (y : ℕ). T (eqb y e)) (sym z) (eqb_refl e))), ih t)

    apart_map : (es : List ℕ) → T (differ N es) → Distinct (map a es)
    unfolding differ
    apart_map [] t = tt
    apart_map (e ∷ es) t =
        let r = cond_r (ltb e N) (cond (not_in e es) (differ N es) false) t in
        let low = below (e ∷ es) (unfold differ in t) in
        (far e es low.0 low.1 (cond_l (not_in e es) (differ N es) r), apart_map es (cond_r (not_in e es) (differ N es) r))

    pub fixed : (es : List ℕ) → T (differ N es) → ((e : ℕ) → a e < 2 ^ k) → (w : List Bool) → length w ≤ length es
        → AllByRecursion (λ e. word_value m (a e) w ≡ 0) es → weight w ≡ 0
    fixed es t low w h zs =
        no_bits w (map a es) (All-map (λ y. y < 2 ^ k) a es (every es)) (apart_map es t) (omega (arith, length-map es a)) (All-map (λ y. word_value m y w ≡ 0) a es zs)
      where
        every : (es : List ℕ) → AllByRecursion (λ e. a e < 2 ^ k) es
        every [] = tt
        every (e ∷ es) = (low e, every es)
