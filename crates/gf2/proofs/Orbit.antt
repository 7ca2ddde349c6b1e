-- Where the powers of x run through all elements but 0, every element but 0 has an inverse.
use Rattle.std.proofs.Common.{◌≡◌, ℕ, zero, suc, ◌+◌, ◌-◌, ◌^◌, ◌<◌, ◌≤◌, Bool, true, false, T, eqb, ◌≢◌, sym, refl, ap, ◌∙◌, subst, le_of_suc-le-suc, suc-add, zero-add, arith}
use native.Mathlib.Decide.{dec_lt}
use Rattle.gf2.specs.Product.{times_x, times}
use Rattle.gf2.proofs.Pigeonhole.{pigeon}
use Rattle.gf2.proofs.Ring.{shifted, one_lt, times_x_zero, times_comm, times_assoc, times_zero, one_times, times_shifted, shifted_lt}

-- none of a, x a, x^2 a and so on, k of them, is 1
unfoldable pub avoids_one : ℕ → ℕ → ℕ → ℕ → Bool
avoids_one n p zero a = true
avoids_one n p (suc k) a = elim (eqb a 1) [ true ↦ false | false ↦ avoids_one n p k (times_x n p a) ]

module _ (n p : ℕ) where
  shifted_add : (i j a : ℕ) → shifted n p i (shifted n p j a) ≡ shifted n p (j + i) a
  unfolding shifted
  shifted_add i zero a = ap (λ (k : ℕ). shifted n p k a) (sym (zero-add i))
  shifted_add i (suc j) a = shifted_add i j (times_x n p a) ∙ ap (λ (k : ℕ). shifted n p k a) (sym (suc-add j i))

  avoids_one_at : (k x i : ℕ) → T (avoids_one n p k x) → i < k → shifted n p i x ≢ 1
  unfolding avoids_one shifted
  avoids_one_at zero x i t h e = omega arith
  avoids_one_at (suc k) x zero t h e = subst (λ (y : ℕ). T (elim (eqb y 1) [ true ↦ false | false ↦ avoids_one n p k (times_x n p y) ])) e t
  avoids_one_at (suc k) x (suc i) t h e = avoids_one_at k (times_x n p x) i (tail (eqb x 1) t) (le_of_suc-le-suc h) e
    where
      tail : (b : Bool) → T (elim b [ true ↦ false | false ↦ avoids_one n p k (times_x n p x) ]) → T (avoids_one n p k (times_x n p x))
      tail true t = absurd t
      tail false t = t

  module _ (hp : p < 2 ^ suc n) (N : ℕ) (back : shifted n p N 1 ≡ 1) where
    around : (i j : ℕ) → i ≤ N → shifted n p (N - i) (shifted n p (i + j) 1) ≡ shifted n p j 1
    around i j h =
        shifted_add (N - i) (i + j) 1
        ∙ ap (λ (k : ℕ). shifted n p k 1) (let e : i + j + (N - i) ≡ N + j = omega arith in e)
        ∙ sym (shifted_add j N 1) ∙ ap (shifted n p j) back

    -- the powers are distinct
    pub distinct : (k : ℕ) → k ≤ N → T (avoids_one n p k (times_x n p 1)) → (i j : ℕ) → i < j → j < suc k → shifted n p i 1 ≢ shifted n p j 1
    distinct k hk t i j h l e = avoids_one_at k (times_x n p 1) (j - i - 1) t (omega arith) same
      where
        e1 : i + (j - i) ≡ j
        e1 = omega arith

        e2 : j - i ≡ suc (j - i - 1)
        e2 = omega arith

        e3 : shifted n p (j - i) 1 ≡ 1
        e3 =
            sym (around i (j - i) (omega arith)) ∙ ap (shifted n p (N - i)) (ap (λ (x : ℕ). shifted n p x 1) e1 ∙ sym e)
            ∙ shifted_add (N - i) i 1 ∙ ap (λ (x : ℕ). shifted n p x 1) (let e : i + (N - i) ≡ N = omega arith in e) ∙ back

        same : shifted n p (j - i - 1) (times_x n p 1) ≡ 1
        same = unfold shifted in (ap (λ (x : ℕ). shifted n p x 1) (sym e2) ∙ e3)

    shifted_zero : (k : ℕ) → shifted n p k 0 ≡ 0
    unfolding shifted
    shifted_zero zero = refl
    shifted_zero (suc k) = ap (shifted n p k) (times_x_zero n p) ∙ shifted_zero k

    pub never_zero : (i : ℕ) → i ≤ N → shifted n p i 1 ≢ 0
    never_zero i h e =
        let z : ◌≡◌ {A = ℕ} 1 0 = sym (shifted_add (N - i) i 1 ∙ ap (λ (k : ℕ). shifted n p k 1) (let e : i + (N - i) ≡ N = omega arith in e) ∙ back) ∙ ap (shifted n p (N - i)) e ∙ shifted_zero (N - i) in
        omega arith

    module _ (hN : suc N ≡ 2 ^ suc n) (test : T (avoids_one n p (N - 1) (times_x n p 1))) where
      -- each element but 0 is a power of x
      pub log : (a : ℕ) → a < 2 ^ suc n → a ≢ 0 → (i : ℕ) × (i < N) × (shifted n p i 1 ≡ a)
      log a h z =
          let r = pigeon N (λ i. shifted n p i 1 - 1) low inj (a - 1) (omega arith) in
          (r.0, r.1, omega (arith, r.2, never_zero r.0 (omega (arith, r.1))))
        where
          low : (i : ℕ) → i < N → shifted n p i 1 - 1 < N
          low i l = omega (arith, never_zero i (omega arith), shifted_lt n p hp i 1 (one_lt n))

          differ : (i j : ℕ) → i < j → j < N → shifted n p i 1 - 1 ≡ shifted n p j 1 - 1 → ⊥
          differ i j l k e =
              distinct (N - 1) (omega arith) test i j l (omega arith) (omega (arith, never_zero i (omega arith), never_zero j (omega arith)))

          inj : (i j : ℕ) → i < N → j < N → shifted n p i 1 - 1 ≡ shifted n p j 1 - 1 → i ≡ j
          inj i j li lj e = choose (dec_lt i j) (dec_lt j i)
            where
              choose : Dec (i < j) → Dec (j < i) → i ≡ j
              choose (yes l) d = absurd (differ i j l lj e)
              choose (no a) (yes l) = absurd (differ j i l li (sym e))
              choose (no a) (no b) = omega arith

      pub inverse : (a : ℕ) → a < 2 ^ suc n → a ≢ 0 → (b : ℕ) × (b < 2 ^ suc n) × (times n p a b ≡ 1)
      inverse a h z =
          let r = log a h z in
          let i = r.0 in (
            shifted n p (N - i) 1,
            shifted_lt n p hp (N - i) 1 (one_lt n),
            ap (λ (x : ℕ). times n p x (shifted n p (N - i) 1)) (sym r.2) ∙ times_shifted n p hp i 1 (shifted n p (N - i) 1) (one_lt n)
                ∙ ap (shifted n p i) (one_times n p hp (shifted n p (N - i) 1) (shifted_lt n p hp (N - i) 1 (one_lt n)))
                ∙ shifted_add i (N - i) 1 ∙ ap (λ (x : ℕ). shifted n p x 1) (let e : N - i + i ≡ N = omega (arith, r.1) in e) ∙ back,
          )

      pub no_divisors : (a b : ℕ) → a < 2 ^ suc n → b < 2 ^ suc n → a ≢ 0 → times n p a b ≡ 0 → b ≡ 0
      no_divisors a b ha hb z e =
          let r = inverse a ha z in
          sym (one_times n p hp b hb) ∙ ap (λ (x : ℕ). times n p x b) (sym r.2 ∙ times_comm n p hp a r.0)
          ∙ times_assoc n p hp r.0 a b ∙ ap (times n p r.0) e ∙ times_zero n p hp r.0
