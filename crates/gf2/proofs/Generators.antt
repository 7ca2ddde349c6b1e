-- The powers of x as powers of the element x: they are distinct, they reach every element but 0, and they give the inverse.
use Rattle.std.proofs.Common.{◌≡◌, ℕ, zero, suc, ◌-◌, ◌%◌, ◌^◌, ◌<◌, T, ◌≢◌, sym, refl, ap, ◌∙◌, mod-lt, arith, pow_pos}
use Rattle.gf2.specs.Product.{times, times_x}
use Rattle.gf2.proofs.Ring.{shifted}
use Rattle.gf2.proofs.Orbit.{avoids_one}
use Rattle.gf2.specs.Polynomials.{power}
use Rattle.gf2.specs.Fields.{AlphaGenerates}
use Rattle.gf2.proofs.Algebra.{is_ring}
use Rattle.gf2.proofs.Orbit as orbit
use Rattle.gf2.proofs.PowerLaws as powers
use Rattle.gf2.proofs.Ring as ring

module _ (n p : ℕ) (hp : p < 2 ^ suc n) (N : ℕ) (back : shifted n p N 1 ≡ 1) where
  shifted_suc : (i a : ℕ) → shifted n p (suc i) a ≡ times_x n p (shifted n p i a)
  unfolding shifted
  shifted_suc zero a = refl
  shifted_suc (suc i) a = shifted_suc i (times_x n p a)

  pub shifted_is_power : (i : ℕ) → shifted n p i 1 ≡ power (times n p) (times_x n p 1) i
  unfolding power
  shifted_is_power zero = unfold shifted in refl
  shifted_is_power (suc i) =
      shifted_suc i 1 ∙ ring.times_x_is_product n p hp (shifted n p i 1) ∙ ap (times n p (times_x n p 1)) (shifted_is_power i)

  pub power_mod : (a j : ℕ) → power (times n p) (a % 2 ^ suc n) j ≡ power (times n p) a j
  unfolding power
  power_mod a zero = refl
  power_mod a (suc j) = ring.times_mod n p hp a (power (times n p) (a % 2 ^ suc n) j) ∙ ap (times n p a) (power_mod a j)

  module _ (size : suc N ≡ 2 ^ suc n) (test : T (avoids_one n p (N - 1) (times_x n p 1))) where
    -- a times a^(N-1) is 1
    inverse_power : (a : ℕ) → a < 2 ^ suc n → a ≢ 0 → times n p a (power (times n p) a (N - 1)) ≡ 1
    unfolding power
    inverse_power a h z =
        let r = orbit.log n p hp N back size test a h z in
        let i = r.0 in
        let m = times n p in
        let R = is_ring n p hp in
        let x = times_x n p 1 in
        let e : suc (N - 1) ≡ N = omega (arith, r.1) in
        ap (λ (j : ℕ). power m a j) e ∙ ap (λ (y : ℕ). power m y N) (sym r.2 ∙ shifted_is_power i) ∙ powers.power_swap (suc n) m R (ring.one_lt n) x i N
        ∙ ap (λ (y : ℕ). power m y i) (sym (shifted_is_power N) ∙ back) ∙ powers.power_of_one (suc n) m R (ring.one_lt n) i

    pub inverts : (a : ℕ) → a % 2 ^ suc n ≢ 0 → times n p a (power (times n p) a (N - 1)) ≡ 1
    inverts a z =
        sym (ring.times_mod n p hp a (power (times n p) a (N - 1)))
        ∙ ap (times n p (a % 2 ^ suc n)) (sym (power_mod a (N - 1)))
        ∙ inverse_power (a % 2 ^ suc n) (mod-lt a (pow_pos (suc n))) z

    pub generates : times_x n p 1 ≡ 2 → AlphaGenerates (suc n) (times n p)
    generates e = record {
      distinct = λ i j l h q.
          orbit.distinct n p hp N back (N - 1) (omega arith) test i j l (omega (arith, size)) (at i ∙ q ∙ sym (at j));
      reaches = λ a h z. let r = orbit.log n p hp N back size test a h z in (r.0, omega (arith, r.1, size), sym (at r.0) ∙ r.2);
      around = ap (power (times n p) 2) (let q : 2 ^ suc n - 1 ≡ N = omega (arith, size) in q) ∙ sym (at N) ∙ back;
    }
      where
        at : (i : ℕ) → shifted n p i 1 ≡ power (times n p) 2 i
        at i = shifted_is_power i ∙ ap (λ (x : ℕ). power (times n p) x i) e
