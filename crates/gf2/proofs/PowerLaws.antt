-- Powers in a ring of elements below 2^k.
use Rattle.std.proofs.Common.{◌≡◌, ℕ, zero, suc, ◌+◌, ◌*◌, ◌/◌, ◌%◌, ◌^◌, ◌<◌, sym, refl, ap, ◌∙◌, ap₂, suc-mul, suc-add, div-add-mod', zero-add, arith}
use Rattle.gf2.specs.Polynomials.{power}
use Rattle.gf2.specs.Fields.{IsRing}

module _ (k : ℕ) (m : ℕ → ℕ → ℕ) (R : IsRing k m) where
  open R use {commutative, associative}

  -- a (b c) is b (a c)
  pub swap : (a b c : ℕ) → m a (m b c) ≡ m b (m a c)
  swap a b c = sym (associative a b c) ∙ ap (λ (x : ℕ). m x c) (commutative a b) ∙ associative b a c

module _ (k : ℕ) (m : ℕ → ℕ → ℕ) (R : IsRing k m) (nontrivial : 1 < 2 ^ k) where
  open R use {closed, commutative, associative, unit}

  pub power_lt : (x j : ℕ) → power m x j < 2 ^ k
  unfolding power
  power_lt x zero = nontrivial
  power_lt x (suc j) = closed x (power m x j)

  pub power_add : (x i j : ℕ) → power m x (i + j) ≡ m (power m x i) (power m x j)
  unfolding power
  power_add x zero j = ap (power m x) (zero-add j) ∙ sym (unit (power m x j) (power_lt x j))
  power_add x (suc i) j =
      ap (power m x) (suc-add i j) ∙ ap (m x) (power_add x i j) ∙ sym (associative x (power m x i) (power m x j))

  pub power_product : (a b n : ℕ) → power m (m a b) n ≡ m (power m a n) (power m b n)
  unfolding power
  power_product a b zero = sym (unit 1 nontrivial)
  power_product a b (suc n) =
      let A = power m a n in
      let B = power m b n in
      ap (m (m a b)) (power_product a b n) ∙ associative a b (m A B) ∙ ap (m a) (swap k m R b A B) ∙ sym (associative a A (m b B))

  pub power_of_one : (n : ℕ) → power m 1 n ≡ 1
  unfolding power
  power_of_one zero = refl
  power_of_one (suc n) = ap (m 1) (power_of_one n) ∙ unit 1 nontrivial

  pub power_swap : (x i n : ℕ) → power m (power m x i) n ≡ power m (power m x n) i
  unfolding power
  power_swap x zero n = power_of_one n
  power_swap x (suc i) n = power_product x (power m x i) n ∙ ap (m (power m x n)) (power_swap x i n)

  -- one turn of square and multiply: the exponent e halves as the base s is squared
  pub square_even : (s e : ℕ) → e % 2 ≡ 0 → power m (m s s) (e / 2) ≡ power m s e
  square_even s e h =
      power_product s s (e / 2) ∙ sym (power_add s (e / 2) (e / 2)) ∙ ap (power m s) (let q : e / 2 + e / 2 ≡ e = omega arith in q)

  pub square_odd : (r s e : ℕ) → e % 2 ≡ 1 → m (m r s) (power m (m s s) (e / 2)) ≡ m r (power m s e)
  square_odd r s e h =
      associative r s (power m (m s s) (e / 2))
      ∙ ap (m r) (ap (m s) (power_product s s (e / 2) ∙ sym (power_add s (e / 2) (e / 2))) ∙ once ∙ ap (power m s) (let q : suc (e / 2 + e / 2) ≡ e = omega arith in q))
    where
      once : m s (power m s (e / 2 + e / 2)) ≡ power m s (suc (e / 2 + e / 2))
      once = unfold power in refl

  -- where the power N is 1, the powers repeat after N
  rounds : (x N : ℕ) → power m x N ≡ 1 → (q : ℕ) → power m x (q * N) ≡ 1
  rounds x N h zero = ap (power m x) (let e : 0 * N ≡ 0 = omega arith in e) ∙ (unfold power in refl)
  rounds x N h (suc q) = ap (power m x) (suc-mul q N) ∙ power_add x (q * N) N ∙ ap₂ m (rounds x N h q) h ∙ unit 1 nontrivial

  pub power_round : (x N : ℕ) → power m x N ≡ 1 → (i : ℕ) → power m x (i % N) ≡ power m x i
  power_round x N h i =
      sym (unit (power m x (i % N)) (power_lt x (i % N))) ∙ ap (λ (y : ℕ). m y (power m x (i % N))) (sym (rounds x N h (i / N)))
      ∙ sym (power_add x (i / N * N) (i % N)) ∙ ap (power m x) (div-add-mod' i N)
