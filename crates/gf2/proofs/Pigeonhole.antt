-- A function that takes N numbers below N to N different numbers below N takes each of them as a value.
use Rattle.std.proofs.Common.{◌≡◌, ℕ, zero, suc, ◌<◌, ◌≢◌, sym, ◌∙◌, arith}
use native.Mathlib.Decide.{ℕ_discrete}

-- v, but c in place of N
sw : ℕ → ℕ → ℕ → ℕ
sw N c v = elim (ℕ_discrete v N) [ yes e ↦ c | no e ↦ v ]

sw_cases : (N c v : ℕ) → (P : ℕ → Type 0) → (v ≡ N → P c) → (v ≢ N → P v) → P (sw N c v)
unfolding sw
sw_cases N c v P y n = go (ℕ_discrete v N)
  where
    go : (d : Dec (v ≡ N)) → P (elim d [ yes e ↦ c | no e ↦ v ])
    go (yes e) = y e
    go (no e) = n e

pub pigeon : (N : ℕ) (f : ℕ → ℕ) → ((i : ℕ) → i < N → f i < N) → ((i j : ℕ) → i < N → j < N → f i ≡ f j → i ≡ j)
    → (y : ℕ) → y < N → (i : ℕ) × (i < N) × (f i ≡ y)
pigeon zero f low inj y h = absurd (omega arith)
pigeon (suc N) f low inj y h = last (pigeon N g g_low g_inj) (ℕ_discrete y (f N)) (ℕ_discrete y N)
  where
    g : ℕ → ℕ
    g i = sw N (f N) (f i)

    fresh : (i : ℕ) → i < N → f i ≢ f N
    fresh i l e = let z : i ≡ N = inj i N (omega arith) (omega arith) e in omega arith

    g_low : (i : ℕ) → i < N → g i < N
    g_low i l =
        sw_cases N (f N) (f i) (λ v. v < N) (λ e. omega (arith, fresh i l, low N (omega arith))) (λ e. omega (arith, low i (omega arith)))

    g_inj : (i j : ℕ) → i < N → j < N → g i ≡ g j → i ≡ j
    g_inj i j li lj =
        sw_cases N (f N) (f i) (λ v. v ≡ g j → i ≡ j)
        (λ a. sw_cases N (f N) (f j) (λ v. f N ≡ v → i ≡ j) (λ b e. inj i j (omega arith) (omega arith) (a ∙ sym b)) (λ b e. absurd (fresh j lj (sym e))))
        (λ a. sw_cases N (f N) (f j) (λ v. f i ≡ v → i ≡ j) (λ b e. absurd (fresh i li e)) (λ b e. inj i j (omega arith) (omega arith) e))

    Hit : ℕ → Type 0
    Hit y = (i : ℕ) × (i < suc N) × (f i ≡ y)

    last : ((y : ℕ) → y < N → (i : ℕ) × (i < N) × (g i ≡ y)) → Dec (y ≡ f N) → Dec (y ≡ N) → Hit y
    last ih (yes e) d = (N, omega arith, sym e)
    last ih (no e) (yes q) =
        let r = ih (f N) (omega (arith, low N (omega arith))) in
        (r.0, omega (arith, r.1), sw_cases N (f N) (f r.0) (λ v. v ≡ f N → f r.0 ≡ y) (λ a b. a ∙ sym q) (λ a b. absurd (fresh r.0 r.1 b)) r.2)
    last ih (no e) (no q) =
        let r = ih y (omega arith) in
        (r.0, omega (arith, r.1), sw_cases N (f N) (f r.0) (λ v. v ≡ y → f r.0 ≡ y) (λ a b. absurd (e (sym b))) (λ a b. b) r.2)
