-- Where the labels of the setting short stand, by one computed test.
use Rattle.std.proofs.Common.{◌≡◌, ℕ, zero, suc, ◌+◌, ◌-◌, ◌*◌, ◌^◌, ◌<◌, ◌≤◌, Bool, true, false, ◌&&◌, T, eqb, ltb, leb, ◌≢◌, ◌⊎◌, List, length, get_or, sym, refl, subst, inl, inr, ⊎_elim, pow-suc, arith, pow_mono}
use lib.Count.{ones, ones_in, count_leading_zeros}
use Rattle.std.specs.List.{AllByRecursion as All}
use Rattle.std.proofs.ByRecursion.{All-weaker}
use Rattle.std.proofs.lemmas.Bool.{cases_lt, and_parts, eqb-true, leb-true, ltb-true}
use Rattle.position.specs.Labels.{is_power_of_two, powers_of_two, no_powers_of_two}
use Rattle.position.specs.Short.{data_labels, short_labels}
use Rattle.position.specs.Theory.ShortLaws.{all_below, below, none_is, others}

-- the binary logarithm, rounded down
log : ℕ → ℕ
log a = 15 - count_leading_zeros 16 a

-- the place of the label a, where l is its logarithm
place : ℕ → ℕ → ℕ
place l a = elim (is_power_of_two a) [ true ↦ 553 - l | false ↦ a - 2 - l ]

log_below : (l k a : ℕ) → 2 ^ l ≤ a → a < 2 * 2 ^ k → l ≤ k
log_below l k a h q = ⊎_elim (λ o. absurd (omega (arith, pow_mono {i = suc k} {j = l} o, pow-suc 2 k))) (λ o. o) (cases_lt k l)

log_unique : (l k a : ℕ) → 2 ^ l ≤ a → a < 2 * 2 ^ l → 2 ^ k ≤ a → a < 2 * 2 ^ k → l ≡ k
log_unique l k a h q i r = let x = log_below l k a h r in let y = log_below k l a i q in omega arith

-- the place's subtractions do not go below 0
fits : ℕ → ℕ → Bool
fits l a = elim (is_power_of_two a) [ true ↦ true | false ↦ leb (2 + l) a ]

-- l is the logarithm of a, and a stands at its place
stands : List ℕ → ℕ → ℕ → Bool
stands ls l a = (leb (2 ^ l) a && ltb a (2 * 2 ^ l)) && (fits l a && (ltb (place l a) (length ls) && eqb (get_or ls (place l a) 0) a))

-- each of the n numbers from a on stands at its place
all_stand : List ℕ → ℕ → ℕ → Bool
all_stand ls a zero = true
all_stand ls a (suc n) = elim (stands ls (log a) a) [ true ↦ all_stand ls (suc a) n | false ↦ false ]

stands_at : (ls : List ℕ) (a n b : ℕ) → T (all_stand ls a n) → a ≤ b → b < a + n → stands ls (log b) b ≡ true
unfolding all_stand
stands_at ls a zero b t h l = absurd (omega arith)
stands_at ls a (suc n) b t h l = go (stands ls (log a) a) refl t (λ t q. stands_at ls (suc a) n b t q (omega arith))
  where
    go : (s : Bool) → stands ls (log a) a ≡ s → T (elim s [ true ↦ all_stand ls (suc a) n | false ↦ false ])
        → (T (all_stand ls (suc a) n) → suc a ≤ b → stands ls (log b) b ≡ true) → stands ls (log b) b ≡ true
    go false e t rest = absurd t
    go true e t rest =
        ⊎_elim (λ o. rest t o) (λ o. let q : a ≡ b = omega arith in subst (λ (x : ℕ). stands ls (log x) x ≡ true) q e) (cases_lt a b)

test : T (all_stand short_labels 1 554)
unfolding data_labels no_powers_of_two ones ones_in powers_of_two all_stand stands fits log count_leading_zeros place
test = tt

-- the label a stands at p
abbrev There : ℕ → ℕ → Type 0
There a p = (p < length short_labels) × (get_or short_labels p 0 ≡ a)

-- what the test says of a label whose logarithm is l
pub record Found (l a : ℕ) : Type 0 where
  pub power : is_power_of_two a ≡ true → There a (553 - l)
  pub fits : is_power_of_two a ≡ false → 2 + l ≤ a
  pub other : is_power_of_two a ≡ false → There a (a - 2 - l)

pub found : (l a : ℕ) → a ≢ 0 → a ≤ 554 → 2 ^ l ≤ a → a < 2 * 2 ^ l → Found l a
unfolding stands place fits
found l a low high h q =
    let k = log a in
    let s = and_parts (leb (2 ^ k) a && ltb a (2 * 2 ^ k)) _ (stands_at short_labels 1 554 a test (omega arith) (omega arith)) in
    let b = and_parts (leb (2 ^ k) a) (ltb a (2 * 2 ^ k)) s.0 in
    let r = and_parts (fits k a) _ s.1 in
    let p = and_parts (ltb (place k a) (length short_labels)) (eqb (get_or short_labels (place k a) 0) a) r.1 in
    let at : There a (place k a) = (ltb-true (place k a) (length short_labels) p.0, eqb-true (get_or short_labels (place k a) 0) a p.1) in
    let e : k ≡ l = log_unique k l a (leb-true (2 ^ k) a b.0) (ltb-true a (2 * 2 ^ k) b.1) h q in
    subst (λ (x : ℕ). Found x a) e (record {
      power = λ is. subst (λ (t : Bool). There a (elim t [ true ↦ 553 - k | false ↦ a - 2 - k ])) is at;
      fits = λ is. leb-true (2 + k) a (subst (λ (t : Bool). elim t [ true ↦ true | false ↦ leb (2 + k) a ] ≡ true) is r.0);
      other = λ is. subst (λ (t : Bool). There a (elim t [ true ↦ 553 - k | false ↦ a - 2 - k ])) is at;
    })

small : T (all_below 555 short_labels)
unfolding data_labels no_powers_of_two ones ones_in powers_of_two all_below
small = tt

not_0 : T (none_is 0 short_labels)
unfolding data_labels no_powers_of_two ones ones_in powers_of_two none_is
not_0 = tt

-- 0 and the numbers above 554 are no labels
pub no_label : (a : ℕ) → (a ≡ 0) ⊎ (554 < a) → All (λ b. b ≢ a) short_labels
no_label a (inl e) = subst (λ (x : ℕ). All (λ b. b ≢ x) short_labels) (sym e) (others 0 short_labels not_0)
no_label a (inr h) = All-weaker (λ b. b < 555) (λ b. b ≢ a) (λ b l e. omega arith) short_labels (below 555 short_labels small)
