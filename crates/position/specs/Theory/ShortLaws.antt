-- The setting short meets what an inner code and its setting owe. What holds of its labels are computed tests.
use Rattle.std.specs.Prelude.{◌≡◌, ℕ, ◌^◌, ◌<◌, Bool, true, false, T, ◌≢◌, List, [], ◌∷◌, length, ◌==◌, nat_lt, refl}
use Rattle.std.proofs.Common.{sym}
use Rattle.std.specs.Int.Count.{ones, ones_in}
use Rattle.std.specs.List.{AllByRecursion}
use Rattle.std.proofs.lemmas.Bool.{eqb-false, ltb-true}
use Rattle.gf2.specs.declared.field.Field.TheVariants.{Eight}
use Rattle.inner.specs.Code.{IsInnerCode, Setting}
use Rattle.inner.specs.Settings.{setting}
use Rattle.position.specs.Labels.{powers_of_two, no_powers_of_two}
use Rattle.position.specs.Short.{data_labels, short_labels, ShortCodeword, short_checks}
use Rattle.position.specs.Theory.LabelSums.{Apart}
use Rattle.position.specs.Theory.CodeLaws.{inner_code}

-- whether each number is below n
unfoldable pub all_below : ℕ → List ℕ → Bool
all_below n [] = true
all_below n (a ∷ ls) = elim (nat_lt a n) [ true ↦ all_below n ls | false ↦ false ]

pub below : (n : ℕ) (ls : List ℕ) → T (all_below n ls) → AllByRecursion (λ a. a < n) ls
unfolding all_below
below n [] t = tt
below n (a ∷ ls) t = go (nat_lt a n) refl t (below n ls)
  where
    go : (b : Bool) → nat_lt a n ≡ b → T (elim b [ true ↦ all_below n ls | false ↦ false ]) → (T (all_below n ls) → AllByRecursion (λ a. a < n) ls) → (a < n) × AllByRecursion (λ a. a < n) ls
    go true e t rest = (ltb-true a n e, rest t)
    go false e t rest = absurd t

-- whether no number is a
unfoldable pub none_is : ℕ → List ℕ → Bool
none_is a [] = true
none_is a (b ∷ ls) = elim (b == a) [ true ↦ false | false ↦ none_is a ls ]

pub others : (a : ℕ) (ls : List ℕ) → T (none_is a ls) → AllByRecursion (λ b. b ≢ a) ls
unfolding none_is
others a [] t = tt
others a (b ∷ ls) t = go (b == a) refl t (others a ls)
  where
    go : (q : Bool) → (b == a) ≡ q → T (elim q [ true ↦ false | false ↦ none_is a ls ]) → (T (none_is a ls) → AllByRecursion (λ b. b ≢ a) ls) → (b ≢ a) × AllByRecursion (λ b. b ≢ a) ls
    go true e t rest = absurd t
    go false e t rest = (eqb-false b a e, rest t)

-- whether the numbers differ from one another and from 0
unfoldable pub differ : List ℕ → Bool
differ [] = true
differ (a ∷ ls) = elim (none_is a (0 ∷ ls)) [ true ↦ differ ls | false ↦ false ]

apart : (ls : List ℕ) → T (differ ls) → Apart ls
unfolding differ
apart [] t = tt
apart (a ∷ ls) t = go (none_is a (0 ∷ ls)) (others a (0 ∷ ls)) t (apart ls)
  where
    go : (q : Bool) → (T q → AllByRecursion (λ b. b ≢ a) (0 ∷ ls)) → T (elim q [ true ↦ differ ls | false ↦ false ]) → (T (differ ls) → Apart ls) → (a ≢ 0) × AllByRecursion (λ b. b ≢ a) ls × Apart ls
    go true h t rest = let o = h tt in (λ e. o.0 (sym e), o.1, rest t)
    go false h t rest = absurd t

pub data_labels_length : length data_labels ≡ 544
unfolding data_labels no_powers_of_two ones ones_in
data_labels_length = refl

small : T (all_below (2 ^ 10) data_labels)
unfolding data_labels no_powers_of_two ones ones_in all_below
small = tt

distinct : T (differ short_labels)
unfolding data_labels no_powers_of_two ones ones_in powers_of_two differ none_is
distinct = tt

pub short_inner_code : IsInnerCode 544 10 1 ShortCodeword short_checks
short_inner_code = inner_code 544 10 data_labels data_labels_length (below (2 ^ 10) data_labels small) (apart short_labels distinct)

pub short_setting : Setting 544 10 1 8 Eight
short_setting = setting 544 10 1 8 Eight tt
