-- The laws of an inner code, for a BCH code in use.
use Rattle.std.proofs.Common.{◌≡◌, ℕ, zero, suc, ◌+◌, ◌-◌, ◌*◌, ◌^◌, ◌≤◌, Bool, cond, ◌≢◌, List, [], ◌∷◌, length, take, drop, sym, refl, ap, ◌∙◌, ap₂, lt_of_not-le, arith, length-append, length-drop}
use lib.Bits.{bit_xor}
use Rattle.gf2.specs.declared.field.Field.{Field}
use Rattle.gf2.specs.Words.{plus, add, weight, distance, bits_of}
use Rattle.std.specs.List.{AllByRecursion}
use Rattle.std.proofs.ByRecursion.{All-append}
use Rattle.gf2.specs.Polynomials.{power as power_under}
use Rattle.gf2.specs.Fields.{width, product, power, alpha}
use Rattle.gf2.proofs.Five as five
use Rattle.gf2.proofs.PowerLaws as powers
use Rattle.gf2.proofs.Sums.{plus_self, add_length, bits_of_length}
use Rattle.gf2.proofs.WordLaws.{distance_is_a_metric}
use Rattle.bch.specs.declared.code.Bch.{Bch}
use Rattle.bch.specs.Code.{word_value, Codeword}
use Rattle.bch.specs.Theory.Orbits.{twice, orbits}
use Rattle.bch.specs.Settings.{field, errors, word_bits, generator_top, generator_tail, data_bits, check_bits, checks_number}
use Rattle.bch.specs.InnerLaws.{WordOf, IsInnerCode}
use Rattle.bch.specs.Theory.Distance as distance
use Rattle.bch.specs.Theory.Generator.{completed}
use Rattle.bch.specs.Theory.Points as points
use Rattle.bch.specs.Theory.Tested.{tested}
use Rattle.bch.specs.Theory.Unique as unique

-- where the first k bits agree, the sum's weight and value are those of the rest
rest_weight : (k : ℕ) (w x : List Bool) → length w ≡ length x → take k w ≡ take k x → weight (add w x) ≡ weight (drop k (add w x))
rest_weight zero w x l e = refl
rest_weight (suc k) [] [] l e = refl
rest_weight (suc k) [] (d ∷ x) l e = absurd (omega arith)
rest_weight (suc k) (b ∷ w) [] l e = absurd (omega arith)
rest_weight (suc k) (b ∷ w) (d ∷ x) l e =
    let eb : b ≡ d = cc in
    let et : take k w ≡ take k x = cc in
    ap (λ (y : Bool). weight (y ∷ add w x)) (ap (plus b) (sym eb) ∙ plus_self b) ∙ rest_weight k w x (omega arith) et

rest_value : (m : ℕ → ℕ → ℕ) (z k : ℕ) (w x : List Bool) → length w ≡ length x → take k w ≡ take k x → word_value m z (add w x) ≡ word_value m z (drop k (add w x))
unfolding word_value
rest_value m z zero w x l e = refl
rest_value m z (suc k) [] [] l e = refl
rest_value m z (suc k) [] (d ∷ x) l e = absurd (omega arith)
rest_value m z (suc k) (b ∷ w) [] l e = absurd (omega arith)
rest_value m z (suc k) (b ∷ w) (d ∷ x) l e =
    let eb : b ≡ d = cc in
    let et : take k w ≡ take k x = cc in
    ap (λ (y : Bool). bit_xor (cond y (power_under m z (length (add w x))) 0) (word_value m z (add w x))) (ap (plus b) (sym eb) ∙ plus_self b)
    ∙ rest_value m z k w x (omega arith) et

-- the word is 0 at every exponent of the orbits
at_orbits : (F : Field) (w : List Bool) (i : ℕ) → Codeword F i w
    → AllByRecursion (λ e. word_value (product F) (power F alpha e) w ≡ 0) (orbits (2 ^ width F - 1) (width F) i)
unfolding orbits
at_orbits F w zero z = tt
at_orbits F w (suc i) z =
    All-append (λ e. word_value (product F) (power F alpha e) w ≡ 0) (orbits (2 ^ width F - 1) (width F) i)
    (twice (2 ^ width F - 1) (width F) (suc (i + i))) (at_orbits F w i (λ j l q. z j l (omega arith)))
    (unique.twice_roots (width F) (product F) (five.field F) alpha (2 ^ width F - 1) (five.alpha_generates F).around w (width F) (suc (i + i))
    (z (suc (i + i)) (omega arith) (omega arith)))

module _ (F : Field) (t : ℕ) where
  pub sums : (w x : List Bool) → length w ≡ length x → Codeword F t w → Codeword F t x → Codeword F t (add w x)
  sums w x l a b j p q =
      sym (points.sum_is_syndrome F (add w x) j)
      ∙ distance.locator_sum_add (width F) (product F) (five.field F) (power F alpha) (points.count F) (points.points F) (points.apart F) w x j l
      ∙ ap₂ bit_xor (points.sum_is_syndrome F w j ∙ a j p q) (points.sum_is_syndrome F x j ∙ b j p q)

  pub close : (w x : List Bool) → length w ≡ length x → length w ≤ 2 ^ width F - 1 → Codeword F t w → Codeword F t x → weight (add w x) ≤ t + t → w ≡ x
  close w x l short a b few =
      distance_is_a_metric.none_only_between_equals w x l
      (distance.distance (width F) (product F) (five.field F) (power F alpha) (points.count F) (points.points F) (points.apart F) t
      (add w x) (omega (arith, add_length w x l)) (λ j p q. points.sum_is_syndrome F (add w x) j ∙ sums w x l a b j p q) few)

module _ (C : Bch) where
  abbrev F : Field
  F = field C

  fixed : (w x : List Bool) → WordOf C w → WordOf C x → take (data_bits C) w ≡ take (data_bits C) x → w ≡ x
  fixed w x a b e =
      distance_is_a_metric.none_only_between_equals w x l
      (rest_weight (data_bits C) w x l e
      ∙ unique.fixed (width F) (product F) (five.field F) (power F alpha) (2 ^ width F - 1) (five.alpha_generates F).distinct
      (orbits (2 ^ width F - 1) (width F) (errors C)) (tested C).apart
      (λ i. powers.power_lt (width F) (product F) (five.ring F) (five.field F).nontrivial alpha i) rest
      (omega (arith, (tested C).all, (tested C).checked, length-drop (data_bits C) (add w x), add_length w x l, a.long))
      (at_orbits F rest (errors C) zeros))
    where
      l : length w ≡ length x
      l = a.long ∙ sym b.long

      rest : List Bool
      rest = drop (data_bits C) (add w x)

      zeros : Codeword F (errors C) rest
      zeros j p q = sym (rest_value (product F) (power F alpha j) (data_bits C) w x l e) ∙ sums F (errors C) w x l a.code b.code j p q

  distant : (w x : List Bool) → WordOf C w → WordOf C x → w ≢ x → 2 * errors C + 1 ≤ distance w x
  distant w x a b ne =
      let l = a.long ∙ sym b.long in
      let far : weight (add w x) ≤ errors C + errors C → ⊥ =
      λ few. ne (close F (errors C) w x l (omega (arith, a.long, (tested C).short)) a.code b.code few) in
      let more = lt_of_not-le far in
      omega arith

  pub inner_code : IsInnerCode C
  inner_code = record {
    data_are_free = λ d h. record {
      long = length-append d (bits_of (check_bits C) (checks_number C d)) ∙ (let e : length d + length (bits_of (check_bits C) (checks_number C d)) ≡ word_bits C =
          omega (arith, bits_of_length (check_bits C) (checks_number C d), (tested C).checked) in e);
      code = completed F (generator_top C) (generator_tail C) (errors C) (tested C).tail (tested C).roots d;
    };
    data_fix_the_checks = fixed;
    sums_stay_inside = λ w x a b. record {
      long = add_length w x (a.long ∙ sym b.long) ∙ a.long;
      code = sums F (errors C) w x (a.long ∙ sym b.long) a.code b.code;
    };
    apart = distant;
  }
