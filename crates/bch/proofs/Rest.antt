-- What the check bits of a word add up to with those that its data ask for: it has the word's syndromes, and is 0 for a codeword alone.
use Rattle.std.proofs.Common.{nat_le, cond, true, false, eqb, Some, None, Option, refl, ◌≡◌, ℕ, ◌+◌, ◌≤◌, Bool, ◌≢◌, List, ◌++◌, length, take, drop, sym, ap, ◌∙◌, subst, ap₂, arith, length-drop, pow_pos}
use lib.Bits.{bit_xor, xor_self}
use Rattle.std.specs.Option.{option_eq}
use Rattle.std.proofs.lemmas.Bool.{leb-true, le-leb}
use Rattle.std.proofs.lemmas.List.{drop-take, length-take-le, take-append-drop, take-take}
use Rattle.gf2.specs.Words.{bits_of, number}
use Rattle.gf2.proofs.Digits.{bits_of_number, number_bits_of}
use Rattle.gf2.proofs.Vandermonde.{xor_eq}
use Rattle.bch.specs.declared.code.Bch.{Bch}
use Rattle.bch.specs.Code.{syndrome}
use Rattle.bch.specs.InnerLaws.{WordOf}
use Rattle.bch.specs.Settings.{field, errors, data_bits, check_bits, word_bits, generator_top, generator_tail, checks_number, checks, rest, rest_of_first}
use Rattle.bch.specs.Theory.Generator as generator
use Rattle.bch.specs.Theory.Laws.{inner_code}
use Rattle.bch.specs.Theory.Remainder.{remainder_lt}
use Rattle.bch.specs.Theory.Tested.{tested, whole}

module _ (C : Bch) (w : List Bool) (enough : word_bits C ≤ length w) where
  abbrev kept : List Bool
  kept = take (data_bits C) w

  abbrev found : List Bool
  found = take (check_bits C) (drop (data_bits C) w)

  data_long : length kept ≡ data_bits C
  data_long = length-take-le (data_bits C) w (omega arith)

  found_long : length found ≡ check_bits C
  found_long = length-take-le (check_bits C) (drop (data_bits C) w) (omega (arith, length-drop (data_bits C) w, whole C))

  parts : take (word_bits C) w ≡ kept ++ found
  parts =
      ap (λ (n : ℕ). take n w) (whole C)
      ∙ sym (take-append-drop (data_bits C) (take (data_bits C + check_bits C) w))
      ∙ ap₂ ◌++◌ (take-take (data_bits C) (data_bits C + check_bits C) w (omega arith)) (drop-take (data_bits C) (check_bits C) w)

  found_is : bits_of (check_bits C) (number found) ≡ found
  found_is = ap (λ (n : ℕ). bits_of n (number found)) (sym found_long) ∙ bits_of_number found

  pub same_syndromes : (j : ℕ) → 1 ≤ j → j ≤ errors C + errors C → syndrome (field C) (bits_of (check_bits C) (rest C w)) j ≡ syndrome (field C) (take (word_bits C) w) j
  same_syndromes j l u =
      generator.same_syndromes (field C) (generator_top C) (generator_tail C) (errors C) (tested C).tail (tested C).roots kept found found_long j l u
      ∙ ap (λ (v : List Bool). syndrome (field C) v j) (sym parts)

  pub codeword : rest C w ≡ 0 → WordOf C (take (word_bits C) w)
  codeword e =
      subst (WordOf C)
      (sym (parts ∙ ap (λ (p : List Bool). kept ++ p) (sym found_is ∙ ap (bits_of (check_bits C)) (sym (xor_eq (checks_number C kept) (number found) e)))))
      ((inner_code C).data_are_free kept data_long)

  pub no_codeword : rest C w ≢ 0 → WordOf C (take (word_bits C) w) → ⊥
  no_codeword ne h =
      let p : found ≡ checks C kept = (inner_code C).data_fix_the_checks kept found data_long (subst (WordOf C) parts h) in
      ne (ap (bit_xor (checks_number C kept))
      (ap number p ∙ number_bits_of (check_bits C) (checks_number C kept) (remainder_lt (generator_top C) (generator_tail C) (tested C).tail kept 0 (pow_pos (check_bits C))))
      ∙ xor_self (checks_number C kept))

-- what it says that there is one of the first bits
pub given : (C : Bch) (w : List Bool) (r : ℕ) → Some r ≡ rest_of_first C w → (word_bits C ≤ length w) × (r ≡ rest C w)
given C w r e = go (nat_le (word_bits C) (length w)) refl e
  where
    go : (b : Bool) → nat_le (word_bits C) (length w) ≡ b → Some r ≡ cond b (Some (rest C w)) None → (word_bits C ≤ length w) × (r ≡ rest C w)
    go true h e = (leb-true (word_bits C) (length w) h, cc)
    go false h e = let z : ◌≡◌ {A = ℕ} 0 1 = cc in absurd (omega arith)

-- the test that it is 0
pub is_0 : (C : Bch) (w : List Bool) (o : Option ℕ) (b : Bool) → word_bits C ≤ length w → o ≡ rest_of_first C w → b ≡ option_eq eqb o (Some 0) → eqb (rest C w) 0 ≡ b
is_0 C w o b h e t =
    sym (t ∙ ap (λ (x : Option ℕ). option_eq eqb x (Some 0)) (e ∙ ap (λ (x : Bool). cond x (Some (rest C w)) None) (le-leb (word_bits C) (length w) h)))
