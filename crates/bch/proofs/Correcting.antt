-- What the search does to a word: the bits that it flips lead to the codeword at most t bits away, if there is one.
use Rattle.std.proofs.Common.{true, false, eqb, Some, Option, ◌≡◌, ℕ, zero, suc, ◌+◌, ◌<◌, ◌≤◌, Bool, List, [], ◌∷◌, length, take, drop, sym, refl, ap, ◌∙◌, subst, ap₂, arith}
use Rattle.std.specs.Option.{option_eq}
use Rattle.std.proofs.lemmas.Bool.{eqb-false, eqb-true}
use Rattle.std.proofs.lemmas.List.{length-take, length-take-le}
use Rattle.gf2.specs.declared.field.Field.{Field}
use Rattle.gf2.specs.Words.{plus, add, weight, bits_of}
use Rattle.gf2.specs.Fields.{width, product, power, alpha}
use Rattle.gf2.proofs.Five as five
use Rattle.gf2.proofs.Sums.{add_length, add_nil, add_assoc, add_self, add_zeros, add_back}
use Rattle.gf2.proofs.Vandermonde as v
use Rattle.gf2.proofs.WordLaws.{distance_is_a_metric}
use Rattle.bch.specs.declared.code.Bch.{Bch}
use Rattle.bch.specs.Code.{syndrome}
use Rattle.bch.specs.InnerLaws.{WordOf}
use Rattle.bch.specs.Nearest.{Near, Corrected, LeftAlone}
use Rattle.bch.specs.Settings.{field, errors, word_bits, check_bits, rest, rest_of_first}
use Rattle.bch.specs.Elimination.{met_all, sequence, unit_rows}
use Rattle.bch.specs.Decoding.{all_vanish, inverse_or_0, root_at, root_marks}
use Rattle.bch.specs.Theory.AnyPoints.{locator_sum}
use Rattle.bch.specs.Theory.Points as points
use Rattle.bch.specs.Theory.Tested.{tested}
use Rattle.bch.proofs.Decoder as decoder
use Rattle.bch.proofs.Flips.{marks_ext, marks_length}
use Rattle.bch.proofs.Padded.{same_roots}
use Rattle.bch.proofs.Rest.{same_syndromes, codeword, no_codeword, given, is_0}
use Rattle.bch.specs.Theory.AnyPoints.{units, flips}

-- the marks are the decoder's flips
flips_are : (F : Field) (t : ℕ) → t < 6 → (s : List ℕ) (r : List Bool) → ((j : ℕ) → 1 ≤ j → j ≤ t + t → sequence s j ≡ syndrome F r j)
    → (ps : List (List ℕ)) → ps ≡ met_all (product F) (inverse_or_0 F) (sequence s) t 1 (take (t + 1) unit_rows)
    → root_marks F ps (length r) ≡ flips (product F) (inverse_or_0 F) (power F alpha) t r
unfolding root_at flips
flips_are F t few s r agree ps solved =
    marks_ext (root_at F ps) (λ i. all_vanish (product F) ps' (power F alpha i)) (length r)
    (λ e l. ap (λ (x : List (List ℕ)). all_vanish (product F) x (power F alpha e)) solved
    ∙ same_roots (product F) (v.nought_l (width F) (product F) (five.field F)) (five.ring F).zero_product (inverse_or_0 F) (sequence s)
    (locator_sum (product F) (power F alpha) r) t few (λ j a b. agree j a b ∙ sym (points.sum_is_syndrome F r j)) (power F alpha e))
  where
    ps' : List (List ℕ)
    ps' = met_all (product F) (inverse_or_0 F) (locator_sum (product F) (power F alpha) r) t 1 (units (suc t))

-- flips within the first bits leave the rest
take_add : (n : ℕ) (w e : List Bool) → n ≤ length w → length e ≡ n → take n (add w e) ≡ add (take n w) e
take_add zero w [] h l = ap (take 0) (add_nil w)
take_add zero w (d ∷ e) h l = absurd (omega arith)
take_add (suc n) [] e h l = absurd (omega arith)
take_add (suc n) (b ∷ w) [] h l = absurd (omega arith)
take_add (suc n) (b ∷ w) (d ∷ e) h l = ap (λ (v : List Bool). plus b d ∷ v) (take_add n w e (omega arith) (omega arith))

drop_add : (n : ℕ) (w e : List Bool) → n ≤ length w → length e ≡ n → drop n (add w e) ≡ drop n w
drop_add zero w [] h l = add_nil w
drop_add zero w (d ∷ e) h l = absurd (omega arith)
drop_add (suc n) [] e h l = absurd (omega arith)
drop_add (suc n) (b ∷ w) [] h l = absurd (omega arith)
drop_add (suc n) (b ∷ w) (d ∷ e) h l = drop_add n w e (omega arith) (omega arith)

-- flipped twice
add_twice : (w e : List Bool) → length e ≤ length w → add (add w e) e ≡ w
add_twice w e h = add_assoc w e e ∙ ap (add w) (add_self e) ∙ add_zeros w (length e) h

-- a codeword stays as it is
pub unchanged : (C : Bch) (w : List Bool) → Some 0 ≡ rest_of_first C w → Corrected C w w 0
unchanged C w e =
    let (h, z) = given C w 0 e in
    let none = distance_is_a_metric.none_from_itself (take (word_bits C) w) in
    record { enough = h; near = record { code = codeword C w h (sym z); near = omega arith }; counts = sym none; rest = refl }

-- the search flipped marked bits, and where there is a codeword at most t bits away the marks lead to it
pub record Search (C : Bch) (before after : List Bool) (marked : List Bool) : Type 0 where
  pub enough : word_bits C ≤ length before
  pub long : length marked ≡ word_bits C
  pub flipped : after ≡ add before marked
  pub leads : (c : List Bool) → Near C (take (word_bits C) before) c → marked ≡ add (take (word_bits C) before) c

-- by its steps: r is what the check bits add up to with those that the data ask for, s its syndromes, and ps what the elimination leaves
pub searched : (C : Bch) (before after : List Bool) (F : Field) (s : List ℕ) (r t : ℕ) (ps : List (List ℕ))
    → Some r ≡ rest_of_first C before → F ≡ field C → t ≡ errors C → ((j : ℕ) → j ≤ errors C + errors C → sequence s j ≡ syndrome (field C) (bits_of (check_bits C) r) j)
    → ps ≡ met_all (product F) (inverse_or_0 F) (sequence s) t 1 (take (t + 1) unit_rows)
    → after ≡ add before (root_marks (field C) ps (word_bits C)) → Search C before after (root_marks (field C) ps (word_bits C))
searched C before after F s r t ps here eF et each left flipped = record {
  enough = enough;
  long = marks_length (root_at K ps) n;
  flipped = flipped;
  leads = λ c q.
      ap (root_marks K ps) (sym long) ∙ flips_are K (errors C) (tested C).few s w agree ps solved
      ∙ decoder.finds (width K) (product K) (five.field K) (inverse_or_0 K) (points.inverts K) (power K alpha) (points.count K) (points.points K) (points.apart K)
      (errors C) w c (omega (arith, long, (tested C).short)) (q.code.long ∙ sym long) (λ j a b. points.sum_is_syndrome K c j ∙ q.code.code j a b) q.near;
}
  where
    enough : word_bits C ≤ length before
    enough = (given C before r here).0

    er : r ≡ rest C before
    er = (given C before r here).1

    K : Field
    K = field C

    n : ℕ
    n = word_bits C

    w : List Bool
    w = take n before

    long : length w ≡ n
    long = length-take-le n before enough

    agree : (j : ℕ) → 1 ≤ j → j ≤ errors C + errors C → sequence s j ≡ syndrome K w j
    agree j l u =
        each j u ∙ ap (λ (x : ℕ). syndrome K (bits_of (check_bits C) x) j) er ∙ same_syndromes C before enough j l u

    solved : ps ≡ met_all (product K) (inverse_or_0 K) (sequence s) (errors C) 1 (take (errors C + 1) unit_rows)
    solved = left ∙ ap₂ (λ (G : Field) (u : ℕ). met_all (product G) (inverse_or_0 G) (sequence s) u 1 (take (u + 1) unit_rows)) eF et

module _ (C : Bch) (before after marked : List Bool) (f : Search C before after marked) where
  long : length (take (word_bits C) before) ≡ word_bits C
  long = length-take-le (word_bits C) before f.enough

  front : take (word_bits C) after ≡ add (take (word_bits C) before) marked
  front = ap (take (word_bits C)) f.flipped ∙ take_add (word_bits C) before marked f.enough f.long

  -- the marks are the bits in which the two differ
  differ : add (take (word_bits C) before) (take (word_bits C) after) ≡ marked
  differ = ap (add (take (word_bits C) before)) front ∙ add_back (take (word_bits C) before) marked (long ∙ sym f.long)

  still_enough : word_bits C ≤ length after
  still_enough =
      omega (arith, length-take (word_bits C) after, ap length front, add_length (take (word_bits C) before) marked (long ∙ sym f.long), long)

  pub accepted : (flips : ℕ) → flips ≡ weight marked → flips ≤ errors C → (o : Option ℕ) → o ≡ rest_of_first C after → true ≡ option_eq eqb o (Some 0)
      → Corrected C before after flips
  accepted flips count low o e z = record {
    enough = f.enough;
    near = record { code = codeword C after still_enough (eqb-true (rest C after) 0 (is_0 C after o true still_enough e z)); near = subst (λ (n : ℕ). n ≤ errors C) (count ∙ ap weight (sym differ)) low };
    counts = count ∙ ap weight (sym differ);
    rest = ap (drop (word_bits C)) f.flipped ∙ drop_add (word_bits C) before marked f.enough f.long;
  }

  -- flipped once more, where the outcome is no codeword at most t bits away
  again : (last : List Bool) → last ≡ add after marked → last ≡ before
  again last e = e ∙ ap (λ (w : List Bool). add w marked) f.flipped ∙ add_twice before marked (omega (arith, f.long, f.enough))

  pub too_many_flips : (flips : ℕ) → flips ≡ weight marked → errors C < flips → (last : List Bool) → last ≡ add after marked → LeftAlone C before last
  too_many_flips flips count high last e = record {
    same = again last e;
    none = λ h c q. omega (arith, q.near, ap weight (f.leads c q));
  }

  pub not_a_codeword : (o : Option ℕ) → o ≡ rest_of_first C after → false ≡ option_eq eqb o (Some 0) → (last : List Bool) → last ≡ add after marked → LeftAlone C before last
  not_a_codeword o is z last e = record {
    same = again last e;
    none = λ h c q. no_codeword C after still_enough (eqb-false (rest C after) 0 (is_0 C after o false still_enough is z))
        (subst (WordOf C) (sym (front ∙ ap (add (take (word_bits C) before)) (f.leads c q) ∙ add_back (take (word_bits C) before) c (long ∙ sym q.code.long))) q.code);
  }
