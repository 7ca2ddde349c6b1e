-- The codeword at most one bit away: a wrong bit is the one whose label is the sum.
use Rattle.std.proofs.Common.{◌≡◌, ℕ, zero, suc, ◌+◌, ◌<◌, ◌≤◌, Bool, true, false, not, ◌≢◌, List, [], ◌∷◌, length, get_or, take, set, sym, refl, ap, ◌∙◌, arith}
use lib.Bits.{bit_xor, xor_self, xor_zero_r}
use lib.Seq.{take-set-lt}
use Rattle.std.specs.List.{AllByRecursion as All}
use Rattle.std.proofs.lemmas.List.{length-set, length-take-le, get_or-take, drop-set-lt}
use Rattle.gf2.specs.Words.{add, distance}
use Rattle.gf2.proofs.WordLaws.{distance_is_a_metric}
use Rattle.inner.specs.Nearest.{Near, Corrected}
use Rattle.position.specs.Labels.{label_sum}
use Rattle.position.specs.Code.{all_labels, Codeword}
use Rattle.position.specs.Theory.LabelSums.{sum_add, sum_one}
use Rattle.position.proofs.Flips.{sum_flipped}

distance_flipped : (w : List Bool) (i : ℕ) → i < length w → distance w (set w i (not (get_or w i false))) ≡ 1
distance_flipped [] i h = absurd (omega arith)
distance_flipped (true ∷ w) zero h = ap suc (distance_is_a_metric.none_from_itself w)
distance_flipped (false ∷ w) zero h = ap suc (distance_is_a_metric.none_from_itself w)
distance_flipped (true ∷ w) (suc i) h = distance_flipped w i (omega arith)
distance_flipped (false ∷ w) (suc i) h = distance_flipped w i (omega arith)

module _ (k1 r1 : ℕ) (labels : List ℕ) (long : length (all_labels r1 labels) ≡ k1 + r1) (w : List Bool) (enough : k1 + r1 ≤ length w) where
  abbrev first : List Bool
  first = take (k1 + r1) w

  abbrev sum : ℕ
  sum = label_sum (all_labels r1 labels) first

  first_long : length first ≡ k1 + r1
  first_long = length-take-le (k1 + r1) w enough

  -- a sum of 0: nothing is wrong
  pub right_already : sum ≡ 0 → Corrected (k1 + r1) 1 (Codeword k1 r1 labels) w w 0
  right_already e =
      let none = distance_is_a_metric.none_from_itself first in
      record {
        enough = enough;
        near = record { code = record { long = first_long; cancels = e }; near = omega arith };
        counts = sym none;
        rest = refl;
      }

  -- the sum is the label at i: with that bit flipped the sum is 0
  pub one_wrong : (i : ℕ) → i < length (all_labels r1 labels) → get_or (all_labels r1 labels) i 0 ≡ sum
      → Corrected (k1 + r1) 1 (Codeword k1 r1 labels) w (set w i (not (get_or w i false))) 1
  one_wrong i h e =
      let l : i < k1 + r1 = omega arith in
      let inside : i < length first = omega (arith, first_long) in
      let after : take (k1 + r1) (set w i (not (get_or w i false))) ≡ set first i (not (get_or first i false)) =
      take-set-lt (k1 + r1) w i (not (get_or w i false)) l ∙ ap (λ (b : Bool). set first i (not b)) (sym (get_or-take (k1 + r1) w i false l)) in
      let one : distance first (take (k1 + r1) (set w i (not (get_or w i false)))) ≡ 1 = ap (distance first) after ∙ distance_flipped first i inside in
      record {
        enough = enough;
        near = record {
          code = record {
            long = ap length after ∙ length-set first i (not (get_or first i false)) ∙ first_long;
            cancels = ap (label_sum (all_labels r1 labels)) after ∙ sum_flipped (all_labels r1 labels) first i h inside ∙ ap (λ (a : ℕ). bit_xor a sum) e ∙ xor_self sum;
          };
          near = omega arith;
        };
        counts = sym one;
        rest = drop-set-lt (k1 + r1) w i (not (get_or w i false)) l;
      }

  -- a sum that is neither 0 nor a label: no codeword is near
  pub none_near : sum ≢ 0 → All (λ b. b ≢ sum) (all_labels r1 labels) → (c : List Bool) → Near 1 (Codeword k1 r1 labels) first c → ⊥
  none_near ne all c near =
      sum_one sum (all_labels r1 labels) (add first c) ne all near.near
      (sum_add (all_labels r1 labels) first c (first_long ∙ sym near.code.long) ∙ ap (bit_xor sum) near.code.cancels ∙ xor_zero_r sum)
