-- The laws of an inner code, for the position code of any data labels that differ from one another, from 0 and from the powers of two.
use Rattle.std.specs.Prelude.{◌≡◌, ℕ, ◌+◌, ◌*◌, ◌^◌, ◌<◌, ◌≤◌, Bool, ◌≢◌, List, ◌++◌, length, bit_xor}
use Rattle.std.proofs.Common.{sym, ap, ap₂, ◌∙◌, lt_of_not-le, arith, length-append}
use Rattle.std.specs.Int.Bits.{xor_self}
use Rattle.std.specs.List.{AllByRecursion}
use Rattle.gf2.specs.Words.{add, distance, number, bits_of}
use Rattle.gf2.proofs.Sums.{add_length, bits_of_length}
use Rattle.gf2.proofs.Digits.{bits_of_number, number_bits_of}
use Rattle.gf2.proofs.Vandermonde.{xor_eq}
use Rattle.gf2.proofs.WordLaws.{distance_is_a_metric}
use Rattle.inner.specs.Code.{IsInnerCode}
use Rattle.position.specs.Labels.{label_sum, powers_of_two}
use Rattle.position.specs.Code.{all_labels, Codeword, checks_of}
use Rattle.position.specs.Theory.LabelSums.{sum_add, sum_with_checks, powers_length, sum_lt, Apart, sum_two}

module _ (k1 r1 : ℕ) (labels : List ℕ) (long : length labels ≡ k1) (below : AllByRecursion (λ a. a < 2 ^ r1) labels) (apart : Apart (all_labels r1 labels)) where
  labels_length : length (all_labels r1 labels) ≡ k1 + r1
  labels_length = omega (arith, length-append labels (powers_of_two r1), powers_length r1)

  completed : (d : List Bool) → length d ≡ k1 → Codeword k1 r1 labels (d ++ checks_of r1 labels d)
  completed d h =
      let s = label_sum labels d in
      record {
        long = length-append d (bits_of r1 s) ∙ ap₂ ◌+◌ h (bits_of_length r1 s);
        cancels =
            sum_with_checks r1 labels d (bits_of r1 s) (h ∙ sym long) (bits_of_length r1 s) ∙ ap (bit_xor s) (number_bits_of r1 s (sum_lt r1 labels d below)) ∙ xor_self s;
      }

  fixed : (d p : List Bool) → length d ≡ k1 → Codeword k1 r1 labels (d ++ p) → p ≡ checks_of r1 labels d
  fixed d p h c =
      let hp : length p ≡ r1 = omega (arith, c.long, length-append d p) in
      let e : number p ≡ label_sum labels d = sym (xor_eq (label_sum labels d) (number p) (sym (sum_with_checks r1 labels d p (h ∙ sym long) hp) ∙ c.cancels)) in
      sym (bits_of_number p) ∙ ap₂ bits_of hp e

  sums : (c d : List Bool) → Codeword k1 r1 labels c → Codeword k1 r1 labels d → Codeword k1 r1 labels (add c d)
  sums c d hc hd =
      let l = hc.long ∙ sym hd.long in
      record {
        long = add_length c d l ∙ hc.long;
        cancels = sum_add (all_labels r1 labels) c d l ∙ ap₂ bit_xor hc.cancels hd.cancels;
      }

  distant : (c d : List Bool) → Codeword k1 r1 labels c → Codeword k1 r1 labels d → c ≢ d → 2 * 1 + 1 ≤ distance c d
  distant c d hc hd ne =
      let e = sums c d hc hd in
      let far : distance c d ≤ 2 → ⊥ =
      λ few. ne (distance_is_a_metric.none_only_between_equals c d (hc.long ∙ sym hd.long)
      (sum_two (all_labels r1 labels) (add c d) (e.long ∙ sym labels_length) apart few e.cancels)) in
      let more = lt_of_not-le far in
      omega arith

  pub inner_code : IsInnerCode k1 r1 1 (Codeword k1 r1 labels) (checks_of r1 labels)
  inner_code = record {
    corrects_some = omega arith;
    long = λ c h. h.long;
    data_are_free = completed;
    data_fix_the_checks = fixed;
    sums_stay_inside = sums;
    apart = distant;
  }
