-- The laws of words and the bits of bytes.
use Rattle.std.proofs.Common.{◌≡◌, ℕ, zero, suc, ◌+◌, ◌≤◌, Bool, true, false, ◌≢◌, List, [], ◌∷◌, length, take, drop, sym, refl, ap, ◌∙◌, subst, ap₂, arith}
use Rattle.std.proofs.lemmas.List.{take_at, drop_at}
use Rattle.gf2.specs.Words.{add, weight, distance, bits, bits_of, bit_number, flipped, number}
use Rattle.gf2.specs.WordLaws.{Bytes, BitsOfBytes, Flipping, DistanceIsAMetric, WordsAreNumbers}
use Rattle.gf2.proofs.Sums.{add_self, add_back, add_zeros, weight_zeros, no_weight, distance_comm, triangle, number_lt, bits_of_length, add_length}
use Rattle.gf2.proofs.Digits.{bits_of_number, number_bits_of}
use Rattle.gf2.proofs.Places.{bits_length, bits_append}
use Rattle.gf2.proofs.Numbered.{flipped_bit, flipped_none}

tell_the_bytes : (cs bs : List ℕ) → Bytes cs → Bytes bs → bits cs ≡ bits bs → cs ≡ bs
tell_the_bytes [] [] hc hb e = refl
tell_the_bytes [] (b ∷ bs) hc hb e = absurd (omega (arith, bits_length [], bits_length (b ∷ bs), ap length e))
tell_the_bytes (c ∷ cs) [] hc hb e = absurd (omega (arith, bits_length [], bits_length (c ∷ cs), ap length e))
tell_the_bytes (c ∷ cs) (b ∷ bs) hc hb e =
    ap₂ ◌∷◌
    (sym (number_bits_of 8 c hc.0) ∙ ap number (first e) ∙ number_bits_of 8 b hb.0)
    (tell_the_bytes cs bs hc.1 hb.1 (rest e))
  where
    first : bits (c ∷ cs) ≡ bits (b ∷ bs) → bits_of 8 c ≡ bits_of 8 b
    first e = unfold bits in (sym (take_at (bits_of 8 c) (bits cs) 8 (bits_of_length 8 c)) ∙ ap (take 8) e ∙ take_at (bits_of 8 b) (bits bs) 8 (bits_of_length 8 b))

    rest : bits (c ∷ cs) ≡ bits (b ∷ bs) → bits cs ≡ bits bs
    rest e = unfold bits in (sym (drop_at (bits_of 8 c) (bits cs) 8 (bits_of_length 8 c)) ∙ ap (drop 8) e ∙ drop_at (bits_of 8 b) (bits bs) 8 (bits_of_length 8 b))

pub bits_of_bytes : BitsOfBytes
bits_of_bytes = record { eight_a_byte = bits_length; appended = bits_append; tell_the_bytes = tell_the_bytes }

pub flipped_length : (w : List Bool) (i : ℕ) → length (flipped w i) ≡ length w
flipped_length [] i = refl
flipped_length (b ∷ w) zero = refl
flipped_length (b ∷ w) (suc zero) = refl
flipped_length (b ∷ w) (suc (suc i)) = ap suc (flipped_length w (suc i))

pub flipped_twice : (w : List Bool) (i : ℕ) → flipped (flipped w i) i ≡ w
flipped_twice [] i = refl
flipped_twice (b ∷ w) zero = refl
flipped_twice (true ∷ w) (suc zero) = refl
flipped_twice (false ∷ w) (suc zero) = refl
flipped_twice (b ∷ w) (suc (suc i)) = ap (λ (r : List Bool). b ∷ r) (flipped_twice w (suc i))

pub flipped_other : (w : List Bool) (i j : ℕ) → i ≢ j → bit_number (flipped w i) j ≡ bit_number w j
flipped_other [] i j h = refl
flipped_other (b ∷ w) zero j h = refl
flipped_other (b ∷ w) (suc zero) zero h = refl
flipped_other (b ∷ w) (suc zero) (suc zero) h = absurd (h refl)
flipped_other (b ∷ w) (suc zero) (suc (suc j)) h = refl
flipped_other (b ∷ w) (suc (suc i)) zero h = refl
flipped_other (b ∷ w) (suc (suc i)) (suc zero) h = refl
flipped_other (b ∷ w) (suc (suc i)) (suc (suc j)) h = flipped_other w (suc i) (suc j) (λ e. h (ap suc e))

pub flipping : Flipping
flipping = record { same_length = flipped_length; twice_is_nothing = flipped_twice; that_bit = flipped_bit; none_to_flip = flipped_none; no_other_bit = flipped_other }

none_only_between_equals : (a b : List Bool) → length a ≡ length b → distance a b ≡ 0 → a ≡ b
none_only_between_equals a b h e =
    sym (add_zeros a (length (add a b)) (omega (arith, add_length a b h))) ∙ ap (add a) (sym (no_weight (add a b) e)) ∙ add_back a b h

pub distance_is_a_metric : DistanceIsAMetric
distance_is_a_metric = record {
  none_from_itself = λ a. ap weight (add_self a) ∙ weight_zeros (length a);
  none_only_between_equals = none_only_between_equals;
  symmetric = distance_comm;
  triangle = λ a b c h l. subst (λ (d : ℕ). distance a c ≤ d + distance b c) (distance_comm b a) (triangle b a c (sym h));
}

pub words_are_numbers : WordsAreNumbers
words_are_numbers = record { below = number_lt; bits_of_its_number = bits_of_number; number_of_its_bits = number_bits_of }
