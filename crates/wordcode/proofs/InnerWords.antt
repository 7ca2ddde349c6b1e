-- The inner codewords v of messages.
use Rattle.std.proofs.Common.{◌≡◌, ℕ, ◌+◌, ◌≤◌, Bool, List, [], ◌∷◌, ◌++◌, length, take, drop, sym, ap, ◌∙◌, subst, arith}
use mathlib.Core.Bool.{Bool-discrete}
use mathlib.Core.List.{List-discrete}
use Rattle.std.proofs.lemmas.List.{length-take-le, take-append-drop}
use Rattle.gf2.specs.declared.field.Field.{Field}
use Rattle.gf2.specs.Words.{distance}
use Rattle.gf2.specs.Fields.{width}
use Rattle.gf2.proofs.Sums.{triangle, bits_of_length}
use Rattle.inner.specs.Code.{IsInnerCode, Setting}
use Rattle.pagecode.specs.Groups.{f}
use Rattle.pagecode.specs.InnerData.{inner_data}
use Rattle.wordcode.specs.Codeword.{f_bits, inner}
use Rattle.wordcode.proofs.Added.{lead_length}

-- r2 is the width of the field
pub at_width : {k1 r1 t r2 : ℕ} {F : Field} → Setting k1 r1 t r2 F → Setting k1 r1 t (width F) F
at_width {k1} {r1} {t} {F = F} S = subst (λ (r : ℕ). Setting k1 r1 t r F) S.width_of_a_field S

-- f has r2 bits
pub f_length : {k1 r1 t r2 : ℕ} {F : Field} → Setting k1 r1 t r2 F → (d : List Bool) → length (f_bits F d) ≡ r2
f_length {F = F} S d = bits_of_length (width F) (f F d) ∙ sym S.width_of_a_field

pub inner_data_length : (k : ℕ) (m : List Bool) → length m ≡ k + 1 → length (inner_data m) ≡ k
inner_data_length k [] h = absurd (omega arith)
inner_data_length k (u ∷ w) h = omega (arith, lead_length u w)

module _ {k1 r1 t : ℕ} {Codeword : List Bool → Type 0} {checks : List Bool → List Bool} (I : IsInnerCode k1 r1 t Codeword checks) where
  pub inner_is_a_codeword : (m : List Bool) → length m ≡ k1 + 1 → Codeword (inner checks m)
  inner_is_a_codeword m h = I.data_are_free (inner_data m) (inner_data_length k1 m h)

  pub inner_length : (m : List Bool) → length m ≡ k1 + 1 → length (inner checks m) ≡ k1 + r1
  inner_length m h = I.long (inner checks m) (inner_is_a_codeword m h)

  pub data_length : (c : List Bool) → Codeword c → length (take k1 c) ≡ k1
  data_length c h = length-take-le k1 c (omega (arith, I.long c h))

  -- a codeword is its data bits and their check bits
  pub data_and_checks : (c : List Bool) → Codeword c → c ≡ take k1 c ++ checks (take k1 c)
  data_and_checks c h =
      sym (take-append-drop k1 c)
      ∙ ap (λ (p : List Bool). take k1 c ++ p)
      (I.data_fix_the_checks (take k1 c) (drop k1 c) (data_length c h) (subst Codeword (sym (take-append-drop k1 c)) h))

  -- at most one codeword is at most t bits from a word
  pub only_one_near : (y c d : List Bool) → length y ≡ k1 + r1 → Codeword c → Codeword d → distance y c ≤ t → distance y d ≤ t → c ≡ d
  only_one_near y c d h hc hd nc nd = go (List-discrete Bool-discrete c d)
    where
      go : Dec (c ≡ d) → c ≡ d
      go (yes e) = e
      go (no n) = absurd (omega (arith, nc, nd, I.apart c d hc hd n, triangle y c d (h ∙ sym (I.long c hc))))
