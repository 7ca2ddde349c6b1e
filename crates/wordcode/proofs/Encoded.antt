-- The message, its check bits and its last bits are the codeword.
use Rattle.std.proofs.Common.{◌≡◌, ℕ, suc, ◌+◌, ◌<◌, ◌≤◌, Bool, false, cond, List, [], ◌∷◌, ◌++◌, length, get_or, take, drop, sym, ap, ◌∙◌, ap₂, arith, length-append, length-drop, take_at, drop_at}
use Rattle.std.proofs.lemmas.List.{append_assoc, length-take-le}
use Rattle.std.proofs.lemmas.Bool.{le-leb}
use Rattle.gf2.specs.declared.field.Field.{Field}
use Rattle.inner.specs.Code.{IsInnerCode}
use Rattle.inner.specs.Checks.{with_checks}
use Rattle.pagecode.specs.InnerData.{lead, each, inner_data, with_inner_data}
use Rattle.wordcode.specs.Codeword.{f_bits, codeword}
use Rattle.wordcode.proofs.Added.{lead_length, lead_back, lead_append}
use Rattle.pagecode.proofs.Copies.{fits}

-- the bits of a message written over the first ones
pub inner_data_first : (k : ℕ) (M O : List Bool) → k + 1 ≤ length M → k ≤ length O → with_inner_data M k O ≡ inner_data (take (k + 1) M) ++ drop k O
inner_data_first k M O hM hO = ap (λ (b : Bool). cond b (inner_data (take (k + 1) M) ++ drop k O) O) (fits M k O hM hO)

-- the codeword begins with the message
pub codeword_is : (F : Field) (checks : List Bool → List Bool) (u : Bool) (w : List Bool) → 0 < length w
    → codeword F checks (u ∷ w) ≡ ((u ∷ w) ++ checks (lead u w)) ++ each u (f_bits F (lead u w))
codeword_is F checks u w h =
    ap (λ (v : List Bool). u ∷ (v ++ each u (f_bits F (lead u w))))
    (lead_append u (lead u w) (checks (lead u w)) (omega (arith, lead_length u w)) ∙ ap (λ (v : List Bool). v ++ checks (lead u w)) (lead_back u w))

module _ {k1 r1 t : ℕ} {Codeword : List Bool → Type 0} {checks : List Bool → List Bool} (I : IsInnerCode k1 r1 t Codeword checks) where
  -- data bits with their check bits behind them
  pub completed : (d R : List Bool) → length d ≡ k1 → k1 + r1 ≤ length (d ++ R) → with_checks k1 r1 checks (d ++ R) ≡ (d ++ checks d) ++ drop (k1 + r1) (d ++ R)
  completed d R hd fit =
      ap (λ (b : Bool). cond b (take k1 (d ++ R) ++ (checks (take k1 (d ++ R)) ++ drop (k1 + r1) (d ++ R))) (d ++ R)) (le-leb (k1 + r1) (length (d ++ R)) fit)
      ∙ ap (λ (e : List Bool). e ++ (checks e ++ drop (k1 + r1) (d ++ R))) (take_at d R k1 hd) ∙ sym (append_assoc d (checks d) (drop (k1 + r1) (d ++ R)))

  checks_length : (d : List Bool) → length d ≡ k1 → length (checks d) ≡ r1
  checks_length d hd = omega (arith, I.long (d ++ checks d) (I.data_are_free d hd), length-append d (checks d))

  pub encoded : (F : Field) (M O V L : List Bool) → 0 < k1 → k1 + 1 ≤ length M → k1 + r1 ≤ length O
      → V ≡ with_checks k1 r1 checks (with_inner_data M k1 O) → L ≡ each (get_or M 0 false) (f_bits F (take k1 V))
      → (take (k1 + 1) M ++ take r1 (drop k1 V)) ++ L ≡ codeword F checks (take (k1 + 1) M)
  encoded F [] O V L pos hM hO eV eL = absurd (omega arith)
  encoded F (u ∷ A) O V L pos hM hO eV eL =
      ap₂ (λ (c l : List Bool). (take (k1 + 1) (u ∷ A) ++ c) ++ l) behind (eL ∙ ap (λ (d : List Bool). each u (f_bits F d)) front)
      ∙ ap (λ (m : List Bool). (m ++ checks d) ++ each u (f_bits F d)) first ∙ sym (codeword_is F checks u w (omega (arith, hw))) ∙ ap (codeword F checks) (sym first)
    where
      w : List Bool
      w = take k1 A

      hw : length w ≡ k1
      hw = length-take-le k1 A (omega arith)

      first : take (k1 + 1) (u ∷ A) ≡ u ∷ w
      first = ap (λ (n : ℕ). take n (u ∷ A)) (let e : k1 + 1 ≡ suc k1 = omega arith in e)

      d : List Bool
      d = lead u w

      hd : length d ≡ k1
      hd = lead_length u w ∙ hw

      R : List Bool
      R = drop k1 O

      is : V ≡ (d ++ checks d) ++ drop (k1 + r1) (d ++ R)
      is =
          eV ∙ ap (with_checks k1 r1 checks) (inner_data_first k1 (u ∷ A) O hM (omega arith) ∙ ap (λ (m : List Bool). inner_data m ++ R) first)
          ∙ completed d R hd (omega (arith, hd, length-append d R, length-drop k1 O))

      whole : V ≡ d ++ (checks d ++ drop (k1 + r1) (d ++ R))
      whole = is ∙ append_assoc d (checks d) (drop (k1 + r1) (d ++ R))

      front : take k1 V ≡ d
      front = ap (take k1) whole ∙ take_at d (checks d ++ drop (k1 + r1) (d ++ R)) k1 hd

      behind : take r1 (drop k1 V) ≡ checks d
      behind =
          ap (λ (v : List Bool). take r1 (drop k1 v)) whole ∙ ap (take r1) (drop_at d (checks d ++ drop (k1 + r1) (d ++ R)) k1 hd)
          ∙ take_at (checks d) (drop (k1 + r1) (d ++ R)) r1 (checks_length d hd)
