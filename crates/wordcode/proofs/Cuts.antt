-- Words cut into groups: what a change of the word does to its f.
use Rattle.std.proofs.Common.{◌≡◌, ℕ, zero, suc, ◌+◌, ◌-◌, ◌*◌, ◌/◌, ◌^◌, ◌<◌, ◌≤◌, min, Bool, false, ◌⊎◌, List, [], ◌∷◌, ◌++◌, length, take, drop, set, replicate, sym, refl, ap, ◌∙◌, subst, ap₂, inl, inr, zero-lt-suc, suc-mul, mul-div_cancel, arith, pow_mono}
use mathlib.Core.List.{zip_with}
use lib.Bits.{bit_xor}
use Rattle.std.specs.List.{AllByRecursion as All}
use Rattle.std.proofs.lemmas.List.{length-append, length-take, length-take-le, length-drop, length-replicate, take-append-drop, take_at, drop_at}
use Rattle.gf2.specs.declared.field.Field.{Field}
use Rattle.gf2.specs.Words.{plus, add, weight, number, bits_of}
use Rattle.gf2.specs.Fields.{top, width, product}
use Rattle.gf2.specs.Polynomials.{Element}
use Rattle.gf2.proofs.Sums.{add_length, weight_append, weight_zeros, number_lt, number_add, number_zeros, bits_of_length}
use Rattle.gf2.proofs.Digits.{bits_of_xor, bits_of_number, number_bits_of, number_inj}
use Rattle.pagecode.specs.Groups.{groups, sum_of_products}
use Rattle.pagecode.specs.InnerData.{lead}
use Rattle.wordcode.specs.Codeword.{f_bits}
use Rattle.wordcode.specs.Flips.{filled, ExactlyOne}
use Rattle.pagecode.proofs.Pairs.{double}
use Rattle.wordcode.proofs.Added.{lead_length, lead_back, lead_append}
use Rattle.wordcode.proofs.Changes.{change, change_lt, FreeGroup, free_group}

pub take_add : (n : ℕ) (w c : List Bool) → take n (add w c) ≡ add (take n w) (take n c)
take_add zero w c = refl
take_add (suc n) [] c = refl
take_add (suc n) (b ∷ w) [] = refl
take_add (suc n) (b ∷ w) (d ∷ c) = ap (λ (r : List Bool). plus b d ∷ r) (take_add n w c)

drop_add : (n : ℕ) (w c : List Bool) → length w ≡ length c → drop n (add w c) ≡ add (drop n w) (drop n c)
drop_add zero w c h = refl
drop_add (suc n) [] [] h = refl
drop_add (suc n) [] (d ∷ c) h = absurd (omega arith)
drop_add (suc n) (b ∷ w) [] h = absurd (omega arith)
drop_add (suc n) (b ∷ w) (d ∷ c) h = drop_add n w c (omega arith)

-- a bit added to the first bit of the word is added to a filling of the first group
abbrev pub lead_in : ℕ → Bool → List Bool → List Bool
lead_in zero u s = lead u s
lead_in (suc g) u s = s

pub lead_in_length : (g : ℕ) (u : Bool) (s : List Bool) → length (lead_in g u s) ≡ length s
lead_in_length zero u s = lead_length u s
lead_in_length (suc g) u s = refl

pub lead_in_back : (g : ℕ) (u : Bool) (s : List Bool) → lead_in g u (lead_in g u s) ≡ s
lead_in_back zero u s = lead_back u s
lead_in_back (suc g) u s = refl

module _ (r : ℕ) where
  groups_length : (n : ℕ) (w : List Bool) → length (groups r n w) ≡ n
  unfolding groups
  groups_length zero w = refl
  groups_length (suc n) w = ap suc (groups_length n (drop r w))

  groups_elements : (n : ℕ) (w : List Bool) → All (Element r) (groups r n w)
  unfolding groups
  groups_elements zero w = tt
  groups_elements (suc n) w =
      let short : length (take r w) ≤ r = omega (arith, length-take r w) in
      (omega (arith, number_lt (take r w), pow_mono short), groups_elements n (drop r w))

  groups_add : (n : ℕ) (w c : List Bool) → length w ≡ length c → groups r n (add w c) ≡ zip_with bit_xor (groups r n w) (groups r n c)
  unfolding groups zip_with
  groups_add zero w c h = refl
  groups_add (suc n) w c h =
      ap₂ ◌∷◌ (ap number (take_add r w c) ∙ number_add (take r w) (take r c) (length-take r w ∙ ap (min r) h ∙ sym (length-take r c)))
      (ap (groups r n) (drop_add r w c h) ∙ groups_add n (drop r w) (drop r c) (length-drop r w ∙ ap (λ (x : ℕ). x - r) h ∙ sym (length-drop r c)))

  -- groups all 0: no bit set
  groups_none : (n : ℕ) (w : List Bool) → length w ≡ n * r → groups r n w ≡ replicate n 0 → weight w ≡ 0
  unfolding groups
  groups_none zero [] h e = refl
  groups_none zero (b ∷ w) h e = absurd (omega arith)
  groups_none (suc n) w h e =
      ap weight (sym (take-append-drop r w)) ∙ weight_append (take r w) (drop r w)
      ∙ ap₂ ◌+◌ (none (take r w) (cc)) (groups_none n (drop r w) (omega (arith, length-drop r w, suc-mul n r)) (cc))
    where
      none : (w : List Bool) → number w ≡ 0 → weight w ≡ 0
      none w e =
          ap weight (number_inj w (replicate (length w) false) (sym (length-replicate (length w) false)) (e ∙ sym (number_zeros (length w)))) ∙ weight_zeros (length w)

  room : (n : ℕ) (w : List Bool) → length w ≡ suc n * r → r ≤ length w
  room n w h = omega (arith, suc-mul n r)

  less : (n : ℕ) (w : List Bool) → length w ≡ suc n * r → length (drop r w) ≡ n * r
  less n w h = omega (arith, length-drop r w, suc-mul n r)

  pub filled_length : (n g : ℕ) (s w : List Bool) → g < n → length w ≡ n * r → length s ≡ r → length (filled r g s w) ≡ n * r
  filled_length zero g s w hg h hs = absurd (omega arith)
  filled_length (suc n) zero s w hg h hs = omega (arith, length-append s (drop r w), less n w h, suc-mul n r)
  filled_length (suc n) (suc g) s w hg h hs =
      omega (
        arith,
        length-append (take r w) (filled r g s (drop r w)),
        filled_length n g s (drop r w) (omega arith) (less n w h) hs,
        length-take-le r w (room n w h),
        suc-mul n r,
      )

  groups_filled : (n g : ℕ) (s w : List Bool) → g < n → length w ≡ n * r → length s ≡ r → groups r n (filled r g s w) ≡ set (groups r n w) g (number s)
  unfolding groups
  groups_filled zero g s w hg h hs = absurd (omega arith)
  groups_filled (suc n) zero s w hg h hs = ap₂ ◌∷◌ (ap number (take_at s (drop r w) r hs)) (ap (groups r n) (drop_at s (drop r w) r hs))
  groups_filled (suc n) (suc g) s w hg h hs =
      let c = filled r g s (drop r w) in
      let e : length (take r w) ≡ r = length-take-le r w (room n w h) in
      ap₂ ◌∷◌ (ap number (take_at (take r w) c r e)) (ap (groups r n) (drop_at (take r w) c r e) ∙ groups_filled n g s (drop r w) (omega arith) (less n w h) hs)

  pub lead_filled : 0 < r → (n g : ℕ) (u : Bool) (s w : List Bool) → g < n → length w ≡ n * r → length s ≡ r
      → lead u (filled r g s w) ≡ filled r g (lead_in g u s) (lead u w)
  lead_filled pos zero g u s w hg h hs = absurd (omega arith)
  lead_filled pos (suc n) zero u s w hg h hs = lead_append u s (drop r w) (omega arith) ∙ ap (λ (c : List Bool). lead u s ++ c) (behind r pos w)
    where
      behind : (q : ℕ) → 0 < q → (w : List Bool) → drop q w ≡ drop q (lead u w)
      behind zero p w = absurd (omega arith)
      behind (suc q) p [] = refl
      behind (suc q) p (b ∷ w) = refl
  lead_filled pos (suc n) (suc g) u s w hg h hs = both r pos w (room n w h)
    where
      both : (q : ℕ) → 0 < q → (w : List Bool) → q ≤ length w → lead u (take q w ++ filled r g s (drop q w)) ≡ take q (lead u w) ++ filled r g s (drop q (lead u w))
      both zero p w l = absurd (omega arith)
      both (suc q) p [] l = absurd (omega arith)
      both (suc q) p (b ∷ w) l = refl

module _ (F : Field) where
  abbrev r : ℕ
  r = width F

  -- adding d to z changes f by e
  abbrev pub Changes : List Bool → List Bool → List Bool → Type 0
  Changes d e z = add (f_bits F (add z d)) (f_bits F z) ≡ e

  f_change : (n : ℕ) (z d : List Bool) → length z ≡ n * r → length d ≡ n * r
      → add (f_bits F (add z d)) (f_bits F z) ≡ bits_of r (change F (groups r n z) (groups r n d))
  unfolding change
  f_change n z d hz hd =
      let sum : ℕ → List Bool → ℕ = λ i w. sum_of_products (product F) (groups r i w) in
      ap₂ (λ (i j : ℕ). add (bits_of r (sum i (add z d))) (bits_of r (sum j z)))
      (ap (λ (x : ℕ). x / r) (add_length z d (hz ∙ sym hd) ∙ hz) ∙ mul-div_cancel n (zero-lt-suc (top F))) (ap (λ (x : ℕ). x / r) hz ∙ mul-div_cancel n (zero-lt-suc (top F)))
      ∙ sym (bits_of_xor r (sum n (add z d)) (sum n z))
      ∙ ap (λ (vs : List ℕ). bits_of r (bit_xor (sum_of_products (product F) vs) (sum n z))) (groups_add r n z d (hz ∙ sym hd))

  -- a group with one filling for each change of f
  abbrev pub OneFilling : ℕ → List Bool → Type 0
  OneFilling p d =
      (g : ℕ) × (g < double p) × ((z e : List Bool) → length z ≡ double p * r → length e ≡ r → ExactlyOne r (λ s. Changes d e (filled r g s z)))

  pub one_filling : (p : ℕ) (d : List Bool) → length d ≡ double p * r → (weight d ≡ 0) ⊎ OneFilling p d
  one_filling p d hd = go (free_group F p (groups r n d) (groups_length r n d) (groups_elements r n d))
    where
      n : ℕ
      n = double p

      go : (groups r n d ≡ replicate n 0) ⊎ FreeGroup F p (groups r n d) → (weight d ≡ 0) ⊎ OneFilling p d
      go (inl e) = inl (groups_none r n d hd e)
      go (inr k) = inr (g, k.1, one)
        where
          g : ℕ
          g = k.0

          one : (z e : List Bool) → length z ≡ n * r → length e ≡ r → ExactlyOne r (λ s. Changes d e (filled r g s z))
          one z e hz he =
              let o = k.2 (groups r n z) (number e) (groups_length r n z) (subst (λ (i : ℕ). number e < 2 ^ i) he (number_lt e)) in
              let s = bits_of r o.0 in
              let back : number s ≡ o.0 = number_bits_of r o.0 o.1 in (
                s,
                bits_of_length r o.0,
                is s (bits_of_length r o.0) ∙ ap (bits_of r) (ap by back ∙ o.2) ∙ ap (λ (i : ℕ). bits_of i (number e)) (sym he) ∙ bits_of_number e,
                λ y hy q. number_inj y s (hy ∙ sym (bits_of_length r o.0))
                    (o.3 (number y) (subst (λ (i : ℕ). number y < 2 ^ i) hy (number_lt y))
                    (sym (number_bits_of r (by (number y)) (change_lt F (set (groups r n z) g (number y)) (groups r n d))) ∙ ap number (sym (is y hy) ∙ q))
                    ∙ sym back),
              )
            where
              by : ℕ → ℕ
              by x = change F (set (groups r n z) g x) (groups r n d)

              is : (s : List Bool) → length s ≡ r → add (f_bits F (add (filled r g s z) d)) (f_bits F (filled r g s z)) ≡ bits_of r (by (number s))
              is s hs =
                  f_change n (filled r g s z) d (filled_length r n g s z k.1 hz hs) hd
                  ∙ ap (λ (vs : List ℕ). bits_of r (change F vs (groups r n d))) (groups_filled r n g s z k.1 hz hs)
