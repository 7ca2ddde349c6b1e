-- Which flips pass: a pattern passes where its middle part is an inner codeword and f changes by its last part.
use Rattle.std.proofs.Common.{◌≡◌, ℕ, zero, suc, ◌+◌, ◌-◌, ◌*◌, ◌/◌, ◌<◌, Bool, true, false, ◌≢◌, ◌⊎◌, List, [], ◌∷◌, ◌++◌, length, take, drop, replicate, sym, refl, ap, ◌∙◌, subst, ap₂, inl, inr, zero-lt-suc, mul-div_cancel, arith}
use mathlib.Core.Bool.{Bool-discrete}
use mathlib.Core.List.{List-discrete}
use Rattle.std.proofs.lemmas.List.{length-replicate, take-append-drop, take_at, take-replicate}
use Rattle.gf2.specs.declared.field.Field.{Field}
use Rattle.gf2.specs.Words.{plus, add, weight}
use Rattle.gf2.specs.Fields.{top, width}
use Rattle.gf2.proofs.Sums.{add_comm, add_length, add_back, add_append, add_self, add_zeros, weight_zeros, weight_ones, no_weight}
use Rattle.inner.specs.Code.{IsInnerCode, Setting}
use Rattle.inner.specs.Pages.{word_bits}
use Rattle.pagecode.specs.InnerData.{lead, each}
use Rattle.wordcode.specs.Codeword.{f_bits, inner, laid_out, codeword}
use Rattle.wordcode.specs.Reading.{middle, last_bits}
use Rattle.wordcode.specs.Settling.{message_of}
use Rattle.wordcode.specs.Flips.{Passes, first_two_and_last, filled, ExactlyOne, FlipLaw}
use Rattle.pagecode.proofs.Pairs.{double, pairs_are}
use Rattle.wordcode.proofs.Added.{lead_length, lead_back, each_length, each_zeros}
use Rattle.wordcode.proofs.LaidOut.{laid_out_length, laid_out_add, laid_out_parts, laid_out_is, laid_out_plain, middle_length, last_length}
use Rattle.wordcode.proofs.InnerWords.{at_width, f_length, inner_data_length, inner_is_a_codeword, inner_length, data_length, data_and_checks}
use Rattle.wordcode.proofs.Cuts.{take_add, lead_in, lead_in_length, lead_in_back, filled_length, lead_filled, Changes, OneFilling, one_filling}

abbrev zeros : ℕ → List Bool
zeros n = replicate n false

pattern_is : (n r : ℕ) → 0 < n → first_two_and_last n r ≡ laid_out true (zeros n) (zeros r)
pattern_is zero r h = absurd (omega arith)
pattern_is (suc n) r h =
    ap₂ (λ (i : ℕ) (w : List Bool). true ∷ (true ∷ (zeros i ++ w))) (let e : suc n - 1 ≡ n = omega arith in e) (sym (each_zeros true r))

-- exactly one, through a change of names that is its own reverse
renamed : (r : ℕ) (P Q : List Bool → Type 0) (l : List Bool → List Bool) → ((s : List Bool) → length (l s) ≡ length s) → ((s : List Bool) → l (l s) ≡ s)
    → ((s : List Bool) → length s ≡ r → P (l s) → Q s) → ((s : List Bool) → length s ≡ r → Q s → P (l s)) → ExactlyOne r P → ExactlyOne r Q
renamed r P Q l len back to from o = (
  l o.0,
  len o.0 ∙ o.1,
  to (l o.0) (len o.0 ∙ o.1) (subst P (sym (back o.0)) o.2),
  λ s h q. sym (back s) ∙ ap l (o.3 (l s) (len s ∙ h) (from s h q)),
)

module _ {k1 r1 t : ℕ} {F : Field} {Codeword : List Bool → Type 0} {checks : List Bool → List Bool}
    (I : IsInnerCode k1 r1 t Codeword checks) (S : Setting k1 r1 t (width F) F) where
  abbrev n1 : ℕ
  n1 = k1 + r1

  abbrev r2 : ℕ
  r2 = width F

  pairs : ℕ
  pairs = k1 / (2 * r2)

  cut : k1 ≡ double pairs * r2
  unfolding pairs
  cut = pairs_are k1 r2 S.pairs_of_groups

  abbrev Pattern : List Bool → Type 0
  Pattern e = length e ≡ word_bits k1 r1 r2

  -- the pattern with the parts a, D and E passes the codeword of u and w exactly if D is an inner codeword and adding its data bits changes f by E
  module _ (a : Bool) (D E : List Bool) (hD : length D ≡ n1) (hE : length E ≡ r2) (u : Bool) (w : List Bool) (hw : length w ≡ k1) where
    abbrev d : List Bool
    d = lead u w

    abbrev v : List Bool
    v = inner checks (u ∷ w)

    hm : length (u ∷ w) ≡ k1 + 1
    hm = omega arith

    hd : length d ≡ k1
    hd = lead_length u w ∙ hw

    level : length v ≡ length D
    level = inner_length I (u ∷ w) hm ∙ sym hD

    sum_is : add (codeword F checks (u ∷ w)) (laid_out a D E) ≡ laid_out (plus u a) (add v D) (add (f_bits F d) E)
    sum_is = laid_out_add u a v D (f_bits F d) E level (f_length S d ∙ sym hE)

    passing : Passes k1 F checks (laid_out a D E) (u ∷ w) → Codeword D × Changes F (take k1 D) E d
    passing (([]), h, e) = absurd (omega arith)
    passing ((x ∷ z), h, e) = (
      subst Codeword (ap (add v) (sym parts.1) ∙ add_back v D level) (I.sums_stay_inside v y (inner_is_a_codeword I (u ∷ w) hm) (inner_is_a_codeword I (x ∷ z) h)),
      ap (λ (q : List Bool). add (f_bits F q) (f_bits F d)) first ∙ ap (λ (q : List Bool). add q (f_bits F d)) (sym parts.2)
          ∙ add_comm (add (f_bits F d) E) (f_bits F d) ∙ add_back (f_bits F d) E (f_length S d ∙ sym hE),
    )
      where
        y : List Bool
        y = inner checks (x ∷ z)

        parts : (plus u a ≡ x) × (add v D ≡ y) × (add (f_bits F d) E ≡ f_bits F (lead x z))
        parts =
            laid_out_parts (plus u a) x (add v D) y (add (f_bits F d) E) (f_bits F (lead x z))
            (add_length v D level ∙ level ∙ hD ∙ sym (inner_length I (x ∷ z) h)) (sym sum_is ∙ e)

        first : add d (take k1 D) ≡ lead x z
        first =
            ap (λ (q : List Bool). add q (take k1 D)) (sym (take_at d (checks d) k1 hd)) ∙ sym (take_add k1 v D)
            ∙ ap (take k1) parts.1 ∙ take_at (lead x z) (checks (lead x z)) k1 (inner_data_length k1 (x ∷ z) h)

    passes : Codeword D → Changes F (take k1 D) E d → Passes k1 F checks (laid_out a D E) (u ∷ w)
    passes cD e = (
      message_of x c,
      omega (arith, lead_length x c, hc),
      sum_is ∙ ap₂ (laid_out x) sum tail ∙ ap (λ (q : List Bool). laid_out x (q ++ checks q) (f_bits F q)) (sym (lead_back x c)),
    )
      where
        x : Bool
        x = plus u a

        c : List Bool
        c = add d (take k1 D)

        same : length d ≡ length (take k1 D)
        same = hd ∙ sym (data_length I D cD)

        hc : length c ≡ k1
        hc = add_length d (take k1 D) same ∙ hd

        split : add v D ≡ c ++ add (checks d) (drop k1 D)
        split = ap (add v) (sym (take-append-drop k1 D)) ∙ add_append d (checks d) (take k1 D) (drop k1 D) same

        sum : add v D ≡ c ++ checks c
        sum =
            split
            ∙ ap (λ (q : List Bool). c ++ q)
            (I.data_fix_the_checks c (add (checks d) (drop k1 D)) hc (subst Codeword split (I.sums_stay_inside v D (inner_is_a_codeword I (u ∷ w) hm) cD)))

        tail : add (f_bits F d) E ≡ f_bits F c
        tail = ap (add (f_bits F d)) (sym e ∙ add_comm (f_bits F c) (f_bits F d)) ∙ add_back (f_bits F d) (f_bits F c) (f_length S d ∙ sym (f_length S c))

  zero_codeword : Codeword (zeros n1)
  zero_codeword =
      let c = I.data_are_free (zeros k1) (length-replicate k1 false) in
      let v = zeros k1 ++ checks (zeros k1) in
      subst Codeword (add_self v ∙ ap zeros (I.long v c)) (I.sums_stay_inside v v c c)

  -- data bits all zero: so are the check bits
  zero_data : (D : List Bool) → Codeword D → weight (take k1 D) ≡ 0 → D ≡ zeros n1
  zero_data D cD h =
      data_and_checks I D cD
      ∙ ap (λ (q : List Bool). q ++ checks q)
      (no_weight (take k1 D) h ∙ ap zeros (data_length I D cD) ∙ sym (take-replicate k1 n1 false (omega arith)))
      ∙ sym (data_and_checks I (zeros n1) zero_codeword)

  no_change : (d : List Bool) → length d ≡ k1 → Changes F (take k1 (zeros n1)) (zeros r2) d
  no_change d hd =
      ap (λ (q : List Bool). add (f_bits F q) (f_bits F d)) (ap (add d) (take-replicate k1 n1 false (omega arith)) ∙ add_zeros d k1 (omega arith))
      ∙ add_self (f_bits F d) ∙ ap zeros (f_length S d)

  the_pattern : first_two_and_last n1 r2 ≡ laid_out true (zeros n1) (zeros r2)
  the_pattern = pattern_is n1 r2 (omega (arith, S.a_byte_at_least))

  always : (m : List Bool) → length m ≡ k1 + 1 → Passes k1 F checks (first_two_and_last n1 r2) m
  always [] h = absurd (omega arith)
  always (u ∷ w) h =
      subst (λ (e : List Bool). Passes k1 F checks e (u ∷ w)) (sym the_pattern)
      (passes true (zeros n1) (zeros r2) (length-replicate n1 false) (length-replicate r2 false) u w (omega arith) zero_codeword
      (no_change (lead u w) (inner_data_length k1 (u ∷ w) h)))

  abbrev OnePasses : List Bool → Type 0
  OnePasses e =
      (g : ℕ) × (g < k1 / r2) × ((u : Bool) (w : List Bool) → length w ≡ k1 → ExactlyOne r2 (λ s. Passes k1 F checks e (u ∷ filled r2 g s w)))

  count : k1 / r2 ≡ double pairs
  count = ap (λ (n : ℕ). n / r2) cut ∙ mul-div_cancel (double pairs) (zero-lt-suc (top F))

  one_passes : (a : Bool) (D E : List Bool) → length D ≡ n1 → length E ≡ r2 → 0 < weight (laid_out a D E)
      → laid_out a D E ≢ first_two_and_last n1 r2 → (u : Bool) (w : List Bool) → length w ≡ k1 → Passes k1 F checks (laid_out a D E) (u ∷ w)
      → OnePasses (laid_out a D E)
  one_passes a D E hD hE some other u w hw pass = go (one_filling F pairs (take k1 D) (data_length I D cD ∙ cut))
    where
      cD : Codeword D
      cD = (passing a D E hD hE u w hw pass).0

      none : weight (take k1 D) ≡ 0 → ⊥
      none h = last a refl
        where
          zD : D ≡ zeros n1
          zD = zero_data D cD h

          zE : E ≡ zeros r2
          zE =
              sym (passing a D E hD hE u w hw pass).1 ∙ ap (λ (q : List Bool). add (f_bits F (add (lead u w) (take k1 q))) (f_bits F (lead u w))) zD
              ∙ no_change (lead u w) (lead_length u w ∙ hw)

          last : (b : Bool) → a ≡ b → ⊥
          last true q = other (ap₂ (laid_out a) zD zE ∙ ap (λ (b : Bool). laid_out b (zeros n1) (zeros r2)) q ∙ sym the_pattern)
          last false q =
              omega (
                arith,
                ap weight (ap₂ (laid_out a) zD zE ∙ ap (λ (b : Bool). laid_out b (zeros n1) (zeros r2)) q),
                laid_out_plain (zeros n1) (zeros r2),
                weight_zeros n1,
                weight_zeros r2,
              )

      go : (weight (take k1 D) ≡ 0) ⊎ OneFilling F pairs (take k1 D) → OnePasses (laid_out a D E)
      go (inl h) = absurd (none h)
      go (inr G) = (g, subst (λ (n : ℕ). g < n) (sym count) G.1, one)
        where
          g : ℕ
          g = G.0

          one : (u : Bool) (w : List Bool) → length w ≡ k1 → ExactlyOne r2 (λ s. Passes k1 F checks (laid_out a D E) (u ∷ filled r2 g s w))
          one u w hw =
              renamed r2 (λ s. Changes F (take k1 D) E (filled r2 g s (lead u w))) (λ s. Passes k1 F checks (laid_out a D E) (u ∷ filled r2 g s w))
              (lead_in g u) (lead_in_length g u) (lead_in_back g u)
              (λ s h q. passes a D E hD hE u (filled r2 g s w) (long s h) cD (subst (Changes F (take k1 D) E) (sym (is s h)) q))
              (λ s h q. subst (Changes F (take k1 D) E) (is s h) (passing a D E hD hE u (filled r2 g s w) (long s h) q).1)
              (G.2 (lead u w) E (lead_length u w ∙ hw ∙ cut) hE)
            where
              is : (s : List Bool) → length s ≡ r2 → lead u (filled r2 g s w) ≡ filled r2 g (lead_in g u s) (lead u w)
              is s h = lead_filled r2 (zero-lt-suc (top F)) (double pairs) g u s w G.1 (hw ∙ cut) h

              long : (s : List Bool) → length s ≡ r2 → length (filled r2 g s w) ≡ k1
              long s h = filled_length r2 (double pairs) g s w G.1 (hw ∙ cut) h ∙ sym cut

  others : (e : List Bool) → Pattern e → 0 < weight e → e ≢ first_two_and_last n1 r2
      → (m : List Bool) → length m ≡ k1 + 1 → Passes k1 F checks e m → OnePasses e
  others [] h some other m hm pass = absurd (omega arith)
  others (a ∷ e) h some other [] hm pass = absurd (omega arith)
  others (a ∷ e) h some other (u ∷ w) hm pass =
      subst OnePasses (sym is)
      (one_passes a (middle n1 (a ∷ e)) (each a (last_bits n1 (a ∷ e))) (middle_length n1 r2 (a ∷ e) h)
      (each_length a (last_bits n1 (a ∷ e)) ∙ last_length n1 r2 (a ∷ e) h)
      (subst (λ (q : List Bool). 0 < weight q) is some) (λ q. other (is ∙ q)) u w (omega arith) (subst (λ (q : List Bool). Passes k1 F checks q (u ∷ w)) is pass))
    where
      is : a ∷ e ≡ laid_out a (middle n1 (a ∷ e)) (each a (last_bits n1 (a ∷ e)))
      is = laid_out_is n1 a e

  no_other : (e : List Bool) → Pattern e → 0 < weight e → ((m : List Bool) → length m ≡ k1 + 1 → Passes k1 F checks e m) → e ≡ first_two_and_last n1 r2
  no_other e h some all = go (List-discrete Bool-discrete e (first_two_and_last n1 r2))
    where
      w : List Bool
      w = zeros k1

      hw : length w ≡ k1
      hw = length-replicate k1 false

      -- of zeros and ones, both would be the one filling
      clash : OnePasses e → ⊥
      clash p =
          omega (
            arith,
            ap weight (only (replicate r2 false) (length-replicate r2 false) ∙ sym (only (replicate r2 true) (length-replicate r2 true))),
            weight_zeros r2,
            weight_ones r2,
          )
        where
          only : (s : List Bool) → length s ≡ r2 → s ≡ (p.2 false w hw).0
          only s hs =
              (p.2 false w hw).3 s hs
              (all (false ∷ filled r2 p.0 s w)
              (omega (arith, filled_length r2 (double pairs) p.0 s w (subst (λ (n : ℕ). p.0 < n) count p.1) (hw ∙ cut) hs, cut)))

      go : Dec (e ≡ first_two_and_last n1 r2) → e ≡ first_two_and_last n1 r2
      go (yes q) = q
      go (no q) = absurd (clash (others e h some q (false ∷ w) (omega (arith, hw)) (all (false ∷ w) (omega (arith, hw)))))

pub flip_law : (k1 r1 t r2 : ℕ) (F : Field) (Codeword : List Bool → Type 0) (checks : List Bool → List Bool)
    → IsInnerCode k1 r1 t Codeword checks → Setting k1 r1 t r2 F → FlipLaw k1 r1 F checks
flip_law k1 r1 t n F Codeword checks I S =
    let W = at_width S in
    record {
      the_pattern_is_as_long_as_a_word =
          ap length (the_pattern I W) ∙ laid_out_length true (zeros (k1 + r1)) (zeros (width F))
          ∙ ap₂ (λ (i j : ℕ). 1 + i + j) (length-replicate (k1 + r1) false) (length-replicate (width F) false);
      it_passes_every_codeword = always I W;
      no_other_passes_every_codeword = no_other I W;
      any_other_passes_one_filling_of_a_group = others I W;
    }
