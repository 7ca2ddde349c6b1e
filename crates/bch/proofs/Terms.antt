-- The value of a polynomial at a point, and its terms there, kept from point to point.
use Rattle.std.proofs.Common.{◌≡◌, ℕ, suc, ◌%◌, ◌^◌, ◌<◌, ◌≤◌, Bool, cond, ◌≢◌, List, [], ◌∷◌, length, get_or, eqb, fold, reverse, sym, ap, ◌∙◌, subst, ap₂, mod-lt, mod-eq_of_lt, arith, pow_pos, refl, false, ◌+◌}
use lib.Bits.{bit_xor, xor_comm, xor_zero_r}
use Rattle.std.proofs.lemmas.Bool.{ne_eqb}
use Rattle.std.proofs.lemmas.List.{reverse-append}
use Rattle.std.proofs.lemmas.List.Sums.{fold-append}
use Rattle.std.proofs.lemmas.Nat.{xor_mod}
use Rattle.gf2.specs.declared.field.Field.{Field}
use Rattle.gf2.specs.Fields.{alpha, sum, product, power, width}
use Rattle.gf2.specs.Polynomials.{power as power_under}
use Rattle.gf2.proofs.Five as five
use Rattle.gf2.proofs.PowerLaws as powers
use Rattle.bch.specs.Elimination.{against, sequence}
use Rattle.bch.specs.Decoding.{all_vanish, running_value, TermsAt}
use Rattle.bch.proofs.Rows.{terms_add_up}

-- 1 times a is its low bits
one_times : (F : Field) (a : ℕ) → a % 2 ^ width F ≡ product F 1 a
one_times F a =
    let r = five.ring F in
    let e = a % 2 ^ width F in
    sym (r.commutative 1 a ∙ sym (r.low_bits_count a 1) ∙ r.commutative e 1 ∙ r.unit e (mod-lt a (pow_pos (width F))))

pub low_bits : (F : Field) (a : ℕ) → sum F a 0 ≡ product F 1 a
low_bits F a = ap (λ (x : ℕ). x % 2 ^ width F) (xor_zero_r a) ∙ one_times F a

pub at_one : (F : Field) (a k : ℕ) → product F a 1 ≡ product F a (power F 1 k)
at_one F a k = ap (product F a) (sym (powers.power_of_one (width F) (product F) (five.ring F) (five.field F).nontrivial k))

pub same_terms : (F G : Field) (p q : List ℕ) (y z : ℕ) (xs : List ℕ) → F ≡ G → p ≡ q → y ≡ z → TermsAt F p y xs → TermsAt G q z xs
same_terms F G p q y z xs eF ep ey t =
    subst (λ (K : Field). TermsAt K q z xs) eF (subst (λ (r : List ℕ). TermsAt F r z xs) ep (subst (λ (x : ℕ). TermsAt F p x xs) ey t))

-- alpha^k times the term k at y is that at alpha y
pub moved_on : (F G : Field) (p xs ys : List ℕ) (y z : ℕ) → G ≡ F → z ≡ product G alpha y → TermsAt F p y xs
    → ((k : ℕ) → k < 6 → sequence ys k ≡ product G (power G alpha k) (sequence xs k)) → TermsAt F p z ys
moved_on F G p xs ys y z eF e t h = record {
  six = t.six;
  each = λ k l. h k l ∙ ap (λ (K : Field). product K (power K alpha k) (sequence xs k)) eF ∙ ap (product F (power F alpha k)) (t.each k l)
      ∙ powers.swap (width F) (product F) (five.ring F) (power F alpha k) (sequence p k) (power F y k)
      ∙ ap (product F (sequence p k))
      (sym (powers.power_product (width F) (product F) (five.ring F) (five.field F).nontrivial alpha y k) ∙ ap (λ (x : ℕ). power F x k) (sym (e ∙ ap (λ (K : Field). product K alpha y) eF)));
}

module _ (F : Field) (y : ℕ) where
  -- each power one higher
  higher : (p : List ℕ) (i : ℕ) → against (product F) p (power F y) (suc i) ≡ product F y (against (product F) p (power F y) i)
  unfolding against power_under
  higher [] i = sym ((five.ring F).zero_product y)
  higher (c ∷ p) i =
      ap₂ bit_xor (powers.swap (width F) (product F) (five.ring F) c y (power F y i)) (higher p (suc i))
      ∙ sym ((five.ring F).distributive y (product F c (power F y i)) (against (product F) p (power F y) (suc i)))

  step : (v c : ℕ) → sum F (product F v y) c ≡ bit_xor (product F c 1) (product F y v)
  step v c =
      let r = five.ring F in
      xor_mod (product F v y) c (width F)
      ∙ ap₂ bit_xor (mod-eq_of_lt (r.closed v y) ∙ r.commutative v y) (one_times F c ∙ r.commutative 1 c)
      ∙ xor_comm (product F y v) (product F c 1)

  pub value_is : (p : List ℕ) → running_value F y p ≡ against (product F) p (power F y) 0
  unfolding against power_under
  value_is [] = refl
  value_is (c ∷ p) =
      ap (fold (λ (v c : ℕ). sum F (product F v y) c) 0) (reverse-append (c ∷ []) p)
      ∙ fold-append (λ (v c : ℕ). sum F (product F v y) c) 0 (reverse p) (c ∷ [])
      ∙ step (running_value F y p) c
      ∙ ap (λ (x : ℕ). bit_xor (product F c 1) x) (ap (product F y) (value_is p) ∙ sym (higher p 0))

-- where the first polynomial's terms do not add up to 0, not all the polynomials are 0
pub first_fails : (F : Field) (ps : List (List ℕ)) (xs : List ℕ) (y : ℕ) → 1 ≤ length ps → length xs ≡ 6 → TermsAt F (get_or ps 0 []) y xs
    → fold bit_xor 0 xs ≢ 0 → eqb (fold bit_xor 0 xs) 0 ≡ all_vanish (product F) ps y
unfolding all_vanish
first_fails F [] xs y h l t ne = absurd (omega arith)
first_fails F (p ∷ ps) xs y h l t ne =
    ne_eqb (fold bit_xor 0 xs) 0 ne
    ∙ sym (ap (λ (b : Bool). cond b (all_vanish (product F) ps y) false)
    (ne_eqb (against (product F) p (power F y) 0) 0 (λ e. ne (terms_add_up (product F) p xs (power F y) 0 0 (l ∙ sym t.six)
    (λ k u. t.each k (omega (arith, t.six)) ∙ ap (λ (j : ℕ). product F (get_or p k 0) (power F y j)) (let e : k ≡ 0 + k = omega arith in e)) ∙ e))))
