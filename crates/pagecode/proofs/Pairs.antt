-- The sum of products grows by one product with each pair of groups.
use Rattle.std.proofs.Common.{◌≡◌, ℕ, zero, suc, ◌+◌, ◌-◌, ◌*◌, ◌/◌, ◌%◌, ◌^◌, ◌<◌, ◌≤◌, Bool, true, false, cond, leb, List, [], ◌∷◌, ◌++◌, length, take, drop, Some, None, Ok, Err, Option, sym, refl, ap, ◌∙◌, ap₂, mod-eq_of_lt, zero-lt-suc, mul_assoc, suc-mul, add_comm, div-add-mod', mul-div_cancel, add-one, arith, pow_pos}
use native.Mathlib.Nat.{add-mul-div_right, zero-div}
use lib.Bits.{bit_xor, xor_assoc, xor_zero_r, xor_lt}
use Rattle.std.proofs.lemmas.List.{take-take, take-append-le, take_at, take_all, drop-drop, drop-take, drop-append-le, drop_at, length-take-le, length-drop, length-append, nil_from_length}
use Rattle.std.proofs.lemmas.Bool.{eq-eqb, le-leb, leb-true}
use Rattle.gf2.specs.declared.field.Field.{Field}
use Rattle.gf2.specs.Words.{number}
use Rattle.gf2.specs.Fields.{top, width, field_of, sum, product}
use Rattle.gf2.proofs.Five.{ring}
use Rattle.pagecode.specs.GroupLaws.{SumOverPairs}
use Rattle.pagecode.specs.Groups.{groups, sum_of_products, f, product_behind, pairs_of_groups, f_over, f_of_first}
use Rattle.pagecode.specs.declared.nonlinear.Misfit.TheVariants.{Length}

-- twice p, as the groups of p pairs
abbrev pub double : ℕ → ℕ
double zero = zero
double (suc p) = suc (suc (double p))

pub double_is : (p : ℕ) → double p ≡ p * 2
double_is zero = refl
double_is (suc p) = omega (arith, double_is p)

module _ (m : ℕ → ℕ → ℕ) (r : ℕ) where
  -- the product of the two groups behind the first s bits
  abbrev pub next : List Bool → ℕ → ℕ
  next w s = m (number (take r (drop s w))) (number (take r (drop (s + r) w)))

  next_shifted : (w : List Bool) (s : ℕ) → next (drop r (drop r w)) s ≡ next w (r + r + s)
  next_shifted w s =
      ap₂ m (ap (λ (v : List Bool). number (take r v)) (behind s (r + r + s) (omega arith)))
      (ap (λ (v : List Bool). number (take r v)) (behind (s + r) (r + r + s + r) (omega arith)))
    where
      behind : (i j : ℕ) → r + r + i ≡ j → drop i (drop r (drop r w)) ≡ drop j w
      behind i j e =
          ap (drop i) (drop-drop r r w) ∙ drop-drop i (r + r) w ∙ ap (λ (k : ℕ). drop k w) e

  -- one pair more
  pub one_more : (p : ℕ) (w : List Bool)
      → sum_of_products m (groups r (double (suc p)) w) ≡ bit_xor (sum_of_products m (groups r (double p) w)) (next w (double p * r))
  unfolding sum_of_products groups
  one_more zero w =
      xor_zero_r (m (number (take r w)) (number (take r (drop r w))))
      ∙ ap₂ (λ (i j : ℕ). m (number (take r (drop i w))) (number (take r (drop j w)))) (let e : 0 ≡ 0 * r = omega arith in e) (let e : r ≡ 0 * r + r = omega arith in e)
  one_more (suc p) w =
      let a = m (number (take r w)) (number (take r (drop r w))) in
      let rest = drop r (drop r w) in
      ap (bit_xor a) (one_more p rest ∙ ap (bit_xor (sum_of_products m (groups r (double p) rest))) (next_shifted w (double p * r) ∙ ap (next w) place))
      ∙ sym (xor_assoc a (sum_of_products m (groups r (double p) rest)) (next w (double (suc p) * r)))
    where
      place : r + r + double p * r ≡ double (suc p) * r
      place = omega (arith, suc-mul (suc (double p)) r, suc-mul (double p) r)

-- groups that lie in the first k bits are those of the word
pub groups_take : (r n k : ℕ) (w : List Bool) → n * r ≤ k → groups r n (take k w) ≡ groups r n w
unfolding groups
groups_take r zero k w h = refl
groups_take r (suc n) k w h =
    let room : r ≤ k = omega (arith, suc-mul n r) in
    ap₂ ◌∷◌ (ap number (take-take r k w room))
    (ap (groups r n) (ap (λ (i : ℕ). drop r (take i w)) (let e : k ≡ r + (k - r) = omega arith in e) ∙ drop-take r (k - r) w)
    ∙ groups_take r n (k - r) (drop r w) (omega (arith, suc-mul n r)))

-- k bits that are pairs of groups
pub pairs_are : (k r : ℕ) → k % (2 * r) ≡ 0 → k ≡ double (k / (2 * r)) * r
pairs_are k r h =
    sym (div-add-mod' k (2 * r)) ∙ ap (λ (x : ℕ). k / (2 * r) * (2 * r) + x) h ∙ (let e : k / (2 * r) * (2 * r) + 0 ≡ k / (2 * r) * (2 * r) = omega arith in e)
    ∙ sym (mul_assoc (k / (2 * r)) 2 r) ∙ ap (λ (x : ℕ). x * r) (sym (double_is (k / (2 * r))))

pub double_room : (p r : ℕ) → double p * r ≡ p * (2 * r)
double_room p r = ap (λ (x : ℕ). x * r) (double_is p) ∙ mul_assoc p 2 r

-- the sum over all pairs of the first k bits is f
pub whole : (F : Field) (w : List Bool) (k : ℕ) → k % (2 * width F) ≡ 0 → k ≤ length w
    → sum_of_products (product F) (groups (width F) (double (k / (2 * width F))) w) ≡ f F (take k w)
whole F w k h l =
    let r = width F in
    let n = double (k / (2 * r)) in
    let count : n ≡ length (take k w) / r =
    sym (mul-div_cancel n (zero-lt-suc (top F))) ∙ ap (λ (x : ℕ). x / r) (sym (pairs_are k r h) ∙ sym (length-take-le k w l)) in
    ap (sum_of_products (product F))
    (sym (groups_take r n k w (omega (arith, pairs_are k r h))) ∙ ap (λ (i : ℕ). groups r i (take k w)) count)

pub sum_lt : (F : Field) (s : List ℕ) → sum_of_products (product F) s < 2 ^ width F
unfolding sum_of_products
sum_lt F [] = pow_pos (width F)
sum_lt F (a ∷ []) = pow_pos (width F)
sum_lt F (a ∷ (b ∷ s)) = xor_lt (width F) (product F a b) (sum_of_products (product F) s) ((ring F).closed a b) (sum_lt F s)

-- what an answer of the product says
pub behind : (F : Field) (w : List Bool) (s x : ℕ) → Some x ≡ product_behind F w s → (s + 2 * width F ≤ length w) × (x ≡ next (product F) (width F) w s)
behind F w s x e = go (leb (s + 2 * width F) (length w)) refl e
  where
    go : (b : Bool) → leb (s + 2 * width F) (length w) ≡ b → Some x ≡ cond b (Some (next (product F) (width F) w s)) None
        → (s + 2 * width F ≤ length w) × (x ≡ next (product F) (width F) w s)
    go true t e = (leb-true (s + 2 * width F) (length w) t, cc)
    go false t e = let z : ◌≡◌ {A = ℕ} 0 1 = cc in absurd (omega arith)

-- one turn: the sum of the first p pairs and the product of the next
pub turn : (F : Field) (w : List Bool) (p x : ℕ) → Some x ≡ product_behind F w (p * (2 * width F))
    → (sum F (sum_of_products (product F) (groups (width F) (double p) w)) x ≡ sum_of_products (product F) (groups (width F) (double (p + 1)) w))
    × (double (p + 1) * width F ≤ length w)
turn F w p x e =
    let r = width F in
    let b = behind F w (p * (2 * r)) x e in
    let before = sum_of_products (product F) (groups r (double p) w) in
    let at : x ≡ next (product F) r w (double p * r) = b.1 ∙ ap (next (product F) r w) (sym (double_room p r)) in
    let low : bit_xor before (next (product F) r w (double p * r)) < 2 ^ r =
    xor_lt r before (next (product F) r w (double p * r)) (sum_lt F (groups r (double p) w))
    ((ring F).closed (number (take r (drop (double p * r) w))) (number (take r (drop (double p * r + r) w)))) in (
      ap (λ (y : ℕ). bit_xor before y % 2 ^ r) at ∙ mod-eq_of_lt low ∙ sym (one_more (product F) r p w)
          ∙ ap (λ (i : ℕ). sum_of_products (product F) (groups r (double i) w)) (sym (add-one p)),
      omega (arith, b.0, double_room (p + 1) r, ap (λ (i : ℕ). i * (2 * r)) (add-one p), suc-mul p (2 * r)),
    )

-- the answer where the first k bits are pairs of groups
pub f_of_pairs : (F : Field) (w : List Bool) (k : ℕ) → k % (2 * width F) ≡ 0 → k ≤ length w → Ok (f F (take k w)) ≡ f_over (Some F) w k
f_of_pairs F w k h l = sym (ap (λ (b : Bool). cond b (Ok (f F (take k w))) (Err Length)) fits)
  where
    fits : pairs_of_groups F w k ≡ true
    fits = ap (λ (b : Bool). cond b (leb k (length w)) false) (eq-eqb (k % (2 * width F)) 0 h) ∙ le-leb k (length w) l

-- the same, of the width's field
pub answers_f : (w : List Bool) (k m : ℕ) (F : Field) → field_of m ≡ Some F → k % (2 * width F) ≡ 0 → k ≤ length w → Ok (f F (take k w)) ≡ f_of_first w k m
answers_f w k m F is h l = f_of_pairs F w k h l ∙ ap (λ (o : Option Field). f_over o w k) (sym is)

-- the sum over the pairs of a, and then over those of b
joined : (m : ℕ → ℕ → ℕ) (r p n : ℕ) (a b : List Bool) → length a ≡ double p * r
    → sum_of_products m (groups r (double p + n) (a ++ b)) ≡ bit_xor (sum_of_products m (groups r (double p) a)) (sum_of_products m (groups r n b))
unfolding sum_of_products groups
joined m r zero n a b h =
    ap₂ (λ (i : ℕ) (w : List Bool). sum_of_products m (groups r i w)) (let e : 0 + n ≡ n = omega arith in e)
    (ap (λ (v : List Bool). v ++ b) (nil_from_length a (omega arith)))
joined m r (suc p) n a b h =
    let l : length a ≡ r + (r + double p * r) = omega (arith, suc-mul (suc (double p)) r, suc-mul (double p) r) in
    let a1 = drop r a in
    let l1 : length a1 ≡ r + double p * r = omega (arith, length-drop r a) in
    ap (λ (i : ℕ). sum_of_products m (groups r i (a ++ b))) (let e : suc (suc (double p)) + n ≡ suc (suc (double p + n)) = omega arith in e)
    ∙ ap₂ bit_xor
    (ap₂ (λ (x y : List Bool). m (number x) (number (take r y))) (take-append-le r a b (omega arith)) (drop-append-le r a b (omega arith))
    ∙ ap (λ (x : List Bool). m (number (take r a)) (number x)) (take-append-le r a1 b (omega arith)))
    (ap (λ (v : List Bool). sum_of_products m (groups r (double p + n) v))
    (ap (drop r) (drop-append-le r a b (omega arith)) ∙ drop-append-le r a1 b (omega arith))
    ∙ joined m r p n (drop r a1) b (omega (arith, length-drop r a1)))
    ∙ sym (xor_assoc (m (number (take r a)) (number (take r a1))) (sum_of_products m (groups r (double p) (drop r a1))) (sum_of_products m (groups r n b)))

adds_up : (F : Field) (a b : List Bool) → length a % (2 * width F) ≡ 0 → f F (a ++ b) ≡ bit_xor (f F a) (f F b)
adds_up F a b h =
    let r = width F in
    let p = length a / (2 * r) in
    let l : length a ≡ double p * r = pairs_are (length a) r h in
    let here : length a / r ≡ double p = ap (λ (x : ℕ). x / r) l ∙ mul-div_cancel (double p) (zero-lt-suc (top F)) in
    let whole_length : length (a ++ b) / r ≡ double p + length b / r =
    ap (λ (x : ℕ). x / r) (length-append a b ∙ ap (λ (x : ℕ). x + length b) l ∙ add_comm (double p * r) (length b))
    ∙ add-mul-div_right (length b) (double p) (zero-lt-suc (top F)) ∙ add_comm (length b / r) (double p) in
    ap (λ (i : ℕ). sum_of_products (product F) (groups r i (a ++ b))) whole_length
    ∙ joined (product F) r p (length b / r) a b l
    ∙ ap (λ (i : ℕ). bit_xor (sum_of_products (product F) (groups r i a)) (f F b)) (sym here)

pub sum_over_pairs : (F : Field) → SumOverPairs F
sum_over_pairs F = record {
  element = λ w. sum_lt F (groups (width F) (length w / width F) w);
  of_nothing = nothing;
  of_a_pair = λ a b la lb. pair a b la lb;
  adds_up = adds_up F;
}
  where
    nothing : f F [] ≡ 0
    nothing = unfold sum_of_products groups in ap (λ (i : ℕ). sum_of_products (product F) (groups (width F) i [])) (zero-div (width F))

    pair : (a b : List Bool) → length a ≡ width F → length b ≡ width F → f F (a ++ b) ≡ product F (number a) (number b)
    pair a b la lb =
        let r = width F in
        let two : length (a ++ b) / r ≡ 2 =
        ap (λ (x : ℕ). x / r) (length-append a b ∙ (let e : length a + length b ≡ 2 * r = omega arith in e)) ∙ mul-div_cancel 2 (zero-lt-suc (top F)) in
        ap (λ (i : ℕ). sum_of_products (product F) (groups r i (a ++ b))) two ∙ one_pair
        ∙ ap₂ (λ (x y : List Bool). product F (number x) (number (take r y))) (take_at a b r la) (drop_at a b r la)
        ∙ ap (λ (y : List Bool). product F (number a) (number y)) (take_all r b (omega arith))
      where
        one_pair : sum_of_products (product F) (groups (width F) 2 (a ++ b)) ≡ product F (number (take (width F) (a ++ b))) (number (take (width F) (drop (width F) (a ++ b))))
        one_pair = unfold sum_of_products groups in xor_zero_r (product F (number (take (width F) (a ++ b))) (number (take (width F) (drop (width F) (a ++ b)))))
