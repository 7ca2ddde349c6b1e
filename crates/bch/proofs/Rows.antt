-- The elimination's steps on lists, as the code takes them.
use Rattle.std.proofs.Common.{◌≡◌, ℕ, zero, suc, ◌+◌, ◌-◌, ◌<◌, ◌≤◌, Bool, true, false, cond, not, ◌&&◌, eqb, eq-eqb, ◌≢◌, List, [], ◌∷◌, ◌++◌, length, get_or, take, drop, set, Some, None, sym, refl, ap, ◌∙◌, ap₂, arith, length-append, length-drop}
use lib.Bits.{bit_xor, xor_assoc, xor_zero_r}
use Rattle.std.specs.List.{fold, list_all, position, position_from, zip}
use Rattle.std.proofs.lemmas.Bool.{eqb-true, false≢true, ne_eqb, true≢false}
use Rattle.std.proofs.lemmas.Iterator.Adapters.{position_from-zero}
use Rattle.std.proofs.lemmas.List.{append-nil, append_assoc, drop_all, drop_more, drop-set-lt, get_or-drop, drop-drop, length-take-le, take_all, take_at, take_more_set}
use Rattle.std.proofs.lemmas.List.Quantifiers.{position-Some}
use Rattle.std.proofs.Math.Seq.{take-append-add}
use Rattle.gf2.specs.Polynomials.{power}
use Rattle.bch.specs.Decoding.{all_vanish}
use Rattle.bch.specs.Elimination.{against, add_scaled, cleared, met_one, sequence}

-- a number that is not 0, as the search for the first tests it
unless_0 : (x : ℕ) → not (eqb x 0) ≡ true → x ≢ 0
unless_0 x h e = false≢true (sym (ap not (eq-eqb x 0 e)) ∙ h)

if_0 : (x : ℕ) → not (eqb x 0) ≡ false → x ≡ 0
if_0 x h = eqb-true x 0 (go (eqb x 0) h)
  where
    go : (b : Bool) → not b ≡ false → b ≡ true
    go true h = refl
    go false h = absurd (true≢false h)

-- what a write behind j leaves
written : (xs qs os : List (List ℕ)) (j : ℕ) → xs ≡ qs → j ≤ length qs → length os ≡ length xs - j
    → take (length qs) ((take j xs ++ (os ++ drop (length xs - j) (drop j xs))) ++ drop (length (take j xs ++ (os ++ drop (length xs - j) (drop j xs)))) qs) ≡ take j qs ++ os
written xs qs os j e h l =
    let none : drop (length xs - j) (drop j xs) ≡ [] = drop_all (length xs - j) (drop j xs) (omega (arith, length-drop j xs)) in
    let all : take j xs ++ (os ++ drop (length xs - j) (drop j xs)) ≡ take j qs ++ os =
    ap₂ (λ (x y : List (List ℕ)). take j x ++ (os ++ y)) e none ∙ ap (λ (y : List (List ℕ)). take j qs ++ y) (append-nil os) in
    take_at (take j xs ++ (os ++ drop (length xs - j) (drop j xs))) (drop (length (take j xs ++ (os ++ drop (length xs - j) (drop j xs)))) qs) (length qs)
    (ap length all ∙ (let n : length (take j qs ++ os) ≡ length qs = omega (arith, length-append (take j qs) os, length-take-le j qs h, ap length e) in n))
    ∙ all

module _ (m : ℕ → ℕ → ℕ) where
  dot_from : (p s : List ℕ) (i a : ℕ) → i + length p ≤ length s → fold (λ (sum : ℕ) (x : ℕ × ℕ). bit_xor sum (m x.0 x.1)) a (zip p (drop i s)) ≡ bit_xor a (against m p (sequence s) i)
  unfolding against
  dot_from [] s i a h = sym (xor_zero_r a)
  dot_from (c ∷ p) s i a h =
      ap (λ (ys : List ℕ). fold (λ (sum : ℕ) (x : ℕ × ℕ). bit_xor sum (m x.0 x.1)) a (zip (c ∷ p) ys)) (drop_more s i 0 (omega arith))
      ∙ ap (λ (j : ℕ). fold (λ (sum : ℕ) (x : ℕ × ℕ). bit_xor sum (m x.0 x.1)) (bit_xor a (m c (get_or s i 0))) (zip p (drop j s))) (let e : i + 1 ≡ suc i = omega arith in e)
      ∙ dot_from p s (suc i) (bit_xor a (m c (get_or s i 0))) (omega arith)
      ∙ xor_assoc a (m c (get_or s i 0)) (against m p (sequence s) (suc i))

  -- the products with the members from i on
  pub dot_is_against : (p s part : List ℕ) (i : ℕ) → part ≡ drop i s → i + length p ≤ length s
      → fold (λ (sum : ℕ) (x : ℕ × ℕ). bit_xor sum (m x.0 x.1)) 0 (zip p part) ≡ against m p (sequence s) i
  dot_is_against p s part i e h = ap (λ (ys : List ℕ). fold (λ (sum : ℕ) (x : ℕ × ℕ). bit_xor sum (m x.0 x.1)) 0 (zip p ys)) e ∙ dot_from p s i 0 h

  -- the sum of a polynomial's terms
  pub terms_add_up : (p xs : List ℕ) (s : ℕ → ℕ) (i a : ℕ) → length xs ≡ length p → ((k : ℕ) → k < length p → get_or xs k 0 ≡ m (get_or p k 0) (s (i + k)))
      → fold bit_xor a xs ≡ bit_xor a (against m p s i)
  unfolding against
  terms_add_up [] [] s i a l h = sym (xor_zero_r a)
  terms_add_up [] (x ∷ xs) s i a l h = absurd (omega arith)
  terms_add_up (c ∷ p) [] s i a l h = absurd (omega arith)
  terms_add_up (c ∷ p) (x ∷ xs) s i a l h =
      terms_add_up p xs s (suc i) (bit_xor a x) (omega arith) (λ k u. h (suc k) (omega arith) ∙ ap (λ (j : ℕ). m (get_or p k 0) (s j)) (let e : i + suc k ≡ suc i + k = omega arith in e))
      ∙ ap (λ (y : ℕ). bit_xor (bit_xor a y) (against m p s (suc i))) (h 0 (omega arith) ∙ ap (λ (j : ℕ). m c (s j)) (let e : i + 0 ≡ i = omega arith in e))
      ∙ xor_assoc a (m c (s i)) (against m p s (suc i))

  -- a sum of multiples by its coefficients
  pub add_scaled_is : (a : ℕ) (p q r : List ℕ) → length p ≡ length q → length r ≡ length q
      → ((k : ℕ) → k < length q → get_or r k 0 ≡ bit_xor (m a (get_or p k 0)) (get_or q k 0)) → r ≡ add_scaled m a p q
  unfolding add_scaled
  add_scaled_is a [] [] [] l n h = refl
  add_scaled_is a (c ∷ p) (d ∷ q) (e ∷ r) l n h = ap₂ ◌∷◌ (h 0 (omega arith)) (add_scaled_is a p q r (omega arith) (omega arith) (λ k u. h (suc k) (omega arith)))
  add_scaled_is a [] [] (e ∷ r) l n h = absurd (omega arith)
  add_scaled_is a [] (d ∷ q) r l n h = absurd (omega arith)
  add_scaled_is a (c ∷ p) [] r l n h = absurd (omega arith)
  add_scaled_is a (c ∷ p) (d ∷ q) [] l n h = absurd (omega arith)

  all_values_0 : (value : List ℕ → ℕ) (y : ℕ) → ((p : List ℕ) → value p ≡ against m p (power m y) 0) → (ps : List (List ℕ))
      → list_all (λ (p : List ℕ). eqb (value p) 0) ps ≡ all_vanish m ps y
  unfolding all_vanish
  all_values_0 value y h [] = refl
  all_values_0 value y h (p ∷ ps) =
      both (eqb (value p) 0) (list_all (λ (p : List ℕ). eqb (value p) 0) ps)
      ∙ ap₂ (λ (x : ℕ) (b : Bool). cond (eqb x 0) b false) (h p) (all_values_0 value y h ps)
    where
      both : (a b : Bool) → (a && b) ≡ cond a b false
      both true b = refl
      both false b = refl

  pub all_vanish_is : (value : List ℕ → ℕ) (y : ℕ) (qs ps : List (List ℕ)) → qs ≡ ps → ((p : List ℕ) → value p ≡ against m p (power m y) 0)
      → list_all (λ (p : List ℕ). eqb (value p) 0) qs ≡ all_vanish m ps y
  all_vanish_is value y qs ps e h = ap (list_all (λ (p : List ℕ). eqb (value p) 0)) e ∙ all_values_0 value y h ps

  module _ (inv s : ℕ → ℕ) (i : ℕ) where
    abbrev fails : List ℕ → Bool
    fails p = not (eqb (against m p s i) 0)

    -- one polynomial more is cleared, and stands a place further up
    pub cleared_turn : (p q v : List ℕ) (ps qs : List (List ℕ)) (k : ℕ) → k + 1 < length ps → q ≡ get_or ps (k + 1) []
        → v ≡ add_scaled m (m (against m q s i) (inv (against m p s i))) p q
        → take k ps ++ cleared m inv s i p (drop (k + 1) ps) ≡ qs
        → take (k + 1) (set ps k v) ++ cleared m inv s i p (drop (k + 1 + 1) (set ps k v)) ≡ qs
    unfolding cleared
    cleared_turn p q v ps qs k h eq ev e =
        ap₂ (λ (x y : List (List ℕ)). x ++ cleared m inv s i p y) (take_more_set ps k v (omega arith)) (drop-set-lt (k + 1 + 1) ps k v (omega arith))
        ∙ append_assoc (take k ps) (v ∷ []) (cleared m inv s i p (drop (k + 1 + 1) ps))
        ∙ ap (λ (x : List ℕ). take k ps ++ (x ∷ cleared m inv s i p (drop (k + 1 + 1) ps))) ev
        ∙ ap (λ (x : List (List ℕ)). take k ps ++ cleared m inv s i p x) (ap (λ (x : List ℕ). x ∷ drop (k + 1 + 1) ps) eq ∙ sym (drop_more ps (k + 1) [] h))
        ∙ e

    pub cleared_end : (p : List ℕ) (ps qs : List (List ℕ)) (k : ℕ) → length ps ≡ k + 1 → take k ps ++ cleared m inv s i p (drop (k + 1) ps) ≡ qs → take (length ps - 1) ps ≡ qs
    unfolding cleared
    cleared_end p ps qs k h e =
        ap (λ (n : ℕ). take n ps) (let l : length ps - 1 ≡ k = omega arith in l)
        ∙ sym (ap (λ (x : List (List ℕ)). take k ps ++ cleared m inv s i p x) (drop_all (k + 1) ps (omega arith)) ∙ append-nil (take k ps))
        ∙ e

    -- no polynomial fails
    pub met_one_none : (n : ℕ) (ps : List (List ℕ)) → position_from fails n ps ≡ None → met_one m inv s i ps ≡ ps
    unfolding met_one
    met_one_none n [] h = refl
    met_one_none n (p ∷ ps) h = go (eqb (against m p s i) 0) h (met_one_none (n + 1) ps)
      where
        go : (b : Bool) → cond (not b) (Some n) (position_from fails (n + 1) ps) ≡ None → (position_from fails (n + 1) ps ≡ None → met_one m inv s i ps ≡ ps)
            → elim b [ true ↦ p ∷ met_one m inv s i ps | false ↦ cleared m inv s i p ps ] ≡ p ∷ ps
        go true h ih = ap (λ (x : List (List ℕ)). p ∷ x) (ih h)
        go false h ih = let z : ◌≡◌ {A = ℕ} 0 1 = cc in absurd (omega arith)

    -- the one at j is the first that fails
    met_one_some : (ps : List (List ℕ)) (j : ℕ) → j < length ps → against m (get_or ps j []) s i ≢ 0 → ((k : ℕ) → k < j → against m (get_or ps k []) s i ≡ 0)
        → met_one m inv s i ps ≡ take j ps ++ cleared m inv s i (get_or ps j []) (drop (j + 1) ps)
    unfolding met_one
    met_one_some [] j h ne z = absurd (omega arith)
    met_one_some (p ∷ ps) zero h ne z = ap (λ (b : Bool). elim b [ true ↦ p ∷ met_one m inv s i ps | false ↦ cleared m inv s i p ps ]) (ne_eqb (against m p s i) 0 ne)
    met_one_some (p ∷ ps) (suc j) h ne z =
        ap (λ (x : ℕ). elim (eqb x 0) [ true ↦ p ∷ met_one m inv s i ps | false ↦ cleared m inv s i p ps ]) (z 0 (omega arith))
        ∙ ap (λ (x : List (List ℕ)). p ∷ x) (met_one_some ps j (omega arith) ne (λ k u. z (suc k) (omega arith)))
        ∙ ap (λ (n : ℕ). p ∷ (take j ps ++ cleared m inv s i (get_or ps j []) (drop n (p ∷ ps)))) (let e : suc (j + 1) ≡ suc j + 1 = omega arith in e)

    pub none_fails : (ps qs : List (List ℕ)) → qs ≡ ps → None ≡ position fails qs → met_one m inv s i ps ≡ ps
    none_fails ps qs e h = met_one_none 0 ps (sym (position_from-zero fails ps) ∙ ap (position fails) (sym e) ∙ sym h)

    -- the first that fails clears those behind it, which move up by a place, and what then stands last goes
    pub first_fails : (ps seen xs os left : List (List ℕ)) (j : ℕ) → seen ≡ ps → Some j ≡ position fails seen → xs ≡ ps
        → length os ≡ length (take (length xs - j) (drop j xs))
        → take (length (take (length xs - j) (drop j xs)) - 1) os
        ≡ cleared m inv s i (get_or (take (length xs - j) (drop j xs)) 0 []) (drop 1 (take (length xs - j) (drop j xs)))
        → (let after = take (length ps) ((take j xs ++ (os ++ drop (length xs - j) (drop j xs))) ++ drop (length (take j xs ++ (os ++ drop (length xs - j) (drop j xs)))) ps) in
        left ≡ take (length after - 1) after)
        → left ≡ met_one m inv s i ps
    first_fails ps seen xs os left j same e ex l eo el =
        el
        ∙ ap (λ (x : List (List ℕ)). take (length x - 1) x)
        (written xs ps os j ex (omega (arith, found.0)) (l ∙ length-take-le (length xs - j) (drop j xs) (omega (arith, length-drop j xs))))
        ∙ ap (λ (n : ℕ). take n (take j ps ++ os)) (let n : length (take j ps ++ os) - 1 ≡ length (take j ps) + (length os - 1) = omega (arith, length-append (take j ps) os, some) in n)
        ∙ take-append-add (take j ps) os (length os - 1)
        ∙ ap (λ (x : List (List ℕ)). take j ps ++ x)
        (ap (λ (n : ℕ). take (n - 1) os) l ∙ eo ∙ ap (λ (x : List (List ℕ)). cleared m inv s i (get_or x 0 []) (drop 1 x)) part
        ∙ ap₂ (cleared m inv s i) (get_or-drop j ps 0 [] ∙ ap (λ (n : ℕ). get_or ps n []) (let e : j + 0 ≡ j = omega arith in e)) (drop-drop 1 j ps))
        ∙ sym (met_one_some ps j found.0 (unless_0 (against m (get_or ps j []) s i) found.1) (λ k h. if_0 (against m (get_or ps k []) s i) (found.2 k h)))
      where
        found : (j < length ps) × (fails (get_or ps j []) ≡ true) × ((k : ℕ) → k < j → fails (get_or ps k []) ≡ false)
        found = position-Some fails ps j [] (ap (position fails) (sym same) ∙ sym e)

        part : take (length xs - j) (drop j xs) ≡ drop j ps
        part = take_all (length xs - j) (drop j xs) (omega (arith, length-drop j xs)) ∙ ap (drop j) ex

        some : 1 ≤ length os
        some = omega (arith, l, ap length part, length-drop j ps, found.0)
