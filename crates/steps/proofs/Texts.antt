-- Lemmas on what is shown.
use Rattle.std.proofs.Common.{add-one, unwrap_or, arith, ◌≡◌, ◌+◌, ◌-◌, ◌*◌, ◌/◌, ◌%◌, ◌^◌, ◌<◌, ◌≤◌, ◌==◌, ℕ, zero, suc, Bool, List, [], ◌∷◌, ◌++◌, take, drop, length, ap, sym, ◌∙◌, false, refl, suc-mul, zero-mul}
use Rattle.std.proofs.lemmas.Grind.{flat_map-append}
use Rattle.std.specs.List.{flat_map}
use Rattle.gf2.specs.Fields.{width}
use Rattle.std.proofs.lemmas.List.{take_more, map-append, take_all, take-take, drop-take, drop-drop, append_assoc, append-nil, length-take-le}
use Rattle.std.proofs.lemmas.Bool.{le-leb}
use Rattle.gf2.specs.declared.field.Field.{Field}
use Rattle.gf2.specs.Words.{bits_of, number, number_behind}
use Rattle.gf2.proofs.Digits.{bits_of_at}
use Rattle.gf2.proofs.Sums.{bits_of_length}
use Rattle.pagecode.specs.Groups.{groups}
use Rattle.steps.specs.Shown.{digit, digits, group_text, product_line, products_of}

-- of the bits of a number, the next one
pub shown_more : (w n p : ℕ) → 0 < p → p ≤ w → digits (take (w - p) (bits_of w n)) ++ digit (n / 2 ^ (p - 1) % 2 == 1) ∷ [] ≡ digits (take (w - (p - 1)) (bits_of w n))
shown_more w n p some h =
    let o : ℕ = w - p in
    let place : w - 1 - o ≡ p - 1 = omega arith in
    let next : o + 1 ≡ w - (p - 1) = omega arith in
    let bit = bits_of_at w o n (omega arith) in
    let more = take_more (bits_of w n) o false (rw bits_of_length (omega arith)) in
    let e = ap digits more ∙ map-append digit (take o (bits_of w n)) _ in
    rw (sym next, e, bit, place)

-- all of them
pub shown_whole : (w n p : ℕ) → p ≤ 0 → digits (take (w - p) (bits_of w n)) ≡ digits (bits_of w n)
shown_whole w n p h = ap digits (take_all (w - p) (bits_of w n) (omega (arith, bits_of_length w n)))

number_there : (B : List Bool) (s k : ℕ) → 0 < k → k ≤ 16 → s + k ≤ length B → unwrap_or (number_behind B s k) 0 ≡ number (take k (drop s B))
number_there B s k a b h = rw (le-leb 1 k (omega arith), le-leb k 16 b, le-leb (s + k) (length B) h)

-- the number of a run within the first n bits
pub number_within : (B shown : List Bool) (n s w : ℕ)
    → take n B ≡ shown → n ≤ length B → s + w ≤ length shown → 0 < w → w ≤ 16 → unwrap_or (number_behind B s w) 0 ≡ number (take w (drop s shown))
number_within B shown n s w e room inside low high =
    let long : length shown ≡ n = sym (ap length e) ∙ length-take-le n B room in
    let m : ℕ = n - s in
    let whole : s + m ≡ n = omega arith in
    let short : w ≤ m = omega arith in
    number_there B s w low high (omega arith)
    ∙ ap number (sym (ap (λ (t : ℕ). take w (drop s (take t B))) (sym whole) ∙ ap (take w) (drop-take s m B) ∙ take-take w m (drop s B) short)
    ∙ ap (λ (t : List Bool). take w (drop s t)) e)

pub groups_length : (r n : ℕ) (w : List Bool) → length (groups r n w) ≡ n
unfolding groups
groups_length r zero w = refl
groups_length r (suc n) w = ap suc (groups_length r n (drop r w))

-- one group more
pub groups_more : (r n : ℕ) (w : List Bool) → groups r (suc n) w ≡ groups r n w ++ number (take r (drop (n * r) w)) ∷ []
unfolding groups
groups_more r zero w = ap (λ (i : ℕ). number (take r (drop i w)) ∷ []) (sym (zero-mul r))
groups_more r (suc n) w =
    let place : r + n * r ≡ suc n * r = omega (arith, suc-mul n r) in
    ap (λ (t : List ℕ). number (take r w) ∷ t) (groups_more r n (drop r w)
    ∙ ap (λ (v : List Bool). groups r n (drop r w) ++ number (take r v) ∷ []) (drop-drop (n * r) r w ∙ ap (λ (i : ℕ). drop i w) place))

-- the text of one group more
pub groups_shown_more : (F : Field) (n : ℕ) (w : List Bool)
    → flat_map (group_text F) (groups (width F) (n + 1) w) ≡ flat_map (group_text F) (groups (width F) n w) ++ group_text F (number (take (width F) (drop (n * width F) w)))
groups_shown_more F n w =
    rw (add-one n, groups_more (width F) n w, flat_map-append (group_text F) (groups (width F) n w) _, append-nil)

-- one pair more
pub products_more : (F : Field) (s : List ℕ) (a b : ℕ) → length s % 2 ≡ 0 → products_of F (s ++ (a ∷ (b ∷ []))) ≡ products_of F s ++ product_line F a b
unfolding products_of
products_more F [] a b h = append-nil (product_line F a b)
products_more F (x ∷ []) a b h = absurd (omega arith)
products_more F (x ∷ (y ∷ s)) a b h =
    ap (λ (t : List ℕ). product_line F x y ++ t) (products_more F s a b (omega arith)) ∙ sym (append_assoc (product_line F x y) (products_of F s) (product_line F a b))

-- the text of one pair more
pub products_shown_more : (F : Field) (n : ℕ) (w : List Bool)
    → products_of F (groups (width F) (2 * (n + 1)) w) ≡ products_of F (groups (width F) (2 * n) w) ++ product_line F (number (take (width F) (drop (2 * n * width F) w))) (number (take (width F) (drop ((2 * n + 1) * width F) w)))
products_shown_more F n w =
    let r = width F in
    let next : 2 * (n + 1) ≡ suc (suc (2 * n)) = omega arith in
    let even : length (groups r (2 * n) w) % 2 ≡ 0 = omega (arith, groups_length r (2 * n) w) in
    rw (next, groups_more r (suc (2 * n)) w, groups_more r (2 * n) w, append_assoc, products_more F _ _ _ even, add-one (2 * n))
