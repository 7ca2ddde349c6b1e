-- A word with marked bits flipped from its end on.
use Rattle.std.proofs.Common.{◌≡◌, ℕ, zero, suc, ◌+◌, ◌-◌, ◌<◌, ◌≤◌, Bool, true, false, not, List, [], ◌∷◌, ◌++◌, length, get_or, set, replicate, sym, refl, ap, ◌∙◌, ap₂, arith}
use Rattle.gf2.specs.Words.{plus, add, weight}
use Rattle.gf2.proofs.Sums.{add_nil, plus_zero}
use Rattle.bch.specs.Decoding.{marks}

pub marks_length : (f : ℕ → Bool) (n : ℕ) → length (marks f n) ≡ n
unfolding marks
marks_length f zero = refl
marks_length f (suc n) = ap suc (marks_length f n)

-- n bits of which the last i are marked by f, the others not
abbrev pub last_marks : (ℕ → Bool) → ℕ → ℕ → List Bool
last_marks f n i = replicate (n - i) false ++ marks f i

-- one more place for a mark
room : (j : ℕ) (s : List Bool) → replicate (suc j) false ++ s ≡ replicate j false ++ (false ∷ s)
room zero s = refl
room (suc j) s = ap (λ (w : List Bool). false ∷ w) (room j s)

before : (f : ℕ → Bool) (n i : ℕ) → i < n → last_marks f n i ≡ replicate (n - 1 - i) false ++ (false ∷ marks f i)
before f n i h = ap (λ (j : ℕ). replicate j false ++ marks f i) (let e : n - i ≡ suc (n - 1 - i) = omega arith in e) ∙ room (n - 1 - i) (marks f i)

after : (f : ℕ → Bool) (n i : ℕ) → i < n → last_marks f n (i + 1) ≡ replicate (n - 1 - i) false ++ (f i ∷ marks f i)
unfolding marks
after f n i h =
    ap₂ (λ (j k : ℕ). replicate j false ++ marks f k) (let e : n - (i + 1) ≡ n - 1 - i = omega arith in e) (let e : i + 1 ≡ suc i = omega arith in e)

-- the bit at j turned
turned : (w : List Bool) (j : ℕ) (s v : List Bool) → j < length w → v ≡ add w (replicate j false ++ (false ∷ s))
    → set v j (not (get_or v j false)) ≡ add w (replicate j false ++ (true ∷ s))
turned w j s v h e = ap (λ (x : List Bool). set x j (not (get_or x j false))) e ∙ go w j h
  where
    other : (b : Bool) → not (plus b false) ≡ plus b true
    other true = refl
    other false = refl

    go : (w : List Bool) (j : ℕ) → j < length w
        → set (add w (replicate j false ++ (false ∷ s))) j (not (get_or (add w (replicate j false ++ (false ∷ s))) j false)) ≡ add w (replicate j false ++ (true ∷ s))
    go [] j h = absurd (omega arith)
    go (b ∷ w) zero h = ap (λ (x : Bool). x ∷ add w s) (other b)
    go (b ∷ w) (suc j) h = ap (λ (x : List Bool). plus b false ∷ x) (go w j (omega arith))

pub flip_more : (f : ℕ → Bool) (w v : List Bool) (n i : ℕ) → i < n → n ≤ length w → f i ≡ true → v ≡ add w (last_marks f n i)
    → set v (n - 1 - i) (not (get_or v (n - 1 - i) false)) ≡ add w (last_marks f n (i + 1))
flip_more f w v n i h l z e =
    turned w (n - 1 - i) (marks f i) v (omega arith) (e ∙ ap (add w) (before f n i h))
    ∙ ap (add w) (ap (λ (b : Bool). replicate (n - 1 - i) false ++ (b ∷ marks f i)) (sym z) ∙ sym (after f n i h))

pub skip_more : (f : ℕ → Bool) (w v : List Bool) (n i : ℕ) → i < n → f i ≡ false → v ≡ add w (last_marks f n i) → v ≡ add w (last_marks f n (i + 1))
skip_more f w v n i h z e =
    e ∙ ap (add w) (before f n i h ∙ ap (λ (b : Bool). replicate (n - 1 - i) false ++ (b ∷ marks f i)) (sym z) ∙ sym (after f n i h))

pub flip_none : (f : ℕ → Bool) (w : List Bool) (n : ℕ) → n ≤ length w → w ≡ add w (last_marks f n 0)
unfolding marks
flip_none f w n h = sym (ap (λ (j : ℕ). add w (replicate j false ++ [])) (let e : n - 0 ≡ n = omega arith in e) ∙ go w n h)
  where
    go : (w : List Bool) (n : ℕ) → n ≤ length w → add w (replicate n false ++ []) ≡ w
    go w zero h = add_nil w
    go [] (suc n) h = absurd (omega arith)
    go (b ∷ w) (suc n) h = ap₂ ◌∷◌ (plus_zero b) (go w n (omega arith))

-- the count of marks, one place on
pub count_more : (f : ℕ → Bool) (i : ℕ) → f i ≡ true → weight (marks f i) + 1 ≡ weight (marks f (i + 1))
unfolding marks
count_more f i e =
    sym (ap (λ (k : ℕ). weight (marks f k)) (let q : i + 1 ≡ suc i = omega arith in q) ∙ ap (λ (b : Bool). weight (b ∷ marks f i)) e ∙ (let q : suc (weight (marks f i)) ≡ weight (marks f i) + 1 = omega arith in q))

pub count_same : (f : ℕ → Bool) (i : ℕ) → f i ≡ false → weight (marks f i) ≡ weight (marks f (i + 1))
unfolding marks
count_same f i e = sym (ap (λ (k : ℕ). weight (marks f k)) (let q : i + 1 ≡ suc i = omega arith in q) ∙ ap (λ (b : Bool). weight (b ∷ marks f i)) e)

pub count_none : (f : ℕ → Bool) → 0 ≡ weight (marks f 0)
unfolding marks
count_none f = refl

-- marks by equal tests
pub marks_ext : (f g : ℕ → Bool) (n : ℕ) → ((i : ℕ) → i < n → f i ≡ g i) → marks f n ≡ marks g n
unfolding marks
marks_ext f g zero h = refl
marks_ext f g (suc n) h = ap₂ ◌∷◌ (h n (omega arith)) (marks_ext f g n (λ i l. h i (omega arith)))
