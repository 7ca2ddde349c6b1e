-- The table of powers: one test over the whole table gives its rule at each entry, and the rule gives the powers.
use Rattle.std.proofs.Common.{◌≡◌, ℕ, zero, suc, ◌<◌, Bool, true, false, T, eqb, List, [], ◌∷◌, length, get_or, sym, refl, ap, ◌∙◌, le_of_suc-le-suc, not-suc-le-zero, arith}
use Rattle.std.proofs.lemmas.Bool.{eqb-true}
use Rattle.gf2.specs.Polynomials.{power as power_under}
use Rattle.gf2.specs.Fields.{alpha, top, modulus_tail, product, power, PowersOfAlpha}
use Rattle.gf2.specs.Product.{times_x}
use Rattle.gf2.specs.declared.field.Field.{Field}
use Rattle.gf2.proofs.Five.{times_alpha}

-- the list begins with x, and each entry is alpha times the one before
unfoldable pub steps : Field → ℕ → List ℕ → Bool
steps F x [] = true
steps F x (y ∷ ys) = elim (eqb y x) [ true ↦ steps F (times_x (top F) (modulus_tail F) x) ys | false ↦ false ]

-- what the test says of its first entry and of the rest
head : (F : Field) (x y : ℕ) (ys : List ℕ) → T (steps F x (y ∷ ys)) → (y ≡ x) × T (steps F (times_x (top F) (modulus_tail F) x) ys)
unfolding steps
head F x y ys t = go (eqb y x) refl t
  where
    go : (b : Bool) → eqb y x ≡ b → T (elim b [ true ↦ steps F (times_x (top F) (modulus_tail F) x) ys | false ↦ false ]) → (y ≡ x) × T (steps F (times_x (top F) (modulus_tail F) x) ys)
    go true q t = (eqb-true y x q, t)
    go false q t = absurd t

next : (F : Field) (x : ℕ) (xs : List ℕ) → T (steps F x xs) → (i : ℕ) → suc i < length xs → get_or xs (suc i) 0 ≡ product F alpha (get_or xs i 0)
next F x [] t i h = absurd (not-suc-le-zero h)
next F x (y ∷ []) t i h = absurd (not-suc-le-zero (le_of_suc-le-suc h))
next F x (y ∷ (z ∷ zs)) t zero h =
    let first = head F x y (z ∷ zs) t in
    (head F (times_x (top F) (modulus_tail F) x) z zs first.1).0 ∙ ap (times_x (top F) (modulus_tail F)) (sym first.0) ∙ times_alpha F y
next F x (y ∷ (z ∷ zs)) t (suc i) h = next F (times_x (top F) (modulus_tail F) x) (z ∷ zs) (head F x y (z ∷ zs) t).1 i (le_of_suc-le-suc h)

-- the test over a whole table is its rule
pub rule : (F : Field) (xs : List ℕ) → 0 < length xs → T (steps F 1 xs) → PowersOfAlpha F xs
rule F [] h t = absurd (not-suc-le-zero h)
rule F (x ∷ xs) h t = record { first = (head F 1 x xs t).0; next = next F 1 (x ∷ xs) t }

alpha_power : (F : Field) (i : ℕ) → product F alpha (power F alpha i) ≡ power F alpha (suc i)
unfolding power_under
alpha_power F i = refl

-- by the rule the entry at i is alpha^i
pub entry : (F : Field) (xs : List ℕ) → PowersOfAlpha F xs → (i : ℕ) → i < length xs → get_or xs i 0 ≡ power F alpha i
entry F xs r zero h = r.first ∙ (unfold power_under in refl)
entry F xs r (suc i) h = r.next i h ∙ ap (product F alpha) (entry F xs r i (omega arith)) ∙ alpha_power F i
