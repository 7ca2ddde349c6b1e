-- The five fields: for each one test that runs through the powers of x.
use Rattle.std.proofs.Common.{◌≡◌, ℕ, suc, ◌-◌, ◌^◌, ◌<◌, ◌≤◌, Bool, true, false, cond, T, eqb, ◌≢◌, Some, None, Ok, Option, ok_or, sym, refl, ap, ◌∙◌, arith, lit<, lit≤}
use Rattle.std.proofs.lemmas.Bool.{eqb-true}
use Rattle.gf2.specs.declared.field.Field.{Field}
use Rattle.gf2.specs.declared.field.NoSuchField.{NoSuchField}
use Rattle.gf2.specs.declared.field.Field.TheVariants.{Three, Five, Eight, Ten, Fourteen}
use Rattle.gf2.specs.Product.{times_x}
use Rattle.gf2.proofs.Ring.{shifted, times_x_is_product}
use Rattle.gf2.proofs.Orbit.{avoids_one}
use Rattle.gf2.specs.Fields.{top, modulus_tail, width, field_of, IsFieldOfWidth, element, product, power, IsRing, IsField, AlphaGenerates}
use Rattle.gf2.proofs.Algebra.{is_ring, is_field}
use Rattle.gf2.proofs.Generators as generators

-- the modulus fits, and the powers of x come back to 1 after 2^m - 1 steps and not before
pub record Tested (n p N : ℕ) : Type 0 where
  pub fits : p < 2 ^ suc n
  pub size : suc N ≡ 2 ^ suc n
  pub back : shifted n p N 1 ≡ 1
  pub before : T (avoids_one n p (N - 1) (times_x n p 1))
  pub alpha : times_x n p 1 ≡ 2

pub tested : (F : Field) → Tested (top F) (modulus_tail F) (2 ^ width F - 1)
unfolding shifted times_x avoids_one
tested Three = record { fits = lit< tt; size = refl; back = refl; before = tt; alpha = refl }
tested Five = record { fits = lit< tt; size = refl; back = refl; before = tt; alpha = refl }
tested Eight = record { fits = lit< tt; size = refl; back = refl; before = tt; alpha = refl }
tested Ten = record { fits = lit< tt; size = refl; back = refl; before = tt; alpha = refl }
tested Fourteen = record { fits = lit< tt; size = refl; back = refl; before = tt; alpha = refl }

-- x times a is the product of alpha and a
pub times_alpha : (F : Field) (a : ℕ) → times_x (top F) (modulus_tail F) a ≡ product F 2 a
times_alpha F a =
    let t = tested F in
    times_x_is_product (top F) (modulus_tail F) t.fits a ∙ ap (λ (x : ℕ). product F x a) t.alpha

pub widths : (F : Field) → (1 ≤ top F) × (top F ≤ 13)
widths Three = (lit≤ tt, lit≤ tt)
widths Five = (lit≤ tt, lit≤ tt)
widths Eight = (lit≤ tt, lit≤ tt)
widths Ten = (lit≤ tt, lit≤ tt)
widths Fourteen = (lit≤ tt, lit≤ tt)

pub ring : (F : Field) → IsRing (width F) (product F)
ring F = is_ring (top F) (modulus_tail F) (tested F).fits

pub field : (F : Field) → IsField (width F) (product F)
field F = let t = tested F in is_field (top F) (modulus_tail F) t.fits (2 ^ width F - 1) t.back t.size t.before

pub alpha_generates : (F : Field) → AlphaGenerates (width F) (product F)
alpha_generates F =
    let t = tested F in
    generators.generates (top F) (modulus_tail F) t.fits (2 ^ width F - 1) t.back t.size t.before t.alpha

pub inverts : (F : Field) (a : ℕ) → element F a ≢ 0 → product F a (power F a (2 ^ width F - 2)) ≡ 1
inverts F a z =
    let t = tested F in
    ap (λ (e : ℕ). product F a (power F a e)) (let e : 2 ^ width F - 2 ≡ 2 ^ width F - 1 - 1 = omega arith in e)
    ∙ generators.inverts (top F) (modulus_tail F) t.fits (2 ^ width F - 1) t.back t.size t.before a z

-- the field of a width has that width
pub field_of_width : (m : ℕ) (F : Field) → field_of m ≡ Some F → width F ≡ m
field_of_width m F = at Three (at Five (at Eight (at Ten (at Fourteen none))))
  where
    at : (G : Field) {rest : Option Field} → (rest ≡ Some F → width F ≡ m) → cond (eqb m (width G)) (Some G) rest ≡ Some F → width F ≡ m
    at G {rest} later = go (eqb m (width G)) refl
      where
        go : (b : Bool) → eqb m (width G) ≡ b → cond b (Some G) rest ≡ Some F → width F ≡ m
        go true e h = let same : F ≡ G = cc in ap width same ∙ sym (eqb-true m (width G) e)
        go false e h = later h

    none : None ≡ Some F → width F ≡ m
    none h = let z : ◌≡◌ {A = ℕ} 0 1 = cc in absurd (omega arith)

-- what `Field::try_from` says where it finds a field
pub field_found : (m : ℕ) (F : Field) → IsFieldOfWidth m (Ok F) → field_of m ≡ Some F
field_found m F = found (field_of m) (record { 0 = m })
  where
    found : (o : Option Field) (e : NoSuchField) → Ok F ≡ ok_or o e → o ≡ Some F
    found None e h = cc
    found (Some G) e h = cc

-- and the field with its width is the field
pub field_of_its_width : (F : Field) → field_of (width F) ≡ Some F
field_of_its_width Three = refl
field_of_its_width Five = refl
field_of_its_width Eight = refl
field_of_its_width Ten = refl
field_of_its_width Fourteen = refl
