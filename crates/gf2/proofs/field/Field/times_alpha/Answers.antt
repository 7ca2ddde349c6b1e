use Rattle.std.proofs.Common.{◌≡◌, ℕ, ◌^◌, ◌≤◌, ap, ◌∙◌, ap₂, arith, pow_mono}
use Rattle.gf2.specs.declared.field.Field.{Field}
use Rattle.gf2.specs.Product.{times_x}
use Rattle.gf2.specs.Fields.{top, modulus_tail, width, product, alpha}
use Rattle.gf2.proofs.Five.{widths, ring, times_alpha}
use Rattle.gf2.proofs.field.Field.times_alpha.Goals as goal

-- x times a modulo the field's modulus, by the parts that the code has
moved : (F : Field) (a n p x r : ℕ) → n ≡ top F → p ≡ modulus_tail F → x ≡ a → r ≡ times_x n p x → r ≡ product F alpha a
moved F a n p x r hn hp hx h = h ∙ ap₂ (λ (i q : ℕ). times_x i q x) hn hp ∙ ap (times_x (top F) (modulus_tail F)) hx ∙ times_alpha F a

pub overflow_cast-result : goal.overflow_cast-result
overflow_cast-result c =
    let F = c.args.self in
    let m = c.modulus.ensures in
    let is = moved F c.args.a _ _ _ c.times_x.result m.highest_exponent_of_an_element m.lower_terms_of_the_modulus c.from.ensures c.times_x.ensures.moves_up_and_reduces in
    let small : 2 ^ width F ≤ 2 ^ 16 = pow_mono {i = width F} {j = 16} (omega (arith, (widths F).1)) in
    record { fits = omega (arith, is, (ring F).closed alpha c.args.a, small) }

pub returns : goal.returns
returns c =
    let m = c.modulus.ensures in
    record {
      product_with_alpha =
          moved c.args.self c.args.a _ _ _ c.times_x.result m.highest_exponent_of_an_element m.lower_terms_of_the_modulus c.from.ensures c.times_x.ensures.moves_up_and_reduces;
    }
