use Rattle.std.proofs.Common.{◌≡◌, ℕ, ◌/◌, ◌%◌, ◌^◌, ◌<◌, sym, ap, ◌∙◌, subst, ap₂, arith}
use Rattle.gf2.specs.Polynomials.{power as power_under}
use Rattle.gf2.specs.Fields.{width, product, power}
use Rattle.gf2.specs.declared.field.Field.{Field}
use Rattle.gf2.proofs.Five.{field}
use Rattle.gf2.proofs.PowerLaws as powers
use Rattle.gf2.proofs.field.Field.power.Goals as goal
use Rattle.gf2.proofs.field.Field.power.Goals.{then-left-eq1, else-left-eq1}

-- before the first turn 1 is gathered, and after the last nothing is left
begin : (F : Field) (a e : ℕ) → product F 1 (power F a e) ≡ power F a e
begin F a e = (field F).ring.unit (power F a e) (powers.power_lt (width F) (product F) (field F).ring (field F).nontrivial a e)

end : (F : Field) (r s e : ℕ) → r < 2 ^ width F → e ≡ 0 → product F r (power F s e) ≡ r
unfolding power_under
end F r s e h z = ap (λ (j : ℕ). product F r (power F s j)) z ∙ (field F).ring.commutative r 1 ∙ (field F).ring.unit r h

pub loop-left-init : goal.loop-left-init
loop-left-init c = (begin c.args.self c.args.a c.args.exponent, (field c.args.self).nontrivial)

pub loop-left-preserved : goal.loop-left-preserved
loop-left-preserved c =
    let F = c.args.self in
    let m = product F in
    let k = width F in
    let R = (field F).ring in
    let nontrivial = (field F).nontrivial in
    let r = c.loop-left.result in
    let s = c.loop-left.square in
    let e = c.loop-left.left in
    let squared = c.product-square.ensures.product_of_the_elements in
    elim c.if-left-eq1.branch [
      | then-left-eq1 w ↦
          let gathered = w.result-is ∙ w.product-result.ensures.product_of_the_elements in (
            ap₂ (λ (x y : ℕ). m x (power F y (e / 2))) gathered squared
                ∙ powers.square_odd k m R nontrivial r s e w.if-left-eq1.true ∙ c.loop-left.invariant.0,
            subst (λ (x : ℕ). x < 2 ^ k) (sym gathered) (R.closed r s),
          )
      | else-left-eq1 w ↦
          let even : e % 2 ≡ 0 = omega (arith, w.if-left-eq1.false) in (
            ap₂ (λ (x y : ℕ). m x (power F y (e / 2))) w.result-is squared
                ∙ ap (m r) (powers.square_even k m R nontrivial s e even) ∙ c.loop-left.invariant.0,
            subst (λ (x : ℕ). x < 2 ^ k) (sym w.result-is) c.loop-left.invariant.1,
          )
    ]

pub returns : goal.returns
returns c = record {
  product_of_that_many =
      sym (end c.args.self c.loop-left.result c.loop-left.square c.loop-left.left c.loop-left.invariant.1 (omega arith))
      ∙ c.loop-left.invariant.0;
}
