use Rattle.std.proofs.Common.{◌≡◌, ℕ, suc, ◌+◌, sym, ap, ◌∙◌, arith}
use Rattle.gf2.specs.declared.field.Field.{Field}
use Rattle.gf2.specs.Fields.{alpha, sum, product, power}
use Rattle.gf2.specs.Polynomials.{power as power_under}
use Rattle.gf2.proofs.Five as five
use Rattle.bch.proofs.Terms.{low_bits}
use Rattle.bch.proofs.syndrome.times_power.Goals as goal

start : (F : Field) (a : ℕ) → sum F a 0 ≡ product F (power F alpha 0) a
unfolding power_under
start F a = low_bits F a

next : (F : Field) (a v i : ℕ) → v ≡ product F (power F alpha i) a → product F alpha v ≡ product F (power F alpha (i + 1)) a
unfolding power_under
next F a v i e =
    ap (product F alpha) e ∙ sym ((five.ring F).associative alpha (power F alpha i) a) ∙ ap (λ (j : ℕ). product F (power F alpha j) a) (let n : suc i ≡ i + 1 = omega arith in n)

pub loop-init : goal.loop-init
loop-init c = c.sum-moved.ensures.sum_of_the_elements ∙ start c.args.field c.args.a

pub loop-preserved : goal.loop-preserved
loop-preserved c = c.times_alpha-moved.ensures.product_with_alpha ∙ next c.args.field c.args.a c.loop.moved c.loop.counter c.loop.invariant
