use Rattle.std.proofs.Common.{◌≡◌, ℕ, ◌+◌, ◌-◌, [], get_or, length, take, drop, Option, unwrap_or, refl, ap, ◌∙◌, ap₂, arith}
use Rattle.gf2.specs.Fields.{product}
use Rattle.bch.specs.Elimination.{against, add_scaled, cleared, sequence}
use Rattle.bch.specs.Decoding.{inverse_or_0}
use Rattle.bch.proofs.Rows.{cleared_turn, cleared_end}
use Rattle.bch.proofs.eliminate.Equation.clear.Goals as goal

pub loop-k-preserved : goal.loop-k-preserved
loop-k-preserved c =
    let F = c.args.self.now.sequence.field in
    let m = product F in
    let inv = inverse_or_0 F in
    let s = sequence c.args.self.now.sequence.members in
    let i = c.args.self.now.i in
    let first = get_or c.args.polys.now 0 [] in
    let k = c.loop-k.k in
    let next = get_or c.loop-k.polys (k + 1) [] in
    let scale : c.product-a.result ≡ m (against m next s i) (inv (against m first s i)) =
    c.product-a.ensures.product_of_the_elements
    ∙ ap₂ m c.against-in-loop-k.ensures.sum_of_products
    (c.unwrap_or-scale.ensures ∙ ap (λ (o : Option ℕ). unwrap_or o 0) c.inverse.ensures.power_that_inverts ∙ ap inv c.against.ensures.sum_of_products) in
    cleared_turn m inv s i first next c.combined.result c.loop-k.polys (cleared m inv s i first (drop 1 c.args.polys.now)) k (omega (arith, c.loop-k.auto.polys, c.loop-k-test.true)) refl
    (c.combined.ensures.scaled_sum ∙ ap (λ (a : ℕ). add_scaled m a first next) scale) c.loop-k.invariant

pub returns-clause-others_meet_it : goal.returns-clause-others_meet_it
returns-clause-others_meet_it c =
    let F = c.args.self.now.sequence.field in
    let m = product F in
    let inv = inverse_or_0 F in
    let s = sequence c.args.self.now.sequence.members in
    let i = c.args.self.now.i in
    let first = get_or c.args.polys.now 0 [] in
    ap (λ (n : ℕ). take (n - 1) c.loop-k.polys) (let e : length c.args.polys.now ≡ length c.loop-k.polys = omega (arith, c.loop-k.auto.polys) in e)
    ∙ cleared_end m inv s i first c.loop-k.polys (cleared m inv s i first (drop 1 c.args.polys.now)) c.loop-k.k
    (omega (arith, c.requires, c.loop-k.auto.polys, c.loop-k.auto.k-end, c.loop-k-test.false)) c.loop-k.invariant
