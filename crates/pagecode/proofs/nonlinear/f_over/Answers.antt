use Rattle.std.proofs.Common.{◌≡◌, ℕ, ◌*◌, ◌/◌, ◌%◌, ◌≤◌, length, Ok, sym, refl, ap, ◌∙◌, arith}
use Rattle.gf2.specs.Words.{bits}
use Rattle.gf2.specs.Fields.{width, product, sum}
use Rattle.pagecode.specs.Groups.{groups, sum_of_products, product_behind}
use Rattle.pagecode.proofs.Pairs.{double, turn, whole, pairs_are, f_of_pairs}
use Rattle.pagecode.proofs.nonlinear.f_over.Goals as goal

pub loop-pair-init : goal.loop-pair-init
unfolding sum_of_products groups
loop-pair-init c = (refl, omega arith)

pub loop-pair-preserved : goal.loop-pair-preserved
loop-pair-preserved c =
    let F = c.args.field in
    let w = bits c.args.bytes.now in
    let p = c.loop-pair.pair in
    let m : c.width.result ≡ width F = c.width.ensures.bits_of_an_element in
    let t = turn F w p c.in_ok-product.product
    (sym c.in_ok-product.ensures.ok_part ∙ c.pair_product.ensures.product_of_the_next_two ∙ ap (λ (r : ℕ). product_behind F w (p * (2 * r))) m) in
    (c.sum-sum.ensures.sum_of_the_elements ∙ ap (λ (s : ℕ). sum F s c.in_ok-product.product) c.loop-pair.invariant.0 ∙ t.0, t.1)

pub returns : goal.returns
returns c =
    let F = c.args.field in
    let w = bits c.args.bytes.now in
    let k = c.args.count in
    let m : c.width.result ≡ width F = c.width.ensures.bits_of_an_element in
    let even : k % (2 * width F) ≡ 0 = ap (λ (r : ℕ). k % (2 * r)) (sym m) ∙ c.if-count-two_groups-ne0.false in
    let all : c.loop-pair.pair ≡ k / (2 * width F) =
    (let e : c.loop-pair.pair ≡ k / (2 * c.width.result) = omega arith in e) ∙ ap (λ (r : ℕ). k / (2 * r)) m in
    let enough : k ≤ length w =
    omega (arith, pairs_are k (width F) even, ap (λ (p : ℕ). double p * width F) all, c.loop-pair.invariant.1) in
    record {
      f_of_the_first_bits_or_no_such_length =
          ap Ok (c.loop-pair.invariant.0 ∙ ap (λ (p : ℕ). sum_of_products (product F) (groups (width F) (double p) w)) all ∙ whole F w k even enough)
          ∙ f_of_pairs F w k even enough;
    }
