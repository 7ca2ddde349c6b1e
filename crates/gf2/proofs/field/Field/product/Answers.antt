use Rattle.std.proofs.Common.{◌≡◌, ℕ, suc, ◌+◌, ◌-◌, ◌/◌, ◌%◌, ◌^◌, ◌<◌, ◌≤◌, sym, ap, ◌∙◌, ap₂, div-one, arith, shr-shr}
use lib.Bits.{bit_xor, xor_zero_r}
use Rattle.gf2.specs.Product.{times_x, if_set, sum_of_shifts, times}
use Rattle.gf2.specs.Fields.{top, modulus_tail, element}
use Rattle.gf2.proofs.Five.{times_alpha}
use Rattle.gf2.proofs.Masks.{set_bit, clear_bit}
use Rattle.gf2.proofs.field.Field.product.Goals as goal

module _ (n p a b : ℕ) where
  start : (i : ℕ) → i ≡ suc n → 0 ≡ sum_of_shifts n p (suc n - i) a (b / 2 ^ i)
  unfolding sum_of_shifts
  start i h = ap (λ (k : ℕ). sum_of_shifts n p k a (b / 2 ^ i)) (let e : 0 ≡ suc n - i = omega arith in e)

  -- one turn, at the bit i - 1
  turn : (i : ℕ) → 0 < i → i ≤ suc n
      → bit_xor (times_x n p (sum_of_shifts n p (suc n - i) a (b / 2 ^ i))) (if_set (b / 2 ^ (i - 1) % 2) a) ≡ sum_of_shifts n p (suc n - (i - 1)) a (b / 2 ^ (i - 1))
  unfolding sum_of_shifts
  turn i h l =
      sym
      (ap (λ (k : ℕ). sum_of_shifts n p k a (b / 2 ^ (i - 1))) (let e : suc n - (i - 1) ≡ suc (suc n - i) = omega arith in e)
      ∙ ap (λ (x : ℕ). bit_xor (times_x n p (sum_of_shifts n p (suc n - i) a x)) (if_set (b / 2 ^ (i - 1) % 2) a))
      (shr-shr b (i - 1) 1 ∙ ap (λ (k : ℕ). b / 2 ^ k) (let e : i - 1 + 1 ≡ i = omega arith in e)))

end : (n p a b i : ℕ) → i ≤ 0 → sum_of_shifts n p (suc n - i) (a % 2 ^ suc n) (b / 2 ^ i) ≡ times n p a b
unfolding times
end n p a b i h =
    ap (λ (k : ℕ). sum_of_shifts n p (suc n - k) (a % 2 ^ suc n) (b / 2 ^ k)) (let e : i ≡ 0 = omega arith in e)
    ∙ ap₂ (λ (k x : ℕ). sum_of_shifts n p k (a % 2 ^ suc n) x) (let e : suc n - 0 ≡ suc n = omega arith in e) (div-one b)

pub loop-i-init : goal.loop-i-init
loop-i-init c =
    let F = c.args.self in
    start (top F) (modulus_tail F) (element F c.args.a) c.args.b c.width-i.result c.width-i.ensures.bits_of_an_element

pub loop-i-preserved-then-b-i-eq1 : goal.loop-i-preserved-then-b-i-eq1
loop-i-preserved-then-b-i-eq1 c =
    let F = c.args.self in
    let a = element F c.args.a in
    let i = c.loop-i.i in
    ap₂ bit_xor (c.times_alpha-sum.ensures.product_with_alpha ∙ sym (times_alpha F c.loop-i.sum) ∙ ap (times_x (top F) (modulus_tail F)) c.loop-i.invariant)
    (c.element-element.ensures.low_bits ∙ set_bit (c.args.b / 2 ^ (i - 1)) a c.if-b-i-eq1.true)
    ∙ turn (top F) (modulus_tail F) a c.args.b i c.loop-i-test.true (omega (arith, c.loop-i.auto.i, c.width-i.ensures.bits_of_an_element))

pub loop-i-preserved : goal.loop-i-preserved
loop-i-preserved c =
    let F = c.args.self in
    let a = element F c.args.a in
    let i = c.loop-i.i in
    sym (xor_zero_r c.times_alpha-sum.result)
    ∙ ap₂ bit_xor (c.times_alpha-sum.ensures.product_with_alpha ∙ sym (times_alpha F c.loop-i.sum) ∙ ap (times_x (top F) (modulus_tail F)) c.loop-i.invariant)
    (clear_bit (c.args.b / 2 ^ (i - 1)) a c.if-b-i-eq1.false)
    ∙ turn (top F) (modulus_tail F) a c.args.b i c.loop-i-test.true (omega (arith, c.loop-i.auto.i, c.width-i.ensures.bits_of_an_element))

pub returns : goal.returns
returns c =
    let F = c.args.self in
    record { product_of_the_elements = c.loop-i.invariant ∙ end (top F) (modulus_tail F) c.args.a c.args.b c.loop-i.i c.loop-i-test.false }
