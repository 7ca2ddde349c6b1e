use Rattle.std.proofs.Common.{◌≡◌, ℕ, ◌+◌, ◌-◌, ◌/◌, ◌%◌, ◌^◌, ◌<◌, ◌≤◌, Bool, true, false, cond, ◌≢◌, [], get_or, take, eqb, sym, refl, ap, ◌∙◌, ap₂, arith, eq-eqb}
use lib.Bits.{bit_and, bit_xor, and_mask, xor_zero_r}
use Rattle.std.proofs.lemmas.List.{take_all}
use Rattle.std.proofs.lemmas.Bool.{ne_eqb}
use Rattle.gf2.specs.declared.field.Field.{Field}
use Rattle.gf2.specs.Words.{bits_of}
use Rattle.gf2.specs.Fields.{width, product, power, alpha}
use Rattle.gf2.proofs.Digits.{bits_of_at}
use Rattle.gf2.proofs.Five as five
use Rattle.gf2.proofs.Sums.{bits_of_length}
use Rattle.bch.specs.Checks.{running}
use Rattle.bch.specs.Settings.{field, check_bits}
use Rattle.bch.specs.Theory.Horner.{horner, horner_0}
use Rattle.bch.proofs.Runs as runs
use Rattle.bch.proofs.code.Bch.syndrome.Goals as goal

-- the bit of the number that the test reads
set_bit : (x n i p : ℕ) → p ≡ n - 1 - i → i < n → bit_and (x / 2 ^ p) 1 ≡ 1 → true ≡ get_or (bits_of n x) i false
set_bit x n i p e h t =
    sym (bits_of_at n i x h ∙ ap (λ (j : ℕ). eqb (x / 2 ^ j % 2) 1) (sym e) ∙ eq-eqb (x / 2 ^ p % 2) 1 (sym (and_mask (x / 2 ^ p) 1) ∙ t))

clear_bit : (x n i p : ℕ) → p ≡ n - 1 - i → i < n → bit_and (x / 2 ^ p) 1 ≢ 1 → false ≡ get_or (bits_of n x) i false
clear_bit x n i p e h t =
    sym (bits_of_at n i x h ∙ ap (λ (j : ℕ). eqb (x / 2 ^ j % 2) 1) (sym e) ∙ ne_eqb (x / 2 ^ p % 2) 1 (λ q. t (and_mask (x / 2 ^ p) 1 ∙ q)))

start : (m : ℕ → ℕ → ℕ) (z : ℕ) → 0 ≡ horner m z 0 []
unfolding running
start m z = refl

-- one bit more, in the field at hand
turn : (F G : Field) (j x n p s v r : ℕ) (b : Bool) → G ≡ F → 0 < p → p ≤ n → v ≡ product G (power G alpha j) s → r ≡ bit_xor v (cond b 1 0) → b ≡ get_or (bits_of n x) (n - p) false
    → s ≡ horner (product F) (power F alpha j) 0 (take (n - p) (bits_of n x)) → r ≡ horner (product F) (power F alpha j) 0 (take (n - (p - 1)) (bits_of n x))
turn F G j x n p s v r b eF h l ev er eb inv =
    runs.turn (product F (power F alpha j)) 1 0 s r (bits_of n x) (n - p) (omega (arith, bits_of_length n x))
    (er ∙ ap₂ (λ (a : ℕ) (c : Bool). bit_xor a (cond c 1 0)) (ev ∙ ap (λ (K : Field). product K (power K alpha j) s) eF) eb) inv
    ∙ ap (λ (i : ℕ). horner (product F) (power F alpha j) 0 (take i (bits_of n x))) (let e : n - p + 1 ≡ n - (p - 1) = omega arith in e)

pub loop-place-init : goal.loop-place-init
loop-place-init c =
    let C = c.args.self in
    start (product (field C)) (power (field C) alpha c.args.j)
    ∙ ap (λ (i : ℕ). horner (product (field C)) (power (field C) alpha c.args.j) 0 (take i (bits_of (check_bits C) c.args.number)))
    (let e : 0 ≡ check_bits C - c.degree-place.result = omega (arith, c.degree-place.ensures.check_bits_of_a_word) in e)

pub loop-place-preserved-then-number-place-eq1 : goal.loop-place-preserved-then-number-place-eq1
loop-place-preserved-then-number-place-eq1 c =
    let C = c.args.self in
    let n = check_bits C in
    let p = c.loop-place.place in
    let l : p ≤ n = omega (arith, c.degree-place.ensures.check_bits_of_a_word) in
    turn (field C) c.field-field.result c.args.j c.args.number n p c.loop-place.sum c.times_power-sum.result _ true c.field-field.ensures.its_field (omega arith) l
    c.times_power-sum.ensures.product_with_that_power refl
    (set_bit c.args.number n (n - p) (p - 1) (omega arith) (omega arith) c.if-number-place-eq1.true) c.loop-place.invariant

pub loop-place-preserved : goal.loop-place-preserved
loop-place-preserved c =
    let C = c.args.self in
    let n = check_bits C in
    let p = c.loop-place.place in
    let l : p ≤ n = omega (arith, c.degree-place.ensures.check_bits_of_a_word) in
    turn (field C) c.field-field.result c.args.j c.args.number n p c.loop-place.sum c.times_power-sum.result _ false c.field-field.ensures.its_field (omega arith) l
    c.times_power-sum.ensures.product_with_that_power (sym (xor_zero_r c.times_power-sum.result))
    (clear_bit c.args.number n (n - p) (p - 1) (omega arith) (omega arith) c.if-number-place-eq1.false) c.loop-place.invariant

pub returns : goal.returns
returns c =
    let C = c.args.self in
    let F = field C in
    let z = power F alpha c.args.j in
    let w = bits_of (check_bits C) c.args.number in
    record {
      value_at_that_power =
          c.loop-place.invariant
          ∙ ap (horner (product F) z 0) (take_all (check_bits C - c.loop-place.place) w (omega (arith, bits_of_length (check_bits C) c.args.number)))
          ∙ horner_0 (width F) (product F) (five.field F) z w;
    }
