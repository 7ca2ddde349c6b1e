use Rattle.std.proofs.Common.{◌≡◌, ℕ, ◌*◌, ◌/◌, ◌^◌, ◌<◌, Bool, false, cond, [], get_or, take, sym, refl, ap, ◌∙◌, subst, ap₂, arith, pow_pos}
use lib.Bits.{bit_xor, xor_zero_r}
use Rattle.std.proofs.lemmas.List.{get_or-take, length-take}
use Rattle.gf2.specs.Words.{bits, bits_of}
use Rattle.gf2.specs.Product.{times_x}
use Rattle.gf2.proofs.Places.{bits_length}
use Rattle.bch.specs.declared.code.Bch.{Bch}
use Rattle.bch.specs.Checks.{running, remainder}
use Rattle.bch.specs.Settings.{generator_top, generator_tail, check_bits, checks_number}
use Rattle.bch.specs.Theory.Remainder.{remainder_lt}
use Rattle.bch.specs.Theory.Tested.{tested}
use Rattle.bch.proofs.Bytes.{byte_more}
use Rattle.bch.proofs.Runs as runs
use Rattle.bch.proofs.code.Bch.remainder.Goals as goal
use Rattle.bch.proofs.code.Bch.remainder.Goals.{then-is_set, else-is_set}

start : (C : Bch) → 0 ≡ checks_number C []
unfolding running
start C = refl

pub slice_bounds-byte-items-end : goal.slice_bounds-byte-items-end
slice_bounds-byte-items-end c = omega (arith, bits_length c.args.bytes.now, c.requires.enough, length-take (c.args.count / 8) c.args.bytes.now)

pub loop-byte-init : goal.loop-byte-init
loop-byte-init c = start c.args.self

pub next_byte-register-requires : goal.next_byte-register-requires
next_byte-register-requires c =
    let C = c.args.self in
    let w = take (c.loop-byte.byte-index * 8) (bits c.args.bytes.now) in
    record {
      remainders = c.remainders-table.ensures.each_at_its_byte;
      reduced = subst (λ (x : ℕ). x < 2 ^ check_bits C) (sym c.loop-byte.invariant) (remainder_lt (generator_top C) (generator_tail C) (tested C).tail w 0 (pow_pos (check_bits C)));
    }

pub loop-byte-preserved : goal.loop-byte-preserved
loop-byte-preserved c =
    let C = c.args.self in
    let n = generator_top C in
    let g = generator_tail C in
    let bs = c.args.bytes.now in
    let i = c.loop-byte.byte-index in
    let inside : i < c.args.count / 8 = omega (arith, bits_length bs, c.requires.enough, length-take (c.args.count / 8) bs) in
    c.next_byte-register.ensures.eight_bits_on
    ∙ ap₂ (λ (r b : ℕ). remainder n g r (bits_of 8 b)) c.loop-byte.invariant (get_or-take (c.args.count / 8) bs i 0 inside)
    ∙ sym (ap (checks_number C) (byte_more bs i (omega (arith, bits_length bs, inside, c.requires.enough))) ∙ runs.on (times_x n g) g 0 (take (i * 8) (bits bs)) (bits_of 8 (get_or bs i 0)))

pub loop-skip-init : goal.loop-skip-init
loop-skip-init c = c.loop-byte.invariant ∙ ap (λ (k : ℕ). checks_number c.args.self (take k (bits c.args.bytes.now))) (let e : c.loop-byte.byte-index * 8 ≡ c.args.count / 8 * 8 = omega (arith, bits_length c.args.bytes.now, c.requires.enough, length-take (c.args.count / 8) c.args.bytes.now) in e)

pub loop-skip-preserved : goal.loop-skip-preserved
loop-skip-preserved c =
    let C = c.args.self in
    let n = generator_top C in
    let g = generator_tail C in
    let w = bits c.args.bytes.now in
    let i = c.loop-skip.skip in
    let eg = c.generator-generator.ensures.lower_terms in
    let moved : c.times_x-register.result ≡ times_x n g c.loop-skip.register =
    c.times_x-register.ensures.moves_up_and_reduces ∙ ap₂ (λ (a b : ℕ). times_x a b c.loop-skip.register) c.generator-generator.ensures.one_less_than_the_degree eg in
    let v : c.if-is_set.register ≡ bit_xor (times_x n g c.loop-skip.register) (cond (get_or w i false) g 0) =
    elim c.if-is_set.branch [
      | then-is_set y ↦ y.register-is ∙ ap₂ bit_xor moved (eg ∙ ap (λ (b : Bool). cond b g 0) y.if-is_set.ensures.the_bit_there)
      | else-is_set y ↦
          y.register-is ∙ sym (xor_zero_r c.times_x-register.result) ∙ ap₂ bit_xor moved (ap (λ (b : Bool). cond b g 0) y.if-is_set.ensures.the_bit_there)
    ] in
    runs.turn (times_x n g) g 0 c.loop-skip.register c.if-is_set.register w i (omega (arith, c.loop-skip-test.true, c.requires.enough)) v c.loop-skip.invariant
