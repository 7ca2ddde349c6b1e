use Rattle.std.proofs.Common.{◌≡◌, ℕ, ◌+◌, ◌*◌, ◌≤◌, Bool, false, not, length, set, replicate, sym, ap, ◌∙◌, arith}
use mathlib.Core.Bool.{beq}
use Rattle.gf2.specs.Words.{bits, with_bits_of}
use Rattle.gf2.proofs.Places.{bits_length}
use Rattle.gf2.proofs.Copying.{both, written}
use Rattle.wordcode.proofs.Padding.{bits_of_zeros}
use Rattle.wordcode.proofs.Messages.{message_written}
use Rattle.wordcode.proofs.word.write_message.Goals as goal

pub returns : goal.returns
returns g c =
    let S = g.C.InnerCode.setting in
    let K = g.C.InnerCode.DATA in
    let before = c.args.message.now in
    let N = length (bits before) in
    let V = bits c.args.inner.now in
    let out = bits c.put.new.bytes in
    let cleared : bits c.fill.new.self ≡ replicate N false =
    ap bits (c.fill.ensures.after (λ y e. e)) ∙ bits_of_zeros (length before)
    ∙ ap (λ (n : ℕ). replicate n false) (let e : length before * 8 ≡ N = omega (arith, bits_length before) in e) in
    let enough : K ≤ length V = omega (arith, S.page_fits, bits_length c.args.inner.now, c.fits-inner) in
    let room : 1 + K ≤ length out =
    omega (arith, c.requires.message_has_room, bits_length c.put.new.bytes, bits_length c.args.message.now, c.put.auto.bytes, c.fill.auto.self) in
    let copied =
    c.copy_bits.ensures.copies_those_bits_alone ∙ ap (λ (k : ℕ). with_bits_of k V 0 out 1) c.DATA.ensures ∙ sym (written K V 0 out 1 (both K V 0 out 1 (omega (arith, enough)) room)) in
    record {
      written =
          message_written N K c.args.u V (bits c.fill.new.self) out (bits c.copy_bits.new.out) (bits c.put-2.new.bytes) (omega (arith, c.requires.message_has_room))
          (omega (arith, S.a_byte_at_least)) enough cleared c.put.ensures.only_that_bit_is_set_so copied
          (c.put-2.ensures.only_that_bit_is_set_so ∙ ap (λ (b : Bool). set (bits c.copy_bits.new.out) 1 (not (beq b c.args.u))) c.is_set.ensures.the_bit_there);
    }
