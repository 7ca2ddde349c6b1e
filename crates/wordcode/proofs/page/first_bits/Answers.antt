use Rattle.std.proofs.Common.{◌≡◌, ℕ, ◌-◌, ◌*◌, false, [], length, take, replicate, sym, refl, ap, ◌∙◌, arith}
use Rattle.gf2.specs.Words.{bits, with_run}
use Rattle.gf2.proofs.Places.{bits_length}
use Rattle.gf2.proofs.Copying.{both, written}
use Rattle.wordcode.specs.Bytes.{padded}
use Rattle.wordcode.proofs.Padding.{bits_of_zeros, padded_run}
use Rattle.wordcode.proofs.page.first_bits.Goals as goal

pub returns : goal.returns
returns c =
    let n = c.args.count in
    let P = bits c.args.page.now in
    let W = c.args.word.now in
    let N = length (bits W) in
    let O = bits c.fill.new.self in
    let cleared : O ≡ padded N [] =
    ap bits (c.fill.ensures.after (λ y e. e)) ∙ bits_of_zeros (length W)
    ∙ ap (λ (i : ℕ). replicate i false) (let e : length W * 8 ≡ N - 0 = omega (arith, bits_length W) in e) in
    record {
      those_bits_then_zeros =
          c.copy_bits.ensures.copies_those_bits_alone
          ∙ sym (written n P 0 O 0 (both n P 0 O 0 (omega (arith, c.requires.page_has_them)) (omega (arith, c.requires.room, bits_length W, bits_length c.fill.new.self, c.fill.auto.self))))
          ∙ ap (with_run 0 (take n P)) cleared ∙ padded_run N 0 [] (take n P) refl;
    }
