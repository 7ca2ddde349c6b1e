use Rattle.std.proofs.Common.{◌≡◌, ℕ, ◌<◌, ◌≤◌, take, drop, unwrap_or, ap, ◌∙◌, arith, length-drop}
use lib.Bits.{bit_xor, xor_lt}
use lib.Count.{ones, ones-le}
use Rattle.std.proofs.lemmas.List.{length-take-le}
use Rattle.gf2.specs.Words.{bits, number, number_behind}
use Rattle.gf2.specs.Fields.{width}
use Rattle.gf2.proofs.Five.{widths}
use Rattle.wordcode.proofs.LastBits.{number_there, counted}
use Rattle.wordcode.proofs.last.bits_apart.Goals as goal

at_most_16 : (a b : ℕ) → a < 65536 → b < 65536 → ones (bit_xor a b) ≤ 16
at_most_16 a b ha hb = ones-le 16 (bit_xor a b) (xor_lt 16 a b ha hb)

pub returns : goal.returns
returns c =
    let W = bits c.args.word.now in
    let s = c.args.skip in
    let F = c.args.field in
    let x = take (width F) (drop s W) in
    let value : c.unwrap_or-there.result ≡ number x =
    c.unwrap_or-there.ensures ∙ ap (λ (o : _). unwrap_or o 0) (c.number.ensures.number_of_those_bits ∙ ap (number_behind W s) c.width.ensures.bits_of_an_element)
    ∙ number_there W s (width F) (omega arith) (omega (arith, (widths F).1)) c.requires.word_has_them in
    record {
      differing_bits =
          ap (λ (n : ℕ). ones (bit_xor n c.args.last)) value
          ∙ counted (width F) x c.args.last (length-take-le (width F) (drop s W) (omega (arith, length-drop s W, c.requires.word_has_them))) c.requires.an_element;
      no_more_than_16 = at_most_16 c.unwrap_or-there.result c.args.last c.unwrap_or-there.type_inv c.ranges.last.fits;
    }
