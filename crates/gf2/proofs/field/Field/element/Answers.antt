use Rattle.std.proofs.Common.{ℕ, ◌-◌, ◌*◌, ◌%◌, ◌^◌, ap, ◌∙◌, arith}
use lib.Bits.{bit_and}
use Rattle.gf2.specs.Fields.{width}
use Rattle.gf2.proofs.Five.{widths}
use Rattle.gf2.proofs.Masks.{low_bits}
use Rattle.gf2.proofs.field.Field.element.Goals as goal

pub returns : goal.returns
returns c =
    let F = c.args.self in
    let a = c.args.a in
    record {
      low_bits =
          ap (λ (k : ℕ). bit_and a ((1 * 2 ^ k) % 2 ^ 16 - 1)) c.width.ensures.bits_of_an_element
          ∙ low_bits 16 (width F) a (omega (arith, (widths F).1));
    }
