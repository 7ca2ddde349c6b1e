use Rattle.std.proofs.Common.{ap, ◌∙◌}
use Rattle.std.specs.Prelude.{ℕ, Option, unwrap_or}
use Rattle.gf2.specs.Words.{bits}
use Rattle.steps.proofs.Texts.{number_within}
use Rattle.steps.proofs.show.Bits.number.Goals as goal

pub returns : goal.returns
returns c =
    let b = c.self.inside in
    record {
      number_of_those =
          c.unwrap_or.ensures ∙ ap (λ (o : Option ℕ). unwrap_or o 0) c.number.ensures.number_of_those_bits
          ∙ number_within (bits b.bytes.now) c.args.self.now b.count c.args.skip c.args.width c.self.view_is c.self.invariant c.requires.has_them c.requires.narrow.0 c.requires.narrow.1;
    }
