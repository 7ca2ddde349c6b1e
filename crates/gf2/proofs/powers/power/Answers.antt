use Rattle.std.proofs.Common.{ℕ, ◌%◌, ◌<◌, sym, ◌∙◌, subst, mod-lt, lit<}
use Rattle.gf2.specs.declared.field.Field.TheVariants.{Ten}
use Rattle.gf2.specs.Fields.{alpha, product, width}
use Rattle.gf2.proofs.Five.{ring, field, alpha_generates}
use Rattle.gf2.proofs.PowerLaws.{power_round}
use Rattle.gf2.proofs.Table.{entry}
use Rattle.gf2.proofs.powers.power.Goals as goal

pub returns : goal.returns
returns c =
    let i = c.args.i in
    record {
      power_of_alpha =
          entry Ten c.table.result.now c.table.ensures.each_is_alpha_times_the_one_before (i % 1023)
          (subst (λ (n : ℕ). i % 1023 < n) (sym c.table.ensures.one_for_each_element_but_0) (mod-lt i (lit< tt)))
          ∙ power_round (width Ten) (product Ten) (ring Ten) (field Ten).nontrivial alpha 1023 (alpha_generates Ten).around i;
    }
