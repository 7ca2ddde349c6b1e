use Rattle.std.proofs.Common.{refl, lit<}
use Rattle.gf2.specs.declared.field.Field.TheVariants.{Ten}
use Rattle.gf2.specs.Product.{times_x}
use Rattle.gf2.proofs.Table.{rule, steps}
use Rattle.gf2.proofs.powers.table.Goals as goal

pub returns : goal.returns
unfolding steps times_x
returns c = record { each_is_alpha_times_the_one_before = rule Ten _ (lit< tt) tt; one_for_each_element_but_0 = refl }
