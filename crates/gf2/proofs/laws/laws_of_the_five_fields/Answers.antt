use Rattle.gf2.specs.Fields.{width, product}
use Rattle.gf2.proofs.Five.{field, alpha_generates}
use Rattle.gf2.proofs.Roots.{few_roots}
use Rattle.gf2.proofs.Vandermonde.{vandermonde}
use Rattle.gf2.proofs.laws.laws_of_the_five_fields.Goals as goal

pub returns : goal.returns
returns c = record {
  each_is_a_field = field;
  alpha_runs_through_every_element_but_0 = alpha_generates;
  sums_of_powers_vanish_only_with_zero_coefficients = λ F. vandermonde (width F) (product F) (field F);
  a_polynomial_has_at_most_its_degree_of_roots = λ F. few_roots (width F) (product F) (field F);
}
