use Rattle.gf2.proofs.Algebra.{is_polynomial_product}
use Rattle.gf2.proofs.laws.laws_of_the_product.Goals as goal

pub returns : goal.returns
returns c = record { it_is_the_product_of_polynomials = is_polynomial_product }
