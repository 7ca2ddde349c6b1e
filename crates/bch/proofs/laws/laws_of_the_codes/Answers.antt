use Rattle.bch.specs.Theory.Inner as own
use Rattle.bch.specs.Theory.Laws as trait_laws
use Rattle.bch.proofs.laws.laws_of_the_codes.Goals as goal

pub returns : goal.returns
returns c = record { each_is_an_inner_code = own.inner_code; each_meets_the_laws_of_the_trait = trait_laws.inner_code }
