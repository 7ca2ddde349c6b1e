use Rattle.std.proofs.Common.{Bool, cond, Some, None, ◌∙◌, ap, sym, arith, rules, tests, length}
use Rattle.std.proofs.lemmas.Iterator.{YieldsList-from_map, YieldsList-from_slice, YieldsList-from_zip}
use Rattle.std.proofs.lemmas.Iterator.Consumers.{YieldsList-at, sum_by_from_yields_List, fits_by_from_yields_list}
use Rattle.std.proofs.lemmas.Bool.{eq-eqb}
use Rattle.gf2.specs.Words.{bits, distance}
use Rattle.gf2.proofs.Weights.{differing, distance_bits, differing_at_most}
use Rattle.gf2.proofs.bits.distance.Goals as goal

pub sum-requires-clause-fits : goal.sum-requires-clause-fits
sum-requires-clause-fits c =
    let cs = c.args.a.now in
    let bs = c.args.b.now in
    fits_by_from_yields_list _ _ c.map.result _
    (YieldsList-from_map _ differing (YieldsList-at c.map.ensures.source (YieldsList-from_zip (YieldsList-from_slice cs cc) (YieldsList-from_slice bs cc))) c.map.ensures.closure
    (λ x r q k. search (rules, tests)))
    (omega (arith, differing_at_most cs bs (λ i. omega (arith, c.type_inv.a i)) (λ i. omega (arith, c.type_inv.b i))))

pub returns : goal.returns
returns c =
    let cs = c.args.a.now in
    let bs = c.args.b.now in
    record {
      number_of_differing_bits =
          ap Some
          (sum_by_from_yields_List _ _ c.map.result _ c.sum.ensures.ran
          (YieldsList-from_map _ differing (YieldsList-at c.map.ensures.source (YieldsList-from_zip (YieldsList-from_slice cs cc) (YieldsList-from_slice bs cc))) c.map.ensures.closure
          (λ x r q k. search (rules, tests)))
          ∙ distance_bits cs bs c.if-a-b.false (λ i. omega (arith, c.type_inv.a i)) (λ i. omega (arith, c.type_inv.b i)))
          ∙ sym (ap (λ (b : Bool). cond b (Some (distance (bits cs) (bits bs))) None) (eq-eqb (length cs) (length bs) c.if-a-b.false));
    }
