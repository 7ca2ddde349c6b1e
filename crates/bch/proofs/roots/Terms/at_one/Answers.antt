use Rattle.std.proofs.Common.{◌≡◌, rules, ◌∙◌, arith}
use Rattle.gf2.specs.Fields.{product}
use Rattle.bch.specs.Elimination.{sequence}
use Rattle.bch.proofs.Terms.{at_one}
use Rattle.bch.proofs.roots.Terms.at_one.Goals as goal

pub returns-clause-its_terms : goal.returns-clause-its_terms
returns-clause-its_terms c = record {
  six = omega arith;
  each = λ k h.
      let call = c.from_fn.ensures.items.at k 0 (omega arith) in
      let value : sequence c.from_fn.result k ≡ product c.args.field (sequence c.args.poly.now k) 1 = search rules in
      value ∙ at_one c.args.field (sequence c.args.poly.now k) k;
}
