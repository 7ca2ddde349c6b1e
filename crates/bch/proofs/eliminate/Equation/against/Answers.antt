use Rattle.std.proofs.Common.{◌-◌, drop, length-drop, ◌∙◌, arith}
use Rattle.std.proofs.lemmas.List.{take_all}
use Rattle.gf2.specs.Fields.{product}
use Rattle.bch.proofs.Rows.{dot_is_against}
use Rattle.bch.proofs.eliminate.Equation.against.Goals as goal

pub returns : goal.returns
returns c =
    let s = c.args.self.now.sequence.members in
    let i = c.args.self.now.i in
    record {
      sum_of_products = c.dot.ensures.sum_of_products
          ∙ dot_is_against (product c.args.self.now.sequence.field) c.args.poly.now s _ i (take_all (11 - i) (drop i s) (omega (arith, length-drop i s))) (omega arith);
    }
