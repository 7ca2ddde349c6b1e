use Rattle.std.proofs.Common.{ℕ, eqb, ap, ◌∙◌, arith}
use Rattle.gf2.specs.Fields.{product}
use Rattle.bch.specs.Decoding.{running_value}
use Rattle.bch.proofs.Rows.{all_vanish_is}
use Rattle.bch.proofs.Terms.{first_fails, value_is}
use Rattle.bch.proofs.eliminate.Survivors.vanish.Goals as goal

pub returns-then-total-eq0 : goal.returns-then-total-eq0
returns-then-total-eq0 c =
    let F = c.args.first.now.field in
    let y = c.args.first.now.point in
    record {
      all_are_0_there = c.vanish_at.ensures.all_are_0_there
          ∙ all_vanish_is (product F) (running_value F y) y c.deref.result.now c.args.self.now.polys.items c.deref.ensures.0 (value_is F y);
    }

pub returns-else-total-eq0 : goal.returns-else-total-eq0
returns-else-total-eq0 c =
    record {
      all_are_0_there =
          ap (λ (x : ℕ). eqb x 0) c.total.ensures.sum_of_all
          ∙ first_fails c.args.first.now.field c.args.self.now.polys.items c.args.first.now.values c.args.first.now.point (omega arith) (omega arith)
          c.requires.terms_of_the_first (λ e. c.if-total-eq0.false (c.total.ensures.sum_of_all ∙ e));
    }
