use Rattle.std.proofs.Common.{◌∙◌, sym}
use Rattle.gf2.specs.Fields.{product}
use Rattle.bch.specs.Elimination.{sequence}
use Rattle.bch.specs.Decoding.{inverse_or_0}
use Rattle.bch.proofs.Rows.{first_fails, none_fails}
use Rattle.bch.proofs.eliminate.Equation.meet.Goals as goal

pub returns-in-Some-clause-those_that_meet_it : goal.returns-in-Some-clause-those_that_meet_it
returns-in-Some-clause-those_that_meet_it c =
    let F = c.args.self.now.sequence.field in
    first_fails (product F) (inverse_or_0 F) (sequence c.args.self.now.sequence.members) c.args.self.now.i c.args.polys.now.items c.deref.result.now c.deref_mut.result.now
    c.clear.new.polys c.pop.new.self.items c.in-Some.j c.deref.ensures.0 (sym c.in-Some.is ∙ c.first_failing.ensures.first_that_is_not_0) c.deref_mut.ensures.value c.clear.ensures.as_many
    c.clear.ensures.others_meet_it c.pop.ensures.rest

pub returns-in_default-clause-those_that_meet_it : goal.returns-in_default-clause-those_that_meet_it
returns-in_default-clause-those_that_meet_it c =
    let F = c.args.self.now.sequence.field in
    sym
    (none_fails (product F) (inverse_or_0 F) (sequence c.args.self.now.sequence.members) c.args.self.now.i c.args.polys.now.items c.deref.result.now c.deref.ensures.0
    (sym c.in_default.is ∙ c.first_failing.ensures.first_that_is_not_0))
