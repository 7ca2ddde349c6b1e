use Rattle.std.proofs.Common.{rules, sym}
use Rattle.std.proofs.Output.{has_written_append, has_written_of_eq}
use Rattle.steps.proofs.Texts.{groups_shown_more}
use Rattle.steps.proofs.explain.Steps.write_groups.Goals as goal

pub loop-index-preserved : goal.loop-index-preserved
loop-index-preserved g c =
    let e = c.args.self.now in
    λ p. has_written_of_eq _ _ _ _ _ (sym (groups_shown_more e.field c.loop-index.index e.v_k)) (has_written_append _ _ _ _ _ _ (c.loop-index.invariant p) (search rules))
