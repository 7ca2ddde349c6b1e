use Rattle.std.proofs.Common.{rules, arith, ap, ◌∙◌}
use Rattle.std.proofs.Output.{has_written_append, has_written_of_eq}
use Rattle.gf2.specs.Fields.{width}
use Rattle.steps.specs.Shown.{digits}
use Rattle.steps.proofs.Texts.{shown_more, shown_whole}
use Rattle.steps.proofs.show.ElementDisplay.fmt.Goals as goal

pub loop-place-preserved : goal.loop-place-preserved
loop-place-preserved g c =
    λ p. has_written_of_eq _ _ _ _ _ (shown_more (width c.self.inside.field) c.self.inside.value c.loop-place.place (omega arith) (omega arith)) (has_written_append _ _ _ _ _ _ (c.loop-place.invariant p) (search rules))

pub returns-clause-writes : goal.returns-clause-writes
returns-clause-writes g c = λ p e. has_written_of_eq _ _ _ _ _ (shown_whole _ _ _ c.loop-place-test.false ∙ ap digits c.self.view_is) (c.loop-place.invariant p)
