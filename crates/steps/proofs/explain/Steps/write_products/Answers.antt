use Rattle.std.proofs.Common.{rules, sym}
use Rattle.std.proofs.Output.{has_written_append, has_written_of_eq}
use Rattle.steps.proofs.Texts.{products_shown_more}
use Rattle.steps.proofs.explain.Steps.write_products.Goals as goal

pub loop-pair-preserved : goal.loop-pair-preserved
loop-pair-preserved g c =
    let e = c.args.self.now in
    λ p. has_written_of_eq _ _ _ _ _ (sym (products_shown_more e.field c.loop-pair.pair e.v_k)) (has_written_append _ _ _ _ _ _ (c.loop-pair.invariant p) (search rules))
