use Rattle.std.proofs.Common.{rules, arith}
use Rattle.gf2.specs.Fields.{product}
use Rattle.bch.proofs.Rows.{add_scaled_is}
use Rattle.bch.proofs.eliminate.combined.Goals as goal

pub returns : goal.returns
returns c = record {
  scaled_sum =
      add_scaled_is (product c.args.field) c.args.a c.args.p.now c.args.q.now c.from_fn.result (omega arith) (omega arith)
      (λ k h. let call = c.from_fn.ensures.items.at k 0 (omega arith) in search rules);
}
