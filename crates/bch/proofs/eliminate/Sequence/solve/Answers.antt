use Rattle.std.proofs.Common.{◌≡◌, ℕ, suc, ◌+◌, ◌-◌, ◌<◌, ◌≤◌, List, ap, ◌∙◌, arith}
use Rattle.gf2.specs.Fields.{product}
use Rattle.bch.specs.Elimination.{met_one, met_all, sequence}
use Rattle.bch.specs.Decoding.{inverse_or_0}
use Rattle.bch.proofs.eliminate.Sequence.solve.Goals as goal

module _ (m : ℕ → ℕ → ℕ) (inv s : ℕ → ℕ) where
  turn : (n i : ℕ) (ps : List (List ℕ)) → i < n → met_all m inv s (n - (i + 1)) (i + 1) (met_one m inv s i ps) ≡ met_all m inv s (n - i) i ps
  unfolding met_all
  turn n i ps h =
      ap (λ (j : ℕ). met_all m inv s (n - (i + 1)) j (met_one m inv s i ps)) (let e : i + 1 ≡ suc i = omega arith in e)
      ∙ ap (λ (k : ℕ). met_all m inv s k i ps) (let e : suc (n - (i + 1)) ≡ n - i = omega arith in e)

  end : (n i : ℕ) (ps : List (List ℕ)) → n ≤ i → ps ≡ met_all m inv s (n - i) i ps
  unfolding met_all
  end n i ps h = ap (λ (k : ℕ). met_all m inv s k i ps) (let e : 0 ≡ n - i = omega arith in e)

pub loop-i-preserved : goal.loop-i-preserved
loop-i-preserved c =
    let F = c.args.self.now.field in
    let m = product F in
    let inv = inverse_or_0 F in
    let s = sequence c.args.self.now.members in
    let t = c.args.t in
    let i = c.loop-i.i in (
      omega (arith, c.loop-i.invariant.0, c.meet.ensures.one_fewer_at_most),
      ap (met_all m inv s (t + 1 - (i + 1)) (i + 1)) c.meet.ensures.those_that_meet_it ∙ turn m inv s (t + 1) i c.loop-i.polys.items c.loop-i-test.true
          ∙ c.loop-i.invariant.1,
    )

pub returns : goal.returns
returns c =
    let F = c.args.self.now.field in
    record {
      meet_all_equations = end (product F) (inverse_or_0 F) (sequence c.args.self.now.members) (c.args.t + 1) c.loop-i.i c.loop-i.polys.items c.loop-i-test.false
          ∙ c.loop-i.invariant.1;
    }
