use Rattle.std.proofs.Common.{length, sym, true≢false, arith}
use Rattle.formula.specs.Pool.{tree_of}
use Rattle.formula.proofs.Growth.{argument_at}
use Rattle.prover_box.proofs.Standing.{found_nowhere}
use Rattle.prover_box.proofs.subsumption.stands_among.Goals as goal

pub is_goal_or_false-requires-clause-hyp : goal.is_goal_or_false-requires-clause-hyp
is_goal_or_false-requires-clause-hyp c = argument_at (length c.args.pool.now) c.args.hyps.now c.loop-hyp.hyp-index _ c.requires.hyps c.loop-hyp-test.true

pub returns : goal.returns
returns c =
    let pool = c.args.pool.now in
    ((λ h. absurd (true≢false (sym h))), (λ h. absurd (found_nowhere pool c.args.hyps.now (tree_of pool c.args.goal) (λ k below. c.loop-hyp.invariant.none k (omega (arith, below))) h)))
