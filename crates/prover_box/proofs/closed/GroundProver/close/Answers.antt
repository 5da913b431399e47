use Rattle.prover_box.proofs.ClosedGoals.{answer_by}
use Rattle.prover_box.proofs.closed.GroundProver.close.Goals as goal

pub returns-clause-answer : goal.returns-clause-answer
returns-clause-answer c = answer_by c.args.pool.now c.args.definitions.now c.args.c.now c.requires.added c.passes.result c.passes.ensures
