use Rattle.prover_box.proofs.Standing.{answer_by}
use Rattle.prover_box.proofs.subsumption.SubsumedProver.close.Goals as goal

pub returns-in_ok-keep-clause-answer : goal.returns-in_ok-keep-clause-answer
returns-in_ok-keep-clause-answer c = answer_by c.args.pool.now c.args._definitions.now c.args.c.now c.passes-closed.result c.passes-closed.ensures
