use Rattle.formula.specs.Pool.{tree_of}
use Rattle.event_reading.proofs.Calls.{implied_not_two}
use Rattle.event_reading.proofs.shapes.implication.Goals as goal

pub returns-in_default-two-clause-value : goal.returns-in_default-two-clause-value
returns-in_default-two-clause-value c = implied_not_two c.args.pool.now c.in-Some.args.now (tree_of c.args.pool.now c.args.id) c.in_default-two.ensures c.in-Some.ensures.value
