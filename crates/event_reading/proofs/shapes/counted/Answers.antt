use Rattle.formula.specs.Pool.{tree_of}
use Rattle.event_reading.proofs.Calls.{counted_other}
use Rattle.event_reading.proofs.shapes.counted.Goals as goal

pub returns-in_default-three-clause-value : goal.returns-in_default-three-clause-value
returns-in_default-three-clause-value c = counted_other c.args.params.now c.args.pool.now c.in-Some.args.now (tree_of c.args.pool.now c.args.id) c.in_default-three.ensures c.in-Some.ensures.value
