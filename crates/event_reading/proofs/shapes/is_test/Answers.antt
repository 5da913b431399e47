use Rattle.formula.specs.Pool.{tree_of}
use Rattle.event_reading.proofs.Calls.{test_not_two}
use Rattle.event_reading.proofs.shapes.is_test.Goals as goal

pub returns-in_default-two : goal.returns-in_default-two
returns-in_default-two c = test_not_two c.args.word c.args.pool.now c.in-Some.args.now (tree_of c.args.pool.now c.args.id) c.in_default-two.ensures c.in-Some.ensures.value
