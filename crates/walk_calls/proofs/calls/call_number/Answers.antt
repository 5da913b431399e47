use Rattle.formula.specs.Pool.{tree_of}
use Rattle.walk_operands.specs.Operands.{operand_trees}
use Rattle.walk_setting.proofs.Units.{drop_there}
use Rattle.walk_state.specs.Moments.{moment}
use Rattle.walk_calls.proofs.Numbered.{called_past, called_there}
use Rattle.walk_calls.proofs.calls.call_number.Goals as goal

pub invariant_of-called : goal.invariant_of-called
invariant_of-called c =
    record { callee_is = drop_there c.args.setting.now.scene.now.books.now.units.now c.args.number c.book.result.now.unit.now c.book.ensures }

pub returns-clause-did : goal.returns-clause-did
returns-clause-did c =
    let w0 = c.args.walk.now in
    let w1 = c.call_unit.new.walk in
    let s = c.args.setting.now in
    called_there w0.pool s c.args.card (operand_trees w0.pool c.args.operands.now) (moment w0) (moment w1) (tree_of w1.pool c.in-Ok-call_unit.value) c.args.number c.book.result.now.unit.now c.book.ensures c.in-Ok-call_unit.ensures.did

pub returns-then-number-setting-clause-did : goal.returns-then-number-setting-clause-did
returns-then-number-setting-clause-did c =
    let w0 = c.args.walk.now in
    let w1 = c.call_nothing.new.walk in
    called_past w0.pool c.args.setting.now c.args.card (operand_trees w0.pool c.args.operands.now) (moment w0) (moment w1) (tree_of w1.pool c.in-Ok.none) c.args.number c.if-number-setting.true c.call_nothing.ensures.same c.in-Ok.ensures.tree
