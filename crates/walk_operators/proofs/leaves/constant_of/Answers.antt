use Rattle.formula.specs.Pool.{tree_of}
use Rattle.fort_model.specs.Conditions.{sight}
use Rattle.fort_model.specs.Senses.{of_terms}
use Rattle.fort_model.specs.WalkExpr as steps
use Rattle.walk_state.specs.Moments.{moment}
use Rattle.walk_operators.proofs.Computed.{did_computed}
use Rattle.walk_operators.proofs.leaves.constant_of.Goals as goal

pub returns-clause-did : goal.returns-clause-did
returns-clause-did c p i u e =
    let s = sight of_terms p i u in
    let w1 = c.constant.new.walk in
    did_computed s (moment c.args.walk.now) (moment w1) (steps.constant s c.args.card c.args.c) (tree_of w1.pool c.in_ok-value.value) (c.in_ok-value.ensures.did p i u e)
