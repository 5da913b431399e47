use Rattle.std.proofs.Common.{ap, refl}
use Rattle.formula.specs.Pool.{tree_of}
use Rattle.formula.specs.Tree.{Tree, truth}
use Rattle.fort_model.specs.WalkCalls.{Computed}
use Rattle.walk_state.specs.declared.walk.Walk.{Walk}
use Rattle.walk_state.specs.Moments.{moment}
use Rattle.walk_state.proofs.Parts.{grew}
use Rattle.walk_values.proofs.Checked.{did_see}
use Rattle.walk_operators.proofs.leaves.truth_of.Goals as goal

pub returns-clause-on : goal.returns-clause-on
returns-clause-on c = (grew c.args.walk.now _ c.requires c.truth.ensures.grows refl refl refl).on

pub returns-clause-did : goal.returns-clause-did
returns-clause-did c p i u =
    let w0 = c.args.walk.now in
    let w1 : Walk = record { pool = c.truth.new.self; names = w0.names; met = w0.met; calls = w0.calls; alloc = w0.alloc } in
    did_see (moment w0) (moment w1) (Computed (truth c.args.b)) (Computed (tree_of w1.pool c.in-Ok.value)) (grew w0 w1 c.requires c.truth.ensures.grows refl refl refl).same
    (ap (λ (t : Tree). Computed t) c.in-Ok.ensures.tree)
