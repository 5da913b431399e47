use Rattle.std.proofs.Common.{refl}
use Rattle.formula.specs.Pool.{tree_of}
use Rattle.fort_model.specs.Senses.{of_terms, undefined}
use Rattle.walk_state.specs.declared.walk.Walk.{Walk}
use Rattle.walk_state.specs.Moments.{moment}
use Rattle.walk_state.proofs.Parts.{grew}
use Rattle.walk_values.proofs.Checked.{did_see}
use Rattle.walk_intrinsics.proofs.functions.nothing.Goals as goal

pub returns-in_default-clause-on : goal.returns-in_default-clause-on
returns-in_default-clause-on c = (grew c.args.walk.now _ c.requires c.undefined.ensures.grows refl refl refl).on

pub returns-clause-on : goal.returns-clause-on
returns-clause-on c = (grew c.args.walk.now _ c.requires c.undefined.ensures.grows refl refl refl).on

pub returns-clause-did : goal.returns-clause-did
returns-clause-did c p i u =
    let w0 = c.args.walk.now in
    let w1 : Walk = record { pool = c.undefined.new.pool; names = w0.names; met = w0.met; calls = w0.calls; alloc = w0.alloc } in
    did_see (moment w0) (moment w1) (undefined of_terms) (tree_of w1.pool c.in-Ok.id) (grew w0 w1 c.requires c.undefined.ensures.grows refl refl refl).same c.in-Ok.ensures.tree
