use Rattle.std.proofs.Common.{refl}
use Rattle.formula.specs.Tree.{Tree}
use Rattle.formula.proofs.Grown.{IsIn-Grows, tree_of-Grows}
use Rattle.fort_model.specs.Conditions.{sight}
use Rattle.fort_model.specs.Senses.{of_terms}
use Rattle.fort_model.specs.WalkExpr as steps
use Rattle.walk_state.specs.declared.walk.Walk.{Walk}
use Rattle.walk_state.specs.Moments.{moment}
use Rattle.walk_state.proofs.Parts.{follows_then, grew}
use Rattle.walk_values.proofs.Checked.{did_after}
use Rattle.walk_values.proofs.operations.in_range_of.Goals as goal

pub returns-in_default-clause-on : goal.returns-in_default-clause-on
returns-in_default-clause-on c = (grew c.args.walk.now _ c.requires.well c.operation.ensures.grows refl refl refl).on

pub ranged-requires-clause-well : goal.ranged-requires-clause-well
ranged-requires-clause-well c = (grew c.args.walk.now _ c.requires.well c.operation.ensures.grows refl refl refl).on.kept

pub returns-in_err-ranged-clause-on : goal.returns-in_err-ranged-clause-on
returns-in_err-ranged-clause-on c =
    let w0 = c.args.walk.now in
    let w1 : Walk = record { pool = c.operation.new.pool; names = w0.names; met = w0.met; calls = w0.calls; alloc = w0.alloc } in
    follows_then w0 w1 _ (grew w0 w1 c.requires.well c.operation.ensures.grows refl refl refl).on c.ranged.ensures.on

pub returns-clause-on : goal.returns-clause-on
returns-clause-on c =
    let w0 = c.args.walk.now in
    let w1 : Walk = record { pool = c.operation.new.pool; names = w0.names; met = w0.met; calls = w0.calls; alloc = w0.alloc } in
    follows_then w0 w1 _ (grew w0 w1 c.requires.well c.operation.ensures.grows refl refl refl).on c.ranged.ensures.on

pub returns-clause-is_in : goal.returns-clause-is_in
returns-clause-is_in c = IsIn-Grows _ _ c.in-Ok.value c.ranged.ensures.on.grows c.in-Ok.ensures.is_in

pub returns-clause-did : goal.returns-clause-did
returns-clause-did c p i u =
    let w0 = c.args.walk.now in
    let w1 : Walk = record { pool = c.operation.new.pool; names = w0.names; met = w0.met; calls = w0.calls; alloc = w0.alloc } in
    let g = grew w0 w1 c.requires.well c.operation.ensures.grows refl refl refl in
    did_after (moment w0) (moment w1) (moment c.ranged.new.walk) (λ (t : Tree). steps.ranged (sight of_terms p i u) c.args.card t) _ _ _ _ g.same c.in-Ok.ensures.tree
    (tree_of-Grows w1.pool c.ranged.new.walk.pool c.in-Ok.value c.ranged.ensures.on.grows c.in-Ok.ensures.is_in) (c.in_ok-ranged.ensures.did p i u)
