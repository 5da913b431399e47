use Rattle.std.proofs.Common.{refl}
use Rattle.formula.specs.Tree.{Tree}
use Rattle.formula.proofs.Grown.{tree_of-Grows}
use Rattle.fort_model.specs.Conditions.{sight}
use Rattle.fort_model.specs.Senses.{of_terms}
use Rattle.fort_model.specs.WalkExpr as steps
use Rattle.walk_state.specs.declared.walk.Walk.{Walk}
use Rattle.walk_state.specs.Moments.{moment}
use Rattle.walk_state.proofs.Parts.{follows_then, grew}
use Rattle.walk_values.proofs.Checked.{did_after}
use Rattle.walk_operators.proofs.operators.negative.Goals as goal

pub ranged-requires-clause-well : goal.ranged-requires-clause-well
ranged-requires-clause-well c = (grew c.args.walk.now _ c.requires.well c.unary.ensures.grows refl refl refl).on.kept

pub returns-clause-did : goal.returns-clause-did
returns-clause-did c p i u =
    let w0 = c.args.walk.now in
    let w1 : Walk = record { pool = c.unary.new.self; names = w0.names; met = w0.met; calls = w0.calls; alloc = w0.alloc } in
    let g = grew w0 w1 c.requires.well c.unary.ensures.grows refl refl refl in
    did_after (moment w0) (moment w1) (moment c.ranged.new.walk) (λ (t : Tree). steps.ranged (sight of_terms p i u) c.args.card t) _ _ _ _ g.same c.in-Ok.ensures.tree
    (tree_of-Grows w1.pool c.ranged.new.walk.pool c.in-Ok.value c.ranged.ensures.on.grows c.in-Ok.ensures.is_in) (c.in_ok-ranged.ensures.did p i u)
