use Rattle.std.proofs.Common.{ap, refl, subst, sym}
use Rattle.formula.specs.Pool.{tree_of}
use Rattle.formula.specs.Tree.{Tree}
use Rattle.fort_model.specs.Conditions.{sight}
use Rattle.fort_model.specs.Senses.{of_terms}
use Rattle.fort_model.specs.WalkCalls.{Computed}
use Rattle.walk_state.specs.declared.walk.Walk.{Walk}
use Rattle.walk_state.specs.Moments.{Did, moment}
use Rattle.walk_state.proofs.Parts.{grew}
use Rattle.walk_values.proofs.Checked.{did_see}
use Rattle.walk_operators.specs.Operators.{of_two, tested}
use Rattle.walk_operators.specs.declared.operators.Binary.{Binary}
use Rattle.walk_operators.proofs.operators.binary_value.Goals as goal

pub returns-in_default-clause-on : goal.returns-in_default-clause-on
returns-in_default-clause-on c = (grew c.args.walk.now _ c.requires.well c.tested.ensures.grows refl refl refl).on

pub returns-in-Ok-clause-on : goal.returns-in-Ok-clause-on
returns-in-Ok-clause-on c = (grew c.args.walk.now _ c.requires.well c.tested.ensures.grows refl refl refl).on

pub returns-in-Ok-clause-did : goal.returns-in-Ok-clause-did
returns-in-Ok-clause-did c p i u =
    let s = sight of_terms p i u in
    let w0 = c.args.walk.now in
    let w1 : Walk = record { pool = c.tested.new.pool; names = w0.names; met = w0.met; calls = w0.calls; alloc = w0.alloc } in
    let a = tree_of w0.pool c.args.a in
    let b = tree_of w0.pool c.args.b in
    let value = tree_of w1.pool c.in-Ok.value in
    subst (λ (o : Binary). Did (moment w0) (of_two s c.args.card o a b) (moment w1) (Computed value)) (sym c.in-Truth.is)
    (did_see (moment w0) (moment w1) (Computed (tested s c.in-Truth.test a b)) (Computed value) (grew w0 w1 c.requires.well c.tested.ensures.grows refl refl refl).same
    (ap (λ (t : Tree). Computed t) (c.in-Ok.ensures.tree p i u)))
