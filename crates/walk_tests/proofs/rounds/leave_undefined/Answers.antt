use Rattle.std.proofs.Common.{◌∙◌, refl}
use Rattle.std.proofs.lemmas.Result.{on_ok_weaker}
use Rattle.fort_model.specs.WalkStmt.{with_name}
use Rattle.walk_state.specs.declared.walk.Walk.{Walk}
use Rattle.walk_state.specs.Moments.{with_names}
use Rattle.walk_state.proofs.Parts.{follows_then, grew}
use Rattle.walk_tests.proofs.rounds.leave_undefined.Goals as goal

pub returns-in_default-clause-on : goal.returns-in_default-clause-on
returns-in_default-clause-on c = (grew c.args.walk.now _ c.requires c.undefined.ensures.grows refl refl refl).on

pub set-requires-clause-well : goal.set-requires-clause-well
set-requires-clause-well c = (grew c.args.walk.now _ c.requires c.undefined.ensures.grows refl refl refl).on.kept

pub returns-clause-on : goal.returns-clause-on
returns-clause-on c =
    let w0 = c.args.walk.now in
    let w1 : Walk = record { pool = c.undefined.new.pool; names = w0.names; met = w0.met; calls = w0.calls; alloc = w0.alloc } in
    follows_then w0 w1 _ (grew w0 w1 c.requires c.undefined.ensures.grows refl refl refl).on c.set.ensures.on

pub returns-clause-did : goal.returns-clause-did
returns-clause-did c =
    let w0 = c.args.walk.now in
    let w1 : Walk = record { pool = c.undefined.new.pool; names = w0.names; met = w0.met; calls = w0.calls; alloc = w0.alloc } in
    let same = (grew w0 w1 c.requires c.undefined.ensures.grows refl refl refl).same in
    on_ok_weaker c.set.result (λ e. e ∙ (λ i. with_names (same i) (with_name ((same i).now) c.args.variable.now (c.in-Ok.ensures.tree i)))) c.set.ensures.set
