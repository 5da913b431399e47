use Rattle.std.proofs.Common.{◌∙◌, refl}
use Rattle.std.proofs.lemmas.Result.{on_ok_weaker}
use Rattle.fort_model.specs.Events.{Take}
use Rattle.walk_state.specs.declared.walk.Walk.{Walk}
use Rattle.walk_state.specs.Moments.{with_event}
use Rattle.walk_state.proofs.Parts.{follows_then, grew}
use Rattle.walk_choices.proofs.selectors.take_no_label.Goals as goal

pub returns-in_default-clause-on : goal.returns-in_default-clause-on
returns-in_default-clause-on c = (grew c.args.walk.now _ c.requires.well c.no_label.ensures.grows refl refl refl).on

pub take-requires-clause-well : goal.take-requires-clause-well
take-requires-clause-well c = (grew c.args.walk.now _ c.requires.well c.no_label.ensures.grows refl refl refl).on.kept

pub returns-clause-on : goal.returns-clause-on
returns-clause-on c =
    let w0 = c.args.walk.now in
    let w1 : Walk = record { pool = c.no_label.new.pool; names = w0.names; met = w0.met; calls = w0.calls; alloc = w0.alloc } in
    follows_then w0 w1 _ (grew w0 w1 c.requires.well c.no_label.ensures.grows refl refl refl).on c.take.ensures.on

pub returns-clause-did : goal.returns-clause-did
returns-clause-did c =
    let w0 = c.args.walk.now in
    let w1 : Walk = record { pool = c.no_label.new.pool; names = w0.names; met = w0.met; calls = w0.calls; alloc = w0.alloc } in
    let g = grew w0 w1 c.requires.well c.no_label.ensures.grows refl refl refl in
    on_ok_weaker c.take.result (λ e p i u. record { is = e ∙ (λ j. with_event (g.same j) (Take (c.in-Ok.ensures.tree j))); gives = refl }) c.take.ensures.met
