use Rattle.std.proofs.Common.{refl}
use Rattle.walk_state.specs.declared.walk.Walk.{Walk}
use Rattle.walk_state.proofs.Parts.{grew}
use Rattle.walk_calls.proofs.calls.call_nothing.Goals as goal

pub returns-in_default-clause-on : goal.returns-in_default-clause-on
returns-in_default-clause-on c = (grew c.args.walk.now _ c.requires c.undefined.ensures.grows refl refl refl).on

pub returns-in_default-clause-same : goal.returns-in_default-clause-same
returns-in_default-clause-same c =
    let w0 = c.args.walk.now in
    let w1 : Walk = record { pool = c.undefined.new.pool; names = w0.names; met = w0.met; calls = w0.calls; alloc = w0.alloc } in
    (grew w0 w1 c.requires c.undefined.ensures.grows refl refl refl).same

pub returns-clause-on : goal.returns-clause-on
returns-clause-on c = (grew c.args.walk.now _ c.requires c.undefined.ensures.grows refl refl refl).on

pub returns-clause-same : goal.returns-clause-same
returns-clause-same c =
    let w0 = c.args.walk.now in
    let w1 : Walk = record { pool = c.undefined.new.pool; names = w0.names; met = w0.met; calls = w0.calls; alloc = w0.alloc } in
    (grew w0 w1 c.requires c.undefined.ensures.grows refl refl refl).same
