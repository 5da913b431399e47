use Rattle.std.proofs.Common.{refl}
use Rattle.formula.proofs.Grown.{Grows-trans}
use Rattle.walk_state.specs.declared.walk.Walk.{Walk}
use Rattle.walk_state.proofs.Parts.{grew}
use Rattle.call_frames.proofs.Put.{put_known}
use Rattle.call_frames.proofs.own.put.Goals as goal

pub returns-in_default-clause-on : goal.returns-in_default-clause-on
returns-in_default-clause-on c = (grew c.args.walk.now _ c.requires.well c.know.ensures.grows refl refl refl).on

pub returns-in_default-clause-same : goal.returns-in_default-clause-same
returns-in_default-clause-same c =
    let w0 = c.args.walk.now in
    let w1 : Walk = record { pool = c.know.new.pool; names = w0.names; met = w0.met; calls = w0.calls; alloc = w0.alloc } in
    (grew w0 w1 c.requires.well c.know.ensures.grows refl refl refl).same

pub returns-in_default-set-clause-on : goal.returns-in_default-set-clause-on
returns-in_default-set-clause-on c =
    (grew c.args.walk.now _ c.requires.well (Grows-trans c.args.walk.now.pool c.know.new.pool c.set.new.pool c.know.ensures.grows c.set.ensures.grows) refl refl refl).on

pub returns-in_default-set-clause-same : goal.returns-in_default-set-clause-same
returns-in_default-set-clause-same c =
    let w0 = c.args.walk.now in
    let w1 : Walk = record { pool = c.set.new.pool; names = w0.names; met = w0.met; calls = w0.calls; alloc = w0.alloc } in
    (grew w0 w1 c.requires.well (Grows-trans w0.pool c.know.new.pool c.set.new.pool c.know.ensures.grows c.set.ensures.grows) refl refl refl).same

pub returns-clause-on : goal.returns-clause-on
returns-clause-on c =
    (grew c.args.walk.now _ c.requires.well (Grows-trans c.args.walk.now.pool c.know.new.pool c.set.new.pool c.know.ensures.grows c.set.ensures.grows) refl refl refl).on

pub returns-clause-same : goal.returns-clause-same
returns-clause-same c =
    let w0 = c.args.walk.now in
    let w1 : Walk = record { pool = c.set.new.pool; names = w0.names; met = w0.met; calls = w0.calls; alloc = w0.alloc } in
    (grew w0 w1 c.requires.well (Grows-trans w0.pool c.know.new.pool c.set.new.pool c.know.ensures.grows c.set.ensures.grows) refl refl refl).same

pub returns-clause-put : goal.returns-clause-put
returns-clause-put c =
    put_known c.args.walk.now.pool c.know.new.pool c.set.new.pool c.args.frame.now c.know.new.self c.set.new.self c.args.name.now c.args.id c.know.ensures.grows c.requires.id c.in-Ok.ensures.same
    c.in-Ok.ensures.known c.in-Ok-set.ensures.set
