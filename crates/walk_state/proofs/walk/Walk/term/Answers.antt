use Rattle.std.proofs.Common.{refl}
use Rattle.walk_state.specs.declared.walk.Walk.{Walk}
use Rattle.walk_state.proofs.Parts.{grew}
use Rattle.walk_state.proofs.walk.Walk.term.Goals as goal

pub returns-clause-on : goal.returns-clause-on
returns-clause-on c = (grew c.args.self.now _ c.requires c.term.ensures.grows refl refl refl).on

pub returns-clause-same : goal.returns-clause-same
returns-clause-same c =
    let w0 = c.args.self.now in
    let w1 : Walk = record { pool = c.term.new.pool; names = w0.names; met = w0.met; calls = w0.calls; alloc = w0.alloc } in
    (grew w0 w1 c.requires c.term.ensures.grows refl refl refl).same
