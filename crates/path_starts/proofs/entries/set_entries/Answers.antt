use Rattle.std.proofs.Common.{refl}
use Rattle.entry_frames.specs.Entries.{at_entry_in}
use Rattle.path_starts.proofs.Taken.{renamed}
use Rattle.walk_state.specs.declared.walk.Walk.{Walk}
use Rattle.path_starts.proofs.entries.set_entries.Goals as goal

pub returns-clause-on : goal.returns-clause-on
returns-clause-on c =
    let w0 = c.args.walk.now in
    let w1 : Walk = record { pool = c.entry_names.new.pool; names = c.entry_names.new.names; met = w0.met; calls = w0.calls; alloc = w0.alloc } in
    let e = c.in-Ok.ensures in
    (renamed c.args.walk.now w1 (at_entry_in c.args.unit.now.names) c.requires.well e.grows e.kept e.now e.before e.extends refl refl).on

pub returns-clause-names : goal.returns-clause-names
returns-clause-names c =
    let w0 = c.args.walk.now in
    let w1 : Walk = record { pool = c.entry_names.new.pool; names = c.entry_names.new.names; met = w0.met; calls = w0.calls; alloc = w0.alloc } in
    let e = c.in-Ok.ensures in
    (renamed c.args.walk.now w1 (at_entry_in c.args.unit.now.names) c.requires.well e.grows e.kept e.now e.before e.extends refl refl).is

pub returns-clause-has : goal.returns-clause-has
returns-clause-has c = c.in-Ok.ensures.has
