use Rattle.std.proofs.Common.{◌≡◌, ◌∙◌, refl}
use Rattle.path_starts.proofs.Taken.{renamed}
use Rattle.path_starts.specs.Starts.{start_in}
use Rattle.start_terms.specs.Starts.{started}
use Rattle.walk_state.specs.declared.walk.Walk.{Walk}
use Rattle.walk_state.specs.Moments.{moment}
use Rattle.path_starts.proofs.start.set_starts.Goals as goal

pub start_names-requires : goal.start_names-requires
start_names-requires c = c.requires.well.names

pub returns-clause-on : goal.returns-clause-on
returns-clause-on c =
    let w0 = c.args.walk.now in
    let w1 : Walk = record { pool = c.start_names.new.pool; names = c.start_names.new.names; met = w0.met; calls = w0.calls; alloc = w0.alloc } in
    let s = c.in-Ok.ensures.started in
    (renamed w0 w1 (started c.args.plan.now.smashed.now (moment w0).now) c.requires.well c.start_names.ensures.grows s.kept s.now s.before s.extends refl refl).on

pub returns-clause-stands : goal.returns-clause-stands
returns-clause-stands c =
    let w0 = c.args.walk.now in
    let plan = c.args.plan.now in
    let w1 : Walk = record { pool = c.start_names.new.pool; names = c.start_names.new.names; met = w0.met; calls = w0.calls; alloc = w0.alloc } in
    let s = c.in-Ok.ensures.started in
    let now : started plan.smashed.now (moment w0).now ≡ start_in plan = λ i. started plan.smashed.now (c.requires.at i) in
    (renamed w0 w1 (start_in plan) c.requires.well c.start_names.ensures.grows s.kept (s.now ∙ now) s.before s.extends refl refl).is
