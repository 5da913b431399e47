use Rattle.std.proofs.Common.{refl, subst, sym}
use Rattle.formula.specs.Pool.{AllBelow}
use Rattle.formula.specs.declared.node.TermId.{TermId}
use Rattle.std.proofs.Common.{List, length}
use Rattle.start_terms.specs.Starts.{facts_of_dims}
use Rattle.walk_state.specs.Moments.{moment}
use Rattle.path_starts.proofs.Taken.{listed}
use Rattle.walk_state.proofs.Parts.{grew}
use Rattle.walk_state.specs.declared.walk.Walk.{Walk}
use Rattle.path_starts.proofs.facts.take_dims.Goals as goal

pub take_all-requires-clause-well : goal.take_all-requires-clause-well
take_all-requires-clause-well c = (grew c.args.walk.now _ c.requires.well c.in-Ok.ensures.grows refl refl refl).on.kept

pub take_all-requires-clause-facts : goal.take_all-requires-clause-facts
take_all-requires-clause-facts c = subst (λ (ids : List TermId). AllBelow (length c.dim_terms.new.pool) ids) (sym c.deref.ensures.value) c.in-Ok.ensures.known

pub returns-clause-on : goal.returns-clause-on
returns-clause-on c =
    let w0 = c.args.walk.now in
    let w1 : Walk = record { pool = c.dim_terms.new.pool; names = w0.names; met = w0.met; calls = w0.calls; alloc = w0.alloc } in
    (listed w0 w1 c.take_all.new.walk c.in-Ok.facts.items c.deref.result.now (facts_of_dims (moment w0).now c.args.dims.now) c.requires.well c.in-Ok.ensures refl refl refl c.deref.ensures.value c.take_all.ensures.on
    c.in-Ok-take_all.ensures.did).on

pub returns-clause-did : goal.returns-clause-did
returns-clause-did c =
    let w0 = c.args.walk.now in
    let w1 : Walk = record { pool = c.dim_terms.new.pool; names = w0.names; met = w0.met; calls = w0.calls; alloc = w0.alloc } in
    (listed w0 w1 c.take_all.new.walk c.in-Ok.facts.items c.deref.result.now (facts_of_dims (moment w0).now c.args.dims.now) c.requires.well c.in-Ok.ensures refl refl refl c.deref.ensures.value c.take_all.ensures.on
    c.in-Ok-take_all.ensures.did).did
