use Rattle.std.proofs.Common.{◌++◌, ◌∙◌, sym}
use Rattle.entry_frames.proofs.GoodShapes.{shapes_by_name}
use Rattle.fort_model.specs.Events.{takes}
use Rattle.fort_model.specs.Senses.{of_terms}
use Rattle.fort_model.specs.Walk.{bound_facts, dim_dummies}
use Rattle.fort_model.specs.WalkPlaces.{sorts}
use Rattle.fort_syntax.specs.Names.{commons}
use Rattle.note_terms.specs.Stated.{facts_of_bound}
use Rattle.path_plans.proofs.Planned.{shapes_here}
use Rattle.path_starts.proofs.Taken.{still_now, then_took, took_same}
use Rattle.start_terms.specs.Starts.{facts_of_dims}
use Rattle.walk_state.proofs.Parts.{follows_then}
use Rattle.walk_state.specs.Moments.{moment}
use Rattle.walk_setting.specs.Settings.{seen_from}
use Rattle.path_starts.proofs.entry.take_shapes.Goals as goal

pub take_sorts-requires-clause-shapes : goal.take_sorts-requires-clause-shapes
take_sorts-requires-clause-shapes c =
    let r = c.requires.ready in
    shapes_by_name c.args.plan.now.setting.now.book.now.unit.now.names (shapes_here c.args.walk.now.pool c.args.plan.now.setting.now r.0 r.1)

pub take_sorts-requires-2-clause-shapes : goal.take_sorts-requires-2-clause-shapes
take_sorts-requires-2-clause-shapes c =
    let r = c.requires.ready in
    shapes_by_name c.args.plan.now.setting.now.book.now.unit.now.names (shapes_here c.args.walk.now.pool c.args.plan.now.setting.now r.0 r.1)

pub returns-clause-on : goal.returns-clause-on
returns-clause-on c =
    let w0 = c.args.walk.now in
    let w1 = c.take_bound.new.walk in
    let w2 = c.take_sorts.new.walk in
    let w3 = c.take_sorts-2.new.walk in
    let w4 = c.take_dims.new.walk in
    follows_then w0 w3 w4 (follows_then w0 w2 w3 (follows_then w0 w1 w2 c.in-Ok.ensures.on c.take_sorts.ensures.on) c.take_sorts-2.ensures.on) c.in-Ok-take_dims.ensures.on

pub returns-clause-did : goal.returns-clause-did
returns-clause-did c p r =
    let plan = c.args.plan.now in
    let s = plan.setting.now in
    let u = s.book.now.unit.now in
    let w = seen_from s p in
    let m0 = moment c.args.walk.now in
    let m1 = moment c.take_bound.new.walk in
    let m2 = moment c.take_sorts.new.walk in
    let m3 = moment c.take_sorts-2.new.walk in
    let m4 = moment c.take_dims.new.walk in
    let d1 = took_same m0 m1 (facts_of_bound s.scene.now.bound) (bound_facts w) c.in-Ok.ensures.did (λ i. facts_of_bound (r.is_scene.bound i)) in
    let n1 = still_now m0 m1 (takes (bound_facts w)) d1 in
    let d2 = then_took m0 m1 m2 (bound_facts w) (sorts of_terms u m1.now c.as_slice.result.now) (bound_facts w ++ sorts of_terms u m0.now u.dummies) d1 c.in-Ok-take_sorts.ensures.did
    (λ i. bound_facts w ++ sorts of_terms u (sym n1 i) (sym c.as_slice.ensures i)) in
    let n2 = still_now m0 m2 (takes (bound_facts w ++ sorts of_terms u m0.now u.dummies)) d2 in
    let d3 = then_took m0 m2 m3 (bound_facts w ++ sorts of_terms u m0.now u.dummies) (sorts of_terms u m2.now c.deref.result.now) (bound_facts w ++ sorts of_terms u m0.now u.dummies ++ sorts of_terms u m0.now (commons u)) d2 c.in-Ok-take_sorts-2.ensures.did
    (λ i. bound_facts w ++ sorts of_terms u m0.now u.dummies ++ sorts of_terms u (sym n2 i) (sym (c.deref.ensures.value ∙ c.requires.plan.commons) i)) in
    let n3 = still_now m0 m3 (takes (bound_facts w ++ sorts of_terms u m0.now u.dummies ++ sorts of_terms u m0.now (commons u))) d3 in
    then_took m0 m3 m4 (bound_facts w ++ sorts of_terms u m0.now u.dummies ++ sorts of_terms u m0.now (commons u)) (facts_of_dims m3.now c.deref-2.result.now)
    (bound_facts w ++ sorts of_terms u m0.now u.dummies ++ sorts of_terms u m0.now (commons u) ++ facts_of_dims m0.now (dim_dummies u)) d3 c.in-Ok-take_dims.ensures.did
    (λ i. bound_facts w ++ sorts of_terms u m0.now u.dummies ++ sorts of_terms u m0.now (commons u) ++ facts_of_dims (sym n3 i) (sym (c.deref-2.ensures.value ∙ c.requires.plan.dims) i))
