use Rattle.std.proofs.Common.{◌≡◌, ◌∙◌, ap, map, refl, subst}
use Rattle.formula.specs.Tree.{Tree}
use Rattle.fort_model.specs.Fitting.{any_role, has_entry}
use Rattle.fort_model.specs.Program.{Program}
use Rattle.fort_model.specs.Events.{takes}
use Rattle.fort_model.specs.Seen.{Named, meet}
use Rattle.fort_model.specs.Senses.{note, of_terms}
use Rattle.fort_model.specs.Walk.{at_entry, at_start, start_facts}
use Rattle.fort_model.specs.WalkPlaces.{sorts}
use Rattle.fort_notes.specs.Assertions.{assertion_tree}
use Rattle.note_terms.proofs.Added.{trees_grow}
use Rattle.path_plans.proofs.Planned.{fits_here, planned}
use Rattle.path_scene.specs.Scenes.{IsReady}
use Rattle.path_starts.proofs.Begun.{assert_among, assert_inside, frame_on, start_is, start_of, told_is}
use Rattle.path_starts.proofs.Taken.{still_now}
use Rattle.path_starts.specs.Starts.{begun_with, start_in, unit_of}
use Rattle.start_terms.proofs.StartLaws.{started_are_at_start}
use Rattle.start_terms.specs.Starts.{started}
use Rattle.entry_frames.specs.Entries.{IsFrame, at_entry_in}
use Rattle.walk_setting.proofs.Ready.{ready_on}
use Rattle.walk_setting.specs.Settings.{seen_from}
use Rattle.walk_state.proofs.Parts.{follows_then}
use Rattle.walk_state.specs.Moments.{Moment, met, moment}
use Rattle.path_starts.proofs.start.start_at.Goals as goal

pub take_assert-requires-clause-ready : goal.take_assert-requires-clause-ready
take_assert-requires-clause-ready c = ready_on c.args.walk.now.pool c.set_starts.new.walk.pool c.args.plan.now.setting.now.scene.now c.in-Ok.ensures.on.grows c.requires.ready

pub take_assert-requires-clause-terms : goal.take_assert-requires-clause-terms
take_assert-requires-clause-terms c =
    let w0 = c.args.walk.now in
    let w1 = c.set_starts.new.walk in
    let plan = c.args.plan.now in
    let u = unit_of plan in
    let entry = c.args.entry.now in
    let a = c.args.assert.now in
    let r = c.requires.ready in
    let on = c.in-Ok.ensures.on in
    let inside = assert_inside _ plan.spec.now.asserts c.requires.assert.0 a c.requires.assert.1 ((planned w0.pool plan r.0 c.requires.plan r.1.is_scene).inside.asserts) in
    let fits = (fits_here w0.pool plan r.0 c.requires.plan r.1).asserts _ (assert_among w0.pool plan.spec.now.asserts c.requires.assert.0 a c.requires.assert.1) in
    start_of w0.pool w1 u entry (moment w1).now a.terms any_role (has_entry u) on.grows (frame_on w0 w1 u entry (at_entry_in u.names) on c.requires.frame) inside.terms (λ x e. e) fits.terms

pub take_assert-requires-clause-clock : goal.take_assert-requires-clause-clock
take_assert-requires-clause-clock c =
    let w0 = c.args.walk.now in
    let w1 = c.set_starts.new.walk in
    let plan = c.args.plan.now in
    let u = unit_of plan in
    let entry = c.args.entry.now in
    let a = c.args.assert.now in
    let r = c.requires.ready in
    let on = c.in-Ok.ensures.on in
    let inside = assert_inside _ plan.spec.now.asserts c.requires.assert.0 a c.requires.assert.1 ((planned w0.pool plan r.0 c.requires.plan r.1.is_scene).inside.asserts) in
    let fits = (fits_here w0.pool plan r.0 c.requires.plan r.1).asserts _ (assert_among w0.pool plan.spec.now.asserts c.requires.assert.0 a c.requires.assert.1) in
    start_of w0.pool w1 u entry (moment w1).now a.clock any_role (has_entry u) on.grows (frame_on w0 w1 u entry (at_entry_in u.names) on c.requires.frame) inside.clock (λ x e. e) fits.clock

pub returns-clause-on : goal.returns-clause-on
returns-clause-on c = follows_then c.args.walk.now c.set_starts.new.walk c.take_assert.new.walk c.in-Ok.ensures.on c.in-Ok-take_assert.ensures.on

pub returns-clause-did : goal.returns-clause-did
returns-clause-did c =
    let w0 = c.args.walk.now in
    let w1 = c.set_starts.new.walk in
    let w2 = c.take_assert.new.walk in
    let plan = c.args.plan.now in
    let s = plan.setting.now in
    let u = unit_of plan in
    let a = c.args.assert.now in
    let entry = c.args.entry.now in
    let on = c.in-Ok.ensures.on in
    let ready = c.requires.ready in
    let stands = c.in-Ok.ensures.stands in
    let now : (moment w1).now ≡ start_in plan = ap (λ (m : Moment). m.now) stands in
    let framed = subst (λ (n : Named Tree). IsFrame w1.pool u w1.names entry n) now (frame_on w0 w1 u entry (at_entry_in u.names) on c.requires.frame) in
    let later = c.in-Ok-take_assert.ensures.on in
    let g = c.in-Ok.ensures.on.grows in
    let last = c.in-Ok-take_assert.ensures.did in
    let inside = assert_inside _ plan.spec.now.asserts c.requires.assert.0 a c.requires.assert.1 ((planned w0.pool plan ready.0 c.requires.plan ready.1.is_scene).inside.asserts) in
    let clock = trees_grow w0.pool w1.pool a.clock g inside.clock in
    let terms = trees_grow w0.pool w1.pool a.terms g inside.terms in
    let started_is : (p : Program) → IsReady w0.pool s.scene.now p → start_in plan ≡ at_start (seen_from s p) =
    λ p r. (λ i. started ((planned w0.pool plan p c.requires.plan r.is_scene).smashed i) (at_entry_in u.names)) ∙ started_are_at_start p s.number u (at_entry_in u.names) refl in
    record {
      known = last.known;
      framed = subst (λ (n : Named Tree). IsFrame w2.pool u w2.names entry n) (still_now (moment w1) (moment w2) _ last.did ∙ now) (frame_on w1 w2 u entry (start_in plan) later framed);
      is = λ p r.
          let w = seen_from s p in
          let here = planned w0.pool plan p c.requires.plan r.is_scene in
          let facts = start_is p s.number u w0.pool w1 entry a plan.order.items (start_in plan) (sorts of_terms u (moment w1).now plan.order.items) framed (started_is p r) here.order
          (λ i. sorts of_terms u (now i) plan.order.items) terms clock in
          last.did.is
          ∙ ((λ i. met (stands i) (meet (takes (facts i))))
          ∙ (λ i. begun_with (moment w0) (start_facts w (assertion_tree w0.pool a)) (started_is p r i)));
      parts = λ p r.
          let w = seen_from s p in
          last.is
          ∙ (told_is w1 u entry (start_in plan) p s.number a.clock framed
          ∙ (λ i. map (note of_terms (at_entry w) (started_is p r i)) (clock i)));
    }
