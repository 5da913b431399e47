use Rattle.std.proofs.Common.{◌≡◌, ◌∙◌, List, ap, map, subst, sym}
use Rattle.entry_frames.specs.Entries.{IsFrame, at_entry_in}
use Rattle.formula.specs.Tree.{Tree}
use Rattle.formula.specs.declared.node.TermId.{TermId}
use Rattle.fort_model.specs.Events.{takes}
use Rattle.fort_model.specs.Fitting.{is_visible_role, no_entry}
use Rattle.fort_model.specs.Program.{notes_of}
use Rattle.fort_model.specs.Seen.{Named}
use Rattle.fort_model.specs.Senses.{note, of_terms}
use Rattle.fort_model.specs.Walk.{at_entry, entry_facts}
use Rattle.fort_notes.specs.Assertions.{Notes}
use Rattle.note_terms.proofs.Added.{trees_grow}
use Rattle.note_terms.specs.Stated.{trees_in}
use Rattle.path_plans.proofs.Planned.{fits_here, planned}
use Rattle.path_starts.proofs.Begun.{entry_is, frame_on, start_of, told_is}
use Rattle.path_starts.proofs.Taken.{still_now, then_took}
use Rattle.path_starts.specs.Starts.{IsStartOf, shape_facts, told_by, unit_of}
use Rattle.walk_setting.specs.Settings.{seen_from}
use Rattle.walk_state.proofs.Parts.{follows_then}
use Rattle.walk_state.specs.Moments.{moment}
use Rattle.path_starts.proofs.entry.take_entry.Goals as goal

pub take_notes-requires-clause-terms : goal.take_notes-requires-clause-terms
take_notes-requires-clause-terms c =
    let w0 = c.args.walk.now in
    let w1 = c.take_shapes.new.walk in
    let plan = c.args.plan.now in
    let u = unit_of plan in
    let entry = c.args.entry.now in
    let r = c.requires.ready in
    let on = c.in-Ok.ensures.on in
    let inside = (planned w0.pool plan r.0 c.requires.plan r.1.is_scene).inside in
    subst (λ (ids : List TermId). IsStartOf w1 entry ids) (sym c.as_slice-input.ensures)
    (start_of w0.pool w1 u entry (moment w1).now plan.spec.now.input is_visible_role no_entry on.grows (frame_on w0 w1 u entry (at_entry_in u.names) on c.requires.frame) inside.input (λ x e. absurd (cc))
    (fits_here w0.pool plan r.0 c.requires.plan r.1).input)

pub returns-clause-on : goal.returns-clause-on
returns-clause-on c = follows_then c.args.walk.now c.take_shapes.new.walk c.take_notes.new.walk c.in-Ok.ensures.on c.in-Ok-take_notes.ensures.on

pub returns-clause-did : goal.returns-clause-did
returns-clause-did c p r =
    let w0 = c.args.walk.now in
    let w1 = c.take_shapes.new.walk in
    let plan = c.args.plan.now in
    let s = plan.setting.now in
    let u = unit_of plan in
    let entry = c.args.entry.now in
    let w = seen_from s p in
    let on = c.in-Ok.ensures.on in
    let here = planned w0.pool plan p c.requires.plan r.is_scene in
    let now = still_now (moment w0) (moment w1) (takes (shape_facts w (moment w0).now)) (c.in-Ok.ensures.did p r) ∙ c.requires.at in
    let later = subst (λ (n : Named Tree). IsFrame w1.pool u w1.names entry n) now (frame_on w0 w1 u entry (at_entry_in u.names) on c.requires.frame) in
    let told = told_is w1 u entry (at_entry_in u.names) p s.number plan.spec.now.input later in
    let terms : trees_in w1.pool plan.spec.now.input ≡ (notes_of p s.number).input =
    trees_grow w0.pool w1.pool plan.spec.now.input on.grows here.inside.input ∙ ap (λ (n : Notes). n.input) here.notes in
    let us = told_by w1 entry c.as_slice-input.result.now in
    let is : us ≡ map (note of_terms (at_entry w) (at_entry w)) (notes_of p s.number).input =
    ap (told_by w1 entry) c.as_slice-input.ensures ∙ (told ∙ ap (map (note of_terms (at_entry w) (at_entry w))) terms) in
    then_took (moment w0) (moment w1) (moment c.take_notes.new.walk) (shape_facts w (moment w0).now) us (entry_facts w) (c.in-Ok.ensures.did p r) c.in-Ok-take_notes.ensures.did
    (entry_is p s.number u (moment w0).now us c.requires.at is)
