use Rattle.std.proofs.Common.{◌≡◌, ◌++◌, ◌∙◌, List, ap, map, subst, sym}
use Rattle.entry_frames.proofs.GoodShapes.{shapes_by_name}
use Rattle.formula.specs.declared.node.TermId.{TermId}
use Rattle.fort_model.specs.Senses.{of_terms}
use Rattle.fort_model.specs.WalkPlaces.{sorts}
use Rattle.note_terms.specs.Stated.{at_least_0}
use Rattle.path_plans.proofs.Planned.{shapes_here}
use Rattle.path_starts.proofs.Begun.{start_follows, told_follows}
use Rattle.path_starts.proofs.Taken.{still_now, then_took, took_same}
use Rattle.path_starts.specs.Starts.{IsStartOf, told_by, unit_of}
use Rattle.walk_state.proofs.Parts.{follows_then}
use Rattle.walk_state.specs.Moments.{moment}
use Rattle.path_starts.proofs.start.take_assert.Goals as goal

pub take_sorts-requires-clause-shapes : goal.take_sorts-requires-clause-shapes
take_sorts-requires-clause-shapes c =
    let r = c.requires.ready in
    shapes_by_name (unit_of c.args.plan.now).names (shapes_here c.args.walk.now.pool c.args.plan.now.setting.now r.0 r.1)

pub take_notes-requires-clause-terms : goal.take_notes-requires-clause-terms
take_notes-requires-clause-terms c =
    subst (λ (ids : List TermId). IsStartOf c.take_sorts.new.walk c.args.entry.now ids) (sym c.as_slice-terms.ensures)
    (start_follows c.args.walk.now c.take_sorts.new.walk c.args.entry.now c.args.assert.now.terms c.take_sorts.ensures.on c.requires.terms)

pub take_clock-requires-clause-start : goal.take_clock-requires-clause-start
take_clock-requires-clause-start c =
    let w0 = c.args.walk.now in
    let w1 = c.take_sorts.new.walk in
    let w2 = c.take_notes.new.walk in
    subst (λ (ids : List TermId). IsStartOf w2 c.args.entry.now ids) (sym c.as_slice-parts.ensures)
    (start_follows w0 w2 c.args.entry.now c.args.assert.now.clock (follows_then w0 w1 w2 c.take_sorts.ensures.on c.in-Ok-take_notes.ensures.on) c.requires.clock)

pub returns-clause-on : goal.returns-clause-on
returns-clause-on c =
    let w0 = c.args.walk.now in
    let w1 = c.take_sorts.new.walk in
    let w2 = c.take_notes.new.walk in
    let w3 = c.take_clock.new.walk in
    follows_then w0 w2 w3 (follows_then w0 w1 w2 c.take_sorts.ensures.on c.in-Ok-take_notes.ensures.on) c.in-Ok-take_clock.ensures.on

pub returns-clause-did : goal.returns-clause-did
returns-clause-did c =
    let w0 = c.args.walk.now in
    let w1 = c.take_sorts.new.walk in
    let w2 = c.take_notes.new.walk in
    let w3 = c.take_clock.new.walk in
    let plan = c.args.plan.now in
    let entry = c.args.entry.now in
    let a = c.args.assert.now in
    let u = unit_of plan in
    let on2 = follows_then w0 w1 w2 c.take_sorts.ensures.on c.in-Ok-take_notes.ensures.on in
    let last = c.in-Ok-take_clock.ensures.did in
    let sorted = sorts of_terms u (moment w0).now plan.order.items in
    let one = took_same (moment w0) (moment w1) _ sorted c.in-Ok.ensures.did (ap (sorts of_terms u (moment w0).now) c.deref.ensures.value) in
    let same1 = still_now (moment w0) (moment w1) _ one in
    let terms : told_by w1 entry c.as_slice-terms.result.now ≡ told_by w0 entry a.terms =
    ap (told_by w1 entry) c.as_slice-terms.ensures ∙ told_follows w0 w1 entry a.terms c.take_sorts.ensures.on same1 c.requires.terms in
    let two = then_took (moment w0) (moment w1) (moment w2) _ _ (sorted ++ told_by w0 entry a.terms) one c.in-Ok-take_notes.ensures.did (λ i. sorted ++ sym terms i) in
    let same2 = still_now (moment w0) (moment w2) _ two in
    let clock : told_by w2 entry c.as_slice-parts.result.now ≡ told_by w0 entry a.clock =
    ap (told_by w2 entry) c.as_slice-parts.ensures ∙ told_follows w0 w2 entry a.clock on2 same2 c.requires.clock in
    record {
      known = last.known;
      is = last.is ∙ clock;
      did = then_took (moment w0) (moment w2) (moment w3) _ _ _ two last.did (λ i. sorted ++ told_by w0 entry a.terms ++ map at_least_0 (sym clock i));
    }
