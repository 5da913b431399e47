use Rattle.std.proofs.Common.{◌∙◌, List, ap, map, not, subst, sym}
use Rattle.formula.specs.declared.node.TermId.{TermId}
use Rattle.formula.proofs.Grown.{Grows-refl}
use Rattle.fort_model.specs.Events.{checks}
use Rattle.fort_model.specs.Fitting.{has_entry}
use Rattle.fort_model.specs.Senses.{note, of_terms}
use Rattle.fort_model.specs.Walk.{at_entry}
use Rattle.fort_notes.specs.Assertions.{Notes}
use Rattle.fort_syntax.specs.Names.{is_local}
use Rattle.fort_syntax.specs.declared.condition.Kind.TheVariants.{OutputCheck}
use Rattle.fort_syntax.specs.declared.unit.Role.{Role}
use Rattle.path_ends.proofs.Checked.{met_same}
use Rattle.path_plans.proofs.Planned.{fits_here, planned}
use Rattle.path_starts.proofs.Begun.{start_of, told_is}
use Rattle.path_starts.specs.Starts.{IsStartOf, told_by, unit_of}
use Rattle.walk_setting.specs.Settings.{seen_from}
use Rattle.walk_state.specs.Moments.{moment}
use Rattle.path_ends.proofs.arrivals.check_output.Goals as goal

pub check_notes-requires-clause-terms : goal.check_notes-requires-clause-terms
check_notes-requires-clause-terms c =
    let w0 = c.args.walk.now in
    let plan = c.args.plan.now in
    let entry = c.args.entry.now in
    let u = unit_of plan in
    let r = c.requires.ready in
    let ids = plan.spec.now.output in
    let inside = (planned w0.pool plan r.0 c.requires.plan r.1.is_scene).inside in
    subst (λ (xs : List TermId). IsStartOf w0 entry xs) (sym c.as_slice-output.ensures)
    (start_of w0.pool w0 u entry (moment w0).now ids (λ (role : Role). not (is_local role)) (has_entry u) (Grows-refl w0.pool) c.requires.frame inside.output (λ x e. e)
    (fits_here w0.pool plan r.0 c.requires.plan r.1).output)

pub returns-clause-did : goal.returns-clause-did
returns-clause-did c p r =
    let w0 = c.args.walk.now in
    let plan = c.args.plan.now in
    let s = plan.setting.now in
    let entry = c.args.entry.now in
    let w = seen_from s p in
    let here = planned w0.pool plan p c.requires.plan r.is_scene in
    let told = told_is w0 (unit_of plan) entry (moment w0).now p s.number plan.spec.now.output c.requires.frame in
    met_same (moment w0) (moment c.check_notes.new.walk) _ _ c.in-Ok.ensures.did
    (ap (checks OutputCheck c.args.card)
    (ap (told_by w0 entry) c.as_slice-output.ensures ∙ (told ∙ ap (λ (n : Notes). map (note of_terms (at_entry w) (moment w0).now) n.output) here.notes)))
