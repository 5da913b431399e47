use Rattle.std.proofs.Common.{◌≡◌, ◌∙◌, ap, refl, subst}
use Rattle.entry_frames.proofs.Frames.{framed}
use Rattle.entry_frames.specs.Entries.{IsFrame, at_entry_in}
use Rattle.formula.specs.Tree.{Tree}
use Rattle.formula.proofs.Grown.{Grows-trans}
use Rattle.fort_model.specs.Events.{takes}
use Rattle.fort_model.specs.Seen.{Named}
use Rattle.fort_model.specs.Walk.{at_entry, entry_facts}
use Rattle.path_openings.proofs.Opened.{begun_at}
use Rattle.path_plans.proofs.Planned.{shapes_here}
use Rattle.path_starts.proofs.Begun.{frame_on}
use Rattle.path_starts.proofs.Taken.{still_now}
use Rattle.path_starts.specs.Starts.{unit_of}
use Rattle.path_scene.proofs.Staying.{ready_stays}
use Rattle.walk_setting.proofs.Ready.{ready_on}
use Rattle.walk_setting.specs.Settings.{seen_from}
use Rattle.walk_state.specs.Moments.{Moment, moment}
use Rattle.path_openings.proofs.opening.enter.Goals as goal

pub begin-requires : goal.begin-requires
begin-requires c = record { shapes = shapes_here c.args.pool c.args.plan.now.setting.now c.requires.ready.0 c.requires.ready.1 }

pub take_entry-requires-clause-ready : goal.take_entry-requires-clause-ready
take_entry-requires-clause-ready c = ready_on c.args.pool c.in-Ok.walk.pool c.args.plan.now.setting.now.scene.now c.in-Ok.ensures.grows c.requires.ready

pub take_entry-requires-clause-at : goal.take_entry-requires-clause-at
take_entry-requires-clause-at c = ap (λ (m : Moment). m.now) c.in-Ok.ensures.at

pub take_entry-requires-clause-frame : goal.take_entry-requires-clause-frame
take_entry-requires-clause-frame c =
    let w = c.in-Ok.walk in
    let now = ap (λ (m : Moment). m.now) c.in-Ok.ensures.at in
    let items = c.deref.ensures.value ∙ (c.in-Ok-from_slice.ensures.items ∙ c.as_slice.ensures.value) in
    framed w.pool (unit_of c.args.plan.now) w.names c.deref.result.now c.in-Ok.ensures.well.names now c.in-Ok.ensures.has items

pub returns : goal.returns
returns c =
    let plan = c.args.plan.now in
    let s = plan.setting.now in
    let u = unit_of plan in
    let pool = c.args.pool in
    let w0 = c.in-Ok.walk in
    let w1 = c.take_entry.new.walk in
    let r = c.requires.ready in
    let last = c.in-Ok-take_entry.ensures in
    let entry = c.in-Ok-from_slice.entry.items in
    let first = ap (λ (m : Moment). m.now) c.in-Ok.ensures.at in
    let items = c.in-Ok-from_slice.ensures.items ∙ c.as_slice.ensures.value in
    let here = framed w0.pool u w0.names entry c.in-Ok.ensures.well.names first c.in-Ok.ensures.has items in
    let now : (moment w1).now ≡ at_entry_in u.names =
    still_now (moment w0) (moment w1) (takes (entry_facts (seen_from s r.0))) (last.did r.0 (ready_stays pool w0.pool c.in-Ok.ensures.grows s.scene.now r.0 r.1)) ∙ first in
    record {
      well = last.on.kept;
      grows = Grows-trans pool w0.pool w1.pool c.in-Ok.ensures.grows last.on.grows;
      framed = subst (λ (n : Named Tree). IsFrame w1.pool u w1.names entry n) now (frame_on w0 w1 u entry (at_entry_in u.names) last.on here);
      names = now;
      at = λ p ready.
          begun_at (moment w0) (moment w0) (moment w1) (at_entry_in u.names) (at_entry (seen_from s p)) (entry_facts (seen_from s p)) c.in-Ok.ensures.at refl refl
          (last.did p (ready_stays pool w0.pool c.in-Ok.ensures.grows s.scene.now p ready));
    }
