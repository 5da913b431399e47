use Rattle.std.proofs.Common.{◌∙◌, refl}
use Rattle.formula.specs.Pool.{tree_of}
use Rattle.formula.proofs.Grown.{AllBelow-Grows}
use Rattle.fort_model.specs.Senses.{of_terms, undefined}
use Rattle.note_terms.specs.Stated.{trees_in}
use Rattle.note_terms.proofs.Added.{trees_grow}
use Rattle.walk_state.specs.declared.walk.Walk.{Walk}
use Rattle.walk_state.specs.Moments.{moment}
use Rattle.walk_state.proofs.Parts.{grew}
use Rattle.call_frames.specs.Frames.{told_by}
use Rattle.call_frames.proofs.Framed.{entry_now, frame_as}
use Rattle.call_frames.proofs.frame.enter.Goals as goal

pub returns-in_default-clause-on : goal.returns-in_default-clause-on
returns-in_default-clause-on c = (grew c.args.walk.now _ c.requires.well c.undefined.ensures.grows refl refl refl).on

pub returns-in_default-clause-same : goal.returns-in_default-clause-same
returns-in_default-clause-same c =
    let w0 = c.args.walk.now in
    let w1 : Walk = record { pool = c.undefined.new.pool; names = w0.names; met = w0.met; calls = w0.calls; alloc = w0.alloc } in
    (grew w0 w1 c.requires.well c.undefined.ensures.grows refl refl refl).same

pub fill-requires-clause-well : goal.fill-requires-clause-well
fill-requires-clause-well c = (grew c.args.walk.now _ c.requires.well c.undefined.ensures.grows refl refl refl).on.kept

pub fill-requires-clause-actuals : goal.fill-requires-clause-actuals
fill-requires-clause-actuals c = AllBelow-Grows c.args.walk.now.pool c.undefined.new.pool c.args.actuals.now c.undefined.ensures.grows c.requires.actuals

pub returns-in_err-fill-clause-same : goal.returns-in_err-fill-clause-same
returns-in_err-fill-clause-same c =
    let w0 = c.args.walk.now in
    let w1 : Walk = record { pool = c.undefined.new.pool; names = w0.names; met = w0.met; calls = w0.calls; alloc = w0.alloc } in
    c.fill.ensures.same ∙ (grew w0 w1 c.requires.well c.undefined.ensures.grows refl refl refl).same

pub returns-in_default-copied-clause-same : goal.returns-in_default-copied-clause-same
returns-in_default-copied-clause-same c =
    let w0 = c.args.walk.now in
    let w1 : Walk = record { pool = c.undefined.new.pool; names = w0.names; met = w0.met; calls = w0.calls; alloc = w0.alloc } in
    c.fill.ensures.same ∙ (grew w0 w1 c.requires.well c.undefined.ensures.grows refl refl refl).same

pub returns-clause-same : goal.returns-clause-same
returns-clause-same c =
    let w0 = c.args.walk.now in
    let w1 : Walk = record { pool = c.undefined.new.pool; names = w0.names; met = w0.met; calls = w0.calls; alloc = w0.alloc } in
    c.fill.ensures.same ∙ (grew w0 w1 c.requires.well c.undefined.ensures.grows refl refl refl).same

pub returns-clause-enters : goal.returns-clause-enters
returns-clause-enters c =
    let w0 = c.args.walk.now in
    let w1 : Walk = record { pool = c.undefined.new.pool; names = w0.names; met = w0.met; calls = w0.calls; alloc = w0.alloc } in
    let w2 = c.fill.new.walk in
    let g = c.args.callee.now.unit.now in
    let ids = c.args.actuals.now in
    let same = (grew w0 w1 c.requires.well c.undefined.ensures.grows refl refl refl).same in
    let told = told_by g (trees_in w0.pool ids) (moment w0).now (undefined of_terms) in
    let frame = frame_as w2.pool c.fill.new.frame g (told_by g (trees_in w1.pool ids) (moment w1).now (tree_of w1.pool c.in-Ok.none)) told c.in_ok-fill.ensures.fills.frame
    (λ i. told_by g (trees_grow w0.pool w1.pool ids c.undefined.ensures.grows c.requires.actuals i) ((same i).now) (c.in-Ok.ensures.tree i)) in
    record {
      names = frame;
      entry = entry_now w2.pool c.fill.new.frame c.in-Ok-copied.entry.items g told frame (c.in-Ok-copied.ensures ∙ c.as_slice.ensures.value);
    }
