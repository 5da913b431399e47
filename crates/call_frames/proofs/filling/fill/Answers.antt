use Rattle.std.proofs.Common.{List, subst}
use Rattle.formula.specs.Pool.{tree_of}
use Rattle.formula.proofs.Grown.{AllBelow-Grows}
use Rattle.fort_syntax.specs.declared.name.Name.{Name}
use Rattle.fort_syntax.specs.declared.unit.DataName.{DataName}
use Rattle.note_terms.specs.Stated.{trees_in}
use Rattle.note_terms.proofs.Added.{trees_grow}
use Rattle.walk_state.specs.Moments.{moment}
use Rattle.call_frames.specs.Frames.{IsFilled, IsPlaced, all_shared, own_of}
use Rattle.call_frames.proofs.Framed.{fills}
use Rattle.call_frames.proofs.filling.fill.Goals as goal

pub put_actuals-requires-clause-actuals : goal.put_actuals-requires-clause-actuals
put_actuals-requires-clause-actuals c = AllBelow-Grows c.args.walk.now.pool c.put_names.new.walk.pool c.args.actuals.now c.put_names.ensures.on.grows c.requires.actuals

pub returns-clause-fills : goal.returns-clause-fills
returns-clause-fills c =
    let w0 = c.args.walk.now in
    let w1 = c.put_names.new.walk in
    let w2 = c.put_actuals.new.walk in
    let g = c.args.callee.now.unit.now in
    let ids = c.args.actuals.now in
    let own = own_of g (moment w0).now (tree_of w0.pool c.args.value) in
    fills w0.pool w1.pool w2.pool c.args.frame.now c.put_names.new.frame c.put_actuals.new.frame g (trees_in w0.pool ids) (trees_in w1.pool ids) own
    (subst (λ (ds : List DataName). IsFilled w0.pool c.args.frame.now w1.pool c.put_names.new.frame (all_shared ds) own) c.as_slice.ensures c.in_ok-put_names.ensures.filled)
    (subst (λ (ds : List Name). IsPlaced w1.pool c.put_names.new.frame w2.pool c.put_actuals.new.frame ds (trees_in w1.pool ids)) c.as_slice-2.ensures c.in_ok-put_actuals.ensures.placed)
    (trees_grow w0.pool w1.pool ids c.put_names.ensures.on.grows c.requires.actuals)
