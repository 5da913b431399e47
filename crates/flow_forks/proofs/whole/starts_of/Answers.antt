use Rattle.std.proofs.Common.{◌≡◌, Some, slice_get, sym, ap, ◌∙◌}
use Rattle.std.proofs.lemmas.Option.{slice_get-get_or}
use Rattle.fort_syntax.specs.declared.unit.Line.{Line}
use Rattle.flow_targets.proofs.Knowing.{known_grows}
use Rattle.flow_forks.proofs.Starting.{start_more}
use Rattle.flow_forks.proofs.whole.starts_of.Goals as goal

pub loop-at-preserved : goal.loop-at-preserved
loop-at-preserved c =
    let k = c.args.known.now in
    let u = c.args.known.now.unit.now in
    let lines = c.as_slice-lines.result.now in
    let line = c.index-lines-at.result in
    let old = c.loop-at.forks.items in
    let new = c.target_of.new.forks.items in
    let here : slice_get u.lines c.loop-at.at ≡ Some line =
    ap (λ xs. slice_get xs c.loop-at.at) (sym c.as_slice-lines.ensures) ∙ slice_get-get_or lines c.loop-at.at c.index-lines-at.result c.loop-at-test.true
    ∙ ap (λ (x : Line). Some x) (sym c.index-lines-at.is) in
    record {
      known = known_grows k 2 old new c.in-Ok.start c.in-Ok.ensures.grown c.loop-at.invariant.known;
      starts = start_more k.dialect u c.loop-at.at old new c.loop-at.starts.items c.push.new.self.items c.in-Ok.start line
          c.loop-at.invariant.starts c.in-Ok.ensures.grown here c.in-Ok.ensures.target c.in-Ok-push.ensures.items;
    }
