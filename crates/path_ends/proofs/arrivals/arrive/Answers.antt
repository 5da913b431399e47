use Rattle.std.proofs.Common.{◌<◌, ◌≤◌, List, [], length, slice_get, subst, sym, arith}
use Rattle.fort_model.specs.Paths.{cut_in}
use Rattle.fort_model.specs.Program.{assertion_at, notes_of}
use Rattle.fort_model.specs.Walk.{arrive}
use Rattle.fort_syntax.specs.declared.unit.Line.{Line}
use Rattle.path_ends.proofs.Arriving.{cut_beyond, cut_within}
use Rattle.path_ends.proofs.Checked.{met_same}
use Rattle.path_ends.specs.Ends.{clock_trees}
use Rattle.path_starts.specs.Starts.{unit_of}
use Rattle.walk_setting.specs.Settings.{seen_from}
use Rattle.walk_state.specs.Moments.{moment}
use Rattle.path_ends.proofs.arrivals.arrive.Goals as goal

pub returns-then-last-lines-clause-did : goal.returns-then-last-lines-clause-did
returns-then-last-lines-clause-did c p r =
    let w0 = c.args.walk.now in
    let s = c.args.plan.now.setting.now in
    let w = seen_from s p in
    let xs = (unit_of c.args.plan.now).lines in
    let a = assertion_at (notes_of p s.number) c.args.last.point in
    let beyond : length xs ≤ c.args.last.point = subst (λ (ls : List Line). length ls ≤ c.args.last.point) c.as_slice-lines.ensures c.if-last-lines.true in
    met_same (moment w0) (moment c.check_output.new.walk) _ (arrive w (clock_trees w0.pool c.args.clock.now) c.args.last.card (cut_in (slice_get xs c.args.last.point) a) (moment w0).now [])
    (c.in-Ok.ensures.did p r)
    (λ i. arrive w (clock_trees w0.pool c.args.clock.now) c.args.last.card (sym (cut_beyond xs c.args.last.point a beyond) i) (moment w0).now [])

pub returns-clause-did : goal.returns-clause-did
returns-clause-did c p r =
    let w0 = c.args.walk.now in
    let s = c.args.plan.now.setting.now in
    let w = seen_from s p in
    let xs = (unit_of c.args.plan.now).lines in
    let a = assertion_at (notes_of p s.number) c.args.last.point in
    let within : c.args.last.point < length c.as_slice-lines.result.now = omega (arith, c.if-last-lines.false) in
    let inside : c.args.last.point < length xs = subst (λ (ls : List Line). c.args.last.point < length ls) c.as_slice-lines.ensures within in
    met_same (moment w0) (moment c.check_at.new.walk) _ (arrive w (clock_trees w0.pool c.args.clock.now) c.args.last.card (cut_in (slice_get xs c.args.last.point) a) (moment w0).now [])
    (c.in-Ok-check_at.ensures.did c.args.last.card p r)
    (λ i. arrive w (clock_trees w0.pool c.args.clock.now) c.args.last.card (sym (cut_within xs c.args.last.point a inside) i) (moment w0).now [])
