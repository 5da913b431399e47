use Rattle.std.proofs.Common.{◌∙◌, List, [], length, refl, subst, sym, ℕ}
use Rattle.entry_frames.specs.Entries.{IsFrame}
use Rattle.formula.specs.declared.node.TermId.{TermId}
use Rattle.fort_model.specs.Paths.{cut_at}
use Rattle.fort_model.specs.Walk.{arrive, notes_here}
use Rattle.path_ends.specs.Ends.{clock_trees}
use Rattle.path_fronts.proofs.Beginning.{arrived_on, went_along}
use Rattle.path_fronts.proofs.Carrying.{front_on}
use Rattle.path_fronts.specs.Steps.{HasStart}
use Rattle.path_starts.specs.Starts.{unit_of}
use Rattle.walk_setting.specs.Settings.{seen_from}
use Rattle.walk_state.specs.Moments.{moment}
use Rattle.way_walks.specs.Along.{along}
use Rattle.path_fronts.proofs.following.finish.Goals as goal

pub arrive-requires-clause-frame : goal.arrive-requires-clause-frame
arrive-requires-clause-frame c =
    let w = c.args.front.now.walk in
    subst (λ (ids : List TermId). IsFrame w.pool (unit_of c.args.plan.now) w.names ids (moment w).now) (sym c.deref.ensures.value) c.requires.told

pub returns-clause-front : goal.returns-clause-front
returns-clause-front c =
    let s = c.args.plan.now.setting.now in
    let f = c.args.front.now in
    let w0 = f.walk in
    let w1 = c.arrive.new.walk in
    let steps = c.args.path.now.steps.now in
    front_on s steps (length steps) f w1 c.requires.ready c.requires.front c.in-Ok.ensures.on
    (λ p r.
    let sight = seen_from s p in
    arrived_on (moment w0) (moment w0) (moment w1)
    (arrive sight (clock_trees w0.pool f.clock) c.args.card (cut_at sight.unit (notes_here sight) c.args.path.now.end) (moment w0).now []) refl (c.in-Ok.ensures.did p r))

pub returns-clause-along : goal.returns-clause-along
returns-clause-along c p r has =
    let s = c.args.plan.now.setting.now in
    let f = c.args.front.now in
    let w0 = f.walk in
    let steps = c.args.path.now.steps.now in
    let end = c.args.path.now.end in
    let sight = seen_from s p in
    let there = subst (λ (n : ℕ). HasStart sight n) (sym c.requires.start) has in
    went_along p s.number s.book.now.unit.now f.start end c.args.card steps (moment w0) (moment c.arrive.new.walk) (clock_trees w0.pool f.clock) (c.requires.gone p r) (c.requires.front.parts p r) there
    (c.in-Ok.ensures.did p r)
    ∙ (λ i. along sight (c.requires.start i) steps end)
