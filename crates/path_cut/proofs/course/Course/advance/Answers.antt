use Rattle.std.proofs.Common.{◌≡◌, ◌≤◌, length, take, ◌∙◌, arith}
use Rattle.path_cut.specs.Ways.{is_marked}
use Rattle.path_cut.specs.Work.{left}
use Rattle.path_cut.proofs.Sharing.{take_fewer}
use Rattle.path_cut.proofs.course.Course.advance.Goals as goal

pub loop-self-init : goal.loop-self-init
loop-self-init c =
    let flow = c.args.flow.now in
    let old = c.args.self.now in
    let new = c.begin.new.self in
    let begun = c.begin.ensures in
    let shared : new.shared ≡ length old.steps.items = begun.shared in
    let same : length new.steps.items ≡ length old.steps.items = λ i. length (begun.steps i).items in
    let within : new.shared ≤ length new.steps.items = omega arith in
    let before : new.shared ≤ length old.steps.items = omega arith in (
      (λ i. left flow.graph.now (is_marked flow.marks.items) (begun.steps i).room (begun.start i) (begun.steps i).items (begun.stage i)),
      within,
      before,
      (λ i. take new.shared (begun.steps i).items),
    )

pub loop-self-preserved : goal.loop-self-preserved
loop-self-preserved c =
    let within : c.turn.new.self.shared ≤ length c.args.self.now.steps.items =
    let fewer = c.turn.ensures.shares.fewer in
    let before = c.loop-self.invariant.2 in
    omega arith in (
      c.turn.ensures.moves.kept ∙ c.loop-self.invariant.0,
      c.turn.ensures.shares.within c.loop-self.invariant.1,
      within,
      c.turn.ensures.shares.front c.loop-self.invariant.1
          ∙ take_fewer c.turn.new.self.shared c.loop-self.self.shared c.loop-self.self.steps.items c.args.self.now.steps.items c.turn.ensures.shares.fewer c.loop-self.invariant.3,
    )
