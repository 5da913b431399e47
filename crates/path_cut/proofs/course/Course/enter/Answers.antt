use Rattle.std.proofs.Common.{length, refl, sym}
use Rattle.path_cut.proofs.Moving.{enter_on, enter_back, enter_full, no_room}
use Rattle.path_cut.proofs.course.Course.enter.Goals as goal

pub returns-in_default-clause-moves : goal.returns-in_default-clause-moves
returns-in_default-clause-moves c =
    enter_back c.args.flow.now c.args.self.now _ c.args.point (sym c.in_default.ensures) refl refl refl

pub returns-clause-moves : goal.returns-clause-moves
returns-clause-moves c =
    enter_on c.args.flow.now c.args.self.now c.push.new.self c.args.point c.in-Some.target
    (sym c.in-Some.ensures) c.push.ensures.start c.push.ensures.steps c.push.ensures.stage

pub returns-then-not-has_room-clause-moves : goal.returns-then-not-has_room-clause-moves
returns-then-not-has_room-clause-moves c =
    enter_full c.args.flow.now c.args.self.now _ c.args.point
    (no_room c.has_room.result (length c.args.self.now.steps.items) c.args.self.now.steps.room c.if-not-has_room.true c.has_room.ensures.1) refl refl refl
