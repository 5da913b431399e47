use Rattle.std.proofs.Common.{◌+◌, refl, sym, arith}
use Rattle.path_cut.proofs.Moving.{back_over, back_start}
use Rattle.path_cut.proofs.course.Course.begin_next.Goals as goal

pub returns-in_default-clause-moves : goal.returns-in_default-clause-moves
returns-in_default-clause-moves c =
    back_over c.args.flow.now c.args.self.now _ c.requires (sym c.in_default.ensures.cut) refl refl refl

pub returns-clause-moves : goal.returns-clause-moves
returns-clause-moves c =
    back_start c.args.flow.now c.args.self.now (record c.args.self.now { start = c.args.self.now.start + 1 }) c.enter.new.self c.in-Some.point c.requires
    (sym c.in-Some.ensures.cut) (omega arith) refl c.enter.ensures.moves
