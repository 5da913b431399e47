use Rattle.std.proofs.Common.{sym}
use Rattle.path_cut.proofs.Moving.{on_point}
use Rattle.path_cut.proofs.course.Course.pass.Goals as goal

pub returns-clause-moves : goal.returns-clause-moves
returns-clause-moves c =
    on_point c.args.flow.now c.args.self.now c.enter.new.self c.args.point c.requires (sym c.if-is_cut.ensures) c.enter.ensures.moves
