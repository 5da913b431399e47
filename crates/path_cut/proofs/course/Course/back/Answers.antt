use Rattle.path_cut.proofs.Moving.{back_step}
use Rattle.path_cut.proofs.course.Course.back.Goals as goal

pub returns-clause-moves : goal.returns-clause-moves
returns-clause-moves c =
    back_step c.args.flow.now c.args.self.now _ c.undo-step.result c.undo-step.ensures.undone.0 c.undo-step.ensures.undone.1 c.behind-self.ensures
