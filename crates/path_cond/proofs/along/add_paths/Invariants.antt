use Rattle.std.proofs.Common.{◌+◌, List, cond, length}
use Rattle.path_cond.proofs.Paths.{Passed}
use Rattle.path_cond.specs.Found.{drafts_of}
use Rattle.path_cut.specs.Cursor.{way_at, ways_left}
use Rattle.path_cut.specs.declared.step.Step.{Step}
use Rattle.path_fronts.specs.Fronts.{IsFront}
use Rattle.shared_fronts.specs.Firsts.{SharesSteps}
use Rattle.path_cond.proofs.along.add_paths.Given as goal

abbrev pub invariant-loop-more : goal.invariant-loop-more
invariant-loop-more l = record {
  passed : Passed l.plan l.flow.graph.now l.fn.drafts (drafts_of l.walked) l.number l.more (way_at l.paths) (ways_left l.paths);
  front : (before : List Step) × SharesSteps l.paths.course.shared before l.paths.course.steps.items × IsFront l.plan.setting.now before (length before) l.walked.front;
}

abbrev pub decreases-loop-more : goal.decreases-loop-more
decreases-loop-more l = length (ways_left l.paths) + cond l.more 1 0
