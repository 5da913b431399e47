use Rattle.run_state.specs.Rests.{Same, weight}
use Rattle.run_work.specs.Ways.{CanWork}
use Rattle.run_work.proofs.working.settle.Given as goal

abbrev pub invariant-loop : goal.invariant-loop
invariant-loop l = Same l.p.code.now l.p.setting.now l.fn.m l.m × CanWork l.p l.m

abbrev pub decreases-loop : goal.decreases-loop
decreases-loop l = weight l.p.code.now l.m
