use Rattle.std.proofs.Common.{◌≡◌, Some, slice_get}
use Rattle.run_state.specs.Rests.{Works, weight}
use Rattle.run_state.specs.declared.machine.Stage.TheVariants as stage
use Rattle.run_work.specs.Ways.{CanWork}
use Rattle.run_work.proofs.acting.act_on.Given as goal

abbrev pub invariant-loop-m : goal.invariant-loop-m
invariant-loop-m l = Works l.p.code.now l.p.setting.now l.fn.m l.m × CanWork l.p l.m × (l.m.stage ≡ stage.Inside → slice_get l.p.code.now.units l.m.frame.unit ≡ Some l.unit)

abbrev pub decreases-loop-m : goal.decreases-loop-m
decreases-loop-m l = weight l.p.code.now l.m
