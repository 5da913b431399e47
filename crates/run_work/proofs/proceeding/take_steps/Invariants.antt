use Rattle.run_state.specs.Rests.{IsSettled}
use Rattle.run_work.specs.Ways.{CanWork, WentOf}
use Rattle.run_work.proofs.proceeding.take_steps.Given as goal

abbrev pub invariant-loop : goal.invariant-loop
invariant-loop l = WentOf l.p.units.now l.p.code.now l.p.setting.now l.counter l.fn.m l.m × IsSettled l.p.code.now l.m × CanWork l.p l.m
