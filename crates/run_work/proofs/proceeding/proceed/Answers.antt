use Rattle.run_work.proofs.Going.{tells}
use Rattle.run_work.proofs.proceeding.proceed.Goals as goal

pub returns-clause-tells : goal.returns-clause-tells
returns-clause-tells c = tells c.args.p.now.units.now c.args.p.now.code.now c.args.p.now.setting.now c.take_steps.new.m c.take_steps.ensures.settled
