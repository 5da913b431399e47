use Rattle.run_work.proofs.Entering.{carried_so}
use Rattle.run_work.proofs.stepping.carry.Goals as goal

pub returns-clause-steps : goal.returns-clause-steps
returns-clause-steps c = (carried_so c.args.p.now c.args.m.now c.requires.can c.requires.carried).0

pub returns-clause-can : goal.returns-clause-can
returns-clause-can c = (carried_so c.args.p.now c.args.m.now c.requires.can c.requires.carried).1
