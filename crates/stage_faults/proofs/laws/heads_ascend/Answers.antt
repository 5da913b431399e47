use Rattle.stage_faults.proofs.Heads.{heads_ascend, heads_are_above}
use Rattle.stage_faults.proofs.laws.heads_ascend.Goals as goal

pub returns-clause-ascend : goal.returns-clause-ascend
returns-clause-ascend c = heads_ascend

pub returns-clause-above : goal.returns-clause-above
returns-clause-above c = heads_are_above
