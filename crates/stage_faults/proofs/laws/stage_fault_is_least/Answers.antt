use Rattle.stage_faults.proofs.Least.{stage_fault_is_least, stage_fault_is_first}
use Rattle.stage_faults.proofs.laws.stage_fault_is_least.Goals as goal

pub returns-clause-least : goal.returns-clause-least
returns-clause-least c = stage_fault_is_least

pub returns-clause-first : goal.returns-clause-first
returns-clause-first c = stage_fault_is_first
