use Rattle.ready_flows.proofs.Ready.{ready_unit}
use Rattle.ready_flows.proofs.laws.ready_units_stand.Goals as goal

pub returns : goal.returns
returns c = ready_unit
