use Rattle.ready_flows.proofs.Ready.{ready_flows}
use Rattle.ready_flows.proofs.laws.ready_units_flow.Goals as goal

pub returns : goal.returns
returns c = ready_flows
