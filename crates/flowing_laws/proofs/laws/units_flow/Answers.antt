use Rattle.flowing_laws.proofs.Flowing.{unit_flows}
use Rattle.flowing_laws.proofs.laws.units_flow.Goals as goal

pub returns : goal.returns
returns c = unit_flows
