use Rattle.fort_model.proofs.GraphLeads.{graphs_lead as law}
use Rattle.fort_model.proofs.graph_rows.graphs_lead.Goals as goal

pub returns : goal.returns
returns c = law
