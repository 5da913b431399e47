use Rattle.flow_graph.proofs.Together.{first_told, graph_decided, none_decided}
use Rattle.flow_graph.proofs.whole.graph.Goals as goal

pub returns-clause-graph : goal.returns-clause-graph
returns-clause-graph c =
    graph_decided c.args.scene.now c.args.number c.in-Ok.early c.in-Ok-routes_in.routes c.decided.result c.in-Ok-routes_in.ensures c.decided.ensures.graph

pub returns-clause-kept : goal.returns-clause-kept
returns-clause-kept c =
    none_decided c.args.scene.now c.args.number c.in-Ok.early c.in-Ok-routes_in.routes c.decided.result c.in-Ok.ensures c.in-Ok-routes_in.ensures c.decided.ensures.graph

pub returns-clause-broken : goal.returns-clause-broken
returns-clause-broken c = λ f q.
    first_told c.args.scene.now c.args.number c.in-Ok.early c.in-Ok-routes_in.routes f c.in-Ok.ensures c.in-Ok-routes_in.ensures (c.decided.ensures.broken f q)
