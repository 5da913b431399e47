use Rattle.call_order.specs.CallGraphs.{callees}
use Rattle.call_order.proofs.Rows.{pushed}
use Rattle.call_order.proofs.edges.call_graph.Goals as goal

pub loop-i-preserved : goal.loop-i-preserved
loop-i-preserved c =
    let units = c.args.deck.now.units.now in
    pushed (callees units) units c.loop-i.i c.book.result.now.unit.now c.loop-i.rows.items c.push.new.self.items c.in-Ok.row
    c.book.ensures c.in-Ok-push.ensures.items c.in-Ok.ensures c.loop-i.invariant
