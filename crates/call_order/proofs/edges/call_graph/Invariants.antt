use Rattle.std.proofs.Common.{◌≡◌, ◌++◌, drop}
use Rattle.std.specs.Prelude.{map}
use Rattle.call_order.specs.CallGraphs.{callees}
use Rattle.call_order.proofs.edges.call_graph.Given as goal

abbrev pub invariant-loop-i : goal.invariant-loop-i
invariant-loop-i l = (l.rows.items ++ map (callees l.deck.units.now) (drop l.i l.deck.units.now)) ≡ map (callees l.deck.units.now) l.deck.units.now
