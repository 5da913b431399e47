use Rattle.std.proofs.Common.{◌≡◌, ◌++◌, drop}
use Rattle.std.specs.Prelude.{map}
use Rattle.fort_model.specs.Calls.{callee_of}
use Rattle.call_order.specs.CallGraphs.{known}
use Rattle.call_order.proofs.edges.callees_of.Given as goal

abbrev pub invariant-loop-site : goal.invariant-loop-site
invariant-loop-site l = (l.row.items ++ known (map (callee_of l.deck.units.now) (drop l.site-index l.calls))) ≡ known (map (callee_of l.deck.units.now) l.calls)
