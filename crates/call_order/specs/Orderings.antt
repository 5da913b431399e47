-- What is told of the order of calls.
use Rattle.std.specs.Prelude.{List, Some}
use Rattle.fort_syntax.specs.declared.unit.Unit.{Unit as Routine}
use Rattle.call_order.specs.CallGraphs.{AreOrdered, HaveNoRecursion, IsFirstRecursive}
use Rattle.call_order.specs.declared.orders.Ordering.{Ordering}
use Rattle.call_order.specs.declared.orders.Ordering.TheVariants.{Acyclic, Recursive}

-- no unit calls itself, and the order is theirs; or it is the first that calls itself
abbrev pub TellsOrdering : List Routine → Ordering → Type 0
TellsOrdering units (Acyclic found) = HaveNoRecursion units × AreOrdered units found.order found.callees
TellsOrdering units (Recursive i) = IsFirstRecursive units (Some i)
