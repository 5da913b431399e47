-- What the stage of the rules on calls tells of units.
use Rattle.std.specs.Prelude.{◌≡◌, ℕ, List, Option, Some, None}
use Rattle.fort_model.specs.CallFacts.{IsCalleesTable}
use Rattle.fort_model.specs.CallOrder.{IsCallOrder}
use Rattle.fort_model.specs.Program.{Program}
use Rattle.fort_model.specs.Stages.{IsFirstBroken, KeepsAll, rules_of_calls}
use Rattle.fort_syntax.specs.declared.refusal.Fault.{Fault}
use Rattle.fort_syntax.specs.declared.unit.Unit.{Unit as Routine}
use Rattle.call_order.specs.declared.orders.Ordering.{Ordering}
use Rattle.call_order.specs.declared.orders.Ordering.TheVariants.{Acyclic, Recursive}

-- the number of the first unit that calls itself, where there is one
abbrev pub recursive_of : Ordering → Option ℕ
recursive_of (Acyclic found) = None
recursive_of (Recursive i) = Some i

-- the order of calls, the callees of each unit, and all rules on calls are kept
pub record AreCallsOrdered (units : List Routine) (numbers : List ℕ) (rows : List (List ℕ)) : Type 0 where
  pub order : IsCallOrder units numbers
  pub callees : IsCalleesTable units rows
  pub kept : (p : Program) → p.units ≡ units → KeepsAll p rules_of_calls

-- the first fault of the rules on calls in every program of these units
abbrev pub IsCallFault : List Routine → Fault → Type 0
IsCallFault units f = (p : Program) → p.units ≡ units → IsFirstBroken p rules_of_calls f
