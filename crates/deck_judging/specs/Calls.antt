-- What is known of the calls of a deck.
use Rattle.std.specs.Prelude.{ℕ, List}
use Rattle.fort_syntax.specs.declared.unit.Unit.{Unit as Routine}
use Rattle.fort_model.specs.CallFacts.{IsCalleesTable}
use Rattle.fort_model.specs.CallOrder.{IsCallOrder}

-- units in order, each behind those that it calls, and each call is of one of them
pub record AreCallsKnown (units : List Routine) (order : List ℕ) : Type 0 where
  pub ordered : IsCallOrder units order
  pub rows : List (List ℕ)
  pub callees : IsCalleesTable units rows
