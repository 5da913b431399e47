-- The order of calls has each called unit before its callers.
use Rattle.std.specs.Prelude.{ℕ, ◌≡◌, List, ◌∷◌, Some, slice_get}
use Rattle.fort_syntax.specs.declared.unit.Unit.{Unit as Routine}
use Rattle.fort_model.specs.CallFacts.{sites_of_unit, IsCalleesTable}
use Rattle.fort_model.specs.CallOrder.{IsCallOrder}
use Rattle.fort_model.specs.Calls.{CallSite, Calls, callee_of}
use Rattle.fort_model.specs.Lists.{IsAmong}

-- a unit stands before another one
pub data StandsBefore (j i : ℕ) : List ℕ → Type 0 where
  first : (is : List ℕ) → IsAmong i is → StandsBefore j i (j ∷ is)
  later : (k : ℕ) (is : List ℕ) → StandsBefore j i is → StandsBefore j i (k ∷ is)

-- a unit stands before those that call it
abbrev pub CallersStandLater : Type 0
CallersStandLater = (units : List Routine) (order : List ℕ) (i j : ℕ) → IsCallOrder units order → Calls units i j
    → StandsBefore j i order

-- a call is of a unit that is there
pub record IsOfUnit (units : List Routine) (s : CallSite) : Type 0 where
  pub unit : ℕ
  pub routine : Routine
  pub callee_is : callee_of units s ≡ Some unit
  pub is_there : slice_get units unit ≡ Some routine

-- so are all calls
abbrev pub CallsAreOfUnits : List Routine → Type 0
CallsAreOfUnits units = (i : ℕ) (u : Routine) (s : CallSite) → slice_get units i ≡ Some u
    → IsAmong s (sites_of_unit u) → IsOfUnit units s

-- a table of callees says that each call is of a unit
abbrev pub TablesNameUnits : Type 0
TablesNameUnits = (units : List Routine) (rows : List (List ℕ)) → IsCalleesTable units rows → CallsAreOfUnits units
