-- What is well formed gives what a run goes by.
use Rattle.std.specs.Prelude.{ℕ, ◌≡◌, List, Some, slice_get}
use Rattle.fort_syntax.specs.WellFormed.{IsWellFormedUnit}
use Rattle.fort_syntax.specs.declared.dialect.Dialect.{Dialect}
use Rattle.fort_syntax.specs.declared.unit.Unit.{Unit as Routine}
use Rattle.fort_model.specs.CallFacts.{sites_of_unit}
use Rattle.fort_model.specs.CallOrder.{IsCallOrder}
use Rattle.run_shapes.specs.Coded.{calls_coded}
use Rattle.run_shapes.specs.declared.unit_code.CallCode.{CallCode}
use Rattle.run_state.specs.Shows.{HasApartNames}
use Rattle.run_ranks.specs.Orders.{StandsBefore, CallsAreOfUnits}

-- the names of a well-formed unit are apart
abbrev pub NamesAreApart : Type 0
NamesAreApart = (dialect : Dialect) (u : Routine) → IsWellFormedUnit dialect u → HasApartNames u

-- a unit that is called stands before its caller, among the units
pub record StandsEarlier (units : List Routine) (order : List ℕ) (i : ℕ) (call : CallCode) : Type 0 where
  pub unit : ℕ
  pub routine : Routine
  pub callee_is : call.callee ≡ Some unit
  pub is_there : slice_get units unit ≡ Some routine
  pub earlier : StandsBefore unit i order

-- so does each unit that is called
abbrev pub CallsStandEarlier : List Routine → List ℕ → Type 0
CallsStandEarlier units order =
    (i k : ℕ) (u : Routine) (call : CallCode) → slice_get units i ≡ Some u
    → slice_get (calls_coded units 1 (sites_of_unit u)) k ≡ Some call → StandsEarlier units order i call

-- then each call of code is of a unit that stands earlier
abbrev pub OrdersHoldCode : Type 0
OrdersHoldCode = (units : List Routine) (order : List ℕ) → IsCallOrder units order → CallsAreOfUnits units
    → CallsStandEarlier units order
