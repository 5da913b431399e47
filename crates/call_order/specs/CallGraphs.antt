-- Units as the points of a graph, with an edge for each call.
use Rattle.std.specs.Prelude.{◌≡◌, ◌<◌, ℕ, IsTrue, List, [], ◌∷◌, map, Option, Some, None}
use Rattle.fort_model.specs.CallFacts.{sites_of_unit}
use Rattle.fort_model.specs.CallOrder.{IsCallOrder}
use Rattle.fort_model.specs.Calls.{Reaches, callee_of}
use Rattle.fort_syntax.specs.DeckOrder.{units_ascend_above}
use Rattle.fort_syntax.specs.WellFormed.{AreWellFormedUnits}
use Rattle.fort_syntax.specs.declared.dialect.Dialect.{Dialect}
use Rattle.fort_syntax.specs.declared.unit.Unit.{Unit as Routine}

-- those of some numbers that are there
abbrev pub known : List (Option ℕ) → List ℕ
known [] = []
known (None ∷ os) = known os
known (Some j ∷ os) = j ∷ known os

-- the numbers of the units that the calls of a unit are of, where they are of some
abbrev pub callees : List Routine → Routine → List ℕ
callees units u = known (map (callee_of units) (sites_of_unit u))

-- for each unit these numbers
abbrev pub call_graph : List Routine → List (List ℕ)
call_graph units = map (callees units) units

-- units are well formed in some dialect, and their cards ascend
abbrev pub AreInOrder : List Routine → Type 0
AreInOrder units = (dialect : Dialect) × AreWellFormedUnits dialect units × IsTrue (units_ascend_above 0 units)

-- no unit calls itself, directly or through others
abbrev pub HaveNoRecursion : List Routine → Type 0
HaveNoRecursion units = (i : ℕ) → Reaches units i i → ⊥

-- the first unit that calls itself, directly or through others: none exactly where none does
abbrev pub IsFirstRecursive : List Routine → Option ℕ → Type 0
IsFirstRecursive units None = HaveNoRecursion units
IsFirstRecursive units (Some i) = Reaches units i i × ((j : ℕ) → j < i → Reaches units j j → ⊥)

-- the order of calls, and for each unit the numbers of the units that its calls are of
pub record AreOrdered (units : List Routine) (numbers : List ℕ) (rows : List (List ℕ)) : Type 0 where
  pub order : IsCallOrder units numbers
  pub graph : rows ≡ call_graph units
