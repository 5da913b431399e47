-- What facts of calls are to a program.
use Rattle.std.specs.Prelude.{◌≡◌, ℕ, List, [], ◌∷◌, ◌++◌, map, Some}
use Rattle.fort_syntax.specs.declared.unit.Line.{Line}
use Rattle.fort_syntax.specs.declared.unit.Unit.{Unit as Routine}
use Rattle.fort_model.specs.declared.call_facts.CallFacts.{CallFacts}
use Rattle.fort_model.specs.CallOrder.{IsCallOrder}
use Rattle.fort_model.specs.Calls.{CallSite, sites_of, callee_of}
use Rattle.fort_model.specs.Program.{Program}
use Rattle.fort_model.specs.SmashTables.{IsSmashTable}

abbrev pub sites_of_lines : Routine → List Line → List CallSite
sites_of_lines u [] = []
sites_of_lines u (line ∷ lines) = sites_of u line.stmt ++ sites_of_lines u lines

-- the calls of a unit, CALLs and references alike, in the order of the called names in its text
abbrev pub sites_of_unit : Routine → List CallSite
sites_of_unit u = sites_of_lines u u.lines

-- lists of numbers, one for each of some units, are those of the units that their calls are of
abbrev pub are_callees : List Routine → List Routine → List (List ℕ) → Type 0
are_callees units [] [] = Unit {0}
are_callees units [] (row ∷ rows) = ⊥
are_callees units (u ∷ us) [] = ⊥
are_callees units (u ∷ us) (row ∷ rows) = (map (λ j. Some j) row ≡ map (callee_of units) (sites_of_unit u))
    × are_callees units us rows

-- for each unit the number of the unit that each of its calls is of, in the order of the text; so each call is of some unit
abbrev pub IsCalleesTable : List Routine → List (List ℕ) → Type 0
IsCalleesTable units rows = are_callees units units rows

-- the facts of the calls of a program
pub record AreCallFacts (p : Program) (facts : CallFacts) : Type 0 where
  pub order : IsCallOrder p.units facts.order
  pub table : IsSmashTable p
  pub smashes : facts.smashes ≡ p.smashes
  pub callees : IsCalleesTable p.units facts.callees
