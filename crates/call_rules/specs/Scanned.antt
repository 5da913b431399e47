-- One pass over units finds their first fault.
use Rattle.std.specs.Prelude.{ℕ, ◌+◌, List, [], ◌∷◌, Option, None}
use Rattle.fort_syntax.specs.UnitRules.{fault_before}
use Rattle.fort_syntax.specs.declared.name.Name.{Name}
use Rattle.fort_syntax.specs.declared.refusal.Fault.{Fault}
use Rattle.fort_syntax.specs.declared.rule.Rule.TheVariants.{UnitTwice, Recursion}
use Rattle.fort_syntax.specs.declared.unit.Unit.{Unit as Routine}
use Rattle.name_tables.specs.Sets.{with_name}
use Rattle.stage_faults.specs.Scans.{first_in_unit, first_of_two}
use Rattle.call_rules.specs.CallFaults.{is_number, stmt_rule}
use Rattle.call_rules.specs.Taken.{is_taken}

-- the first fault of the unit of number i, behind units with some names, in a deck with some blocks
abbrev pub unit_scan : List Routine → (earlier blocks : List Name) → Option ℕ → ℕ → Routine → Option Fault
unit_scan units earlier blocks recursive i u =
    first_in_unit (first_of_two UnitTwice Recursion (is_taken earlier blocks u.name) (is_number recursive i))
    (stmt_rule units u) u

abbrev pub scan : List Routine → List Name → Option ℕ → List Name → ℕ → List Routine → Option Fault
scan units blocks recursive earlier i [] = None
scan units blocks recursive earlier i (u ∷ us) =
    fault_before (unit_scan units earlier blocks recursive i u) (scan units blocks recursive
    (with_name earlier u.name) (i + 1) us)
