-- What the tables of the units of a deck tell.
use Rattle.std.specs.Prelude.{true, false, List}
use Rattle.fort_syntax.specs.declared.unit.Unit.{Unit as Routine}
use Rattle.unit_tables.specs.Tables.{AreNumbersOf}
use Rattle.unit_tables.specs.declared.unit_numbers.UnitNumbers.{UnitNumbers}

-- the tables tell of each name the number of the first FUNCTION and of the first SUBROUTINE with it
abbrev pub AreUnitNumbers : List Routine → UnitNumbers → Type 0
AreUnitNumbers units tables = AreNumbersOf true units tables.functions × AreNumbersOf false units tables.subroutines
