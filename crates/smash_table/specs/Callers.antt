-- The unit that calls, and the program around it.
use Rattle.fort_syntax.specs.declared.unit.Unit.{Unit as Routine}
use Rattle.fort_model.specs.Program.{Program}
use Rattle.smash_laws.specs.Ordered.{with_table}
use Rattle.smash_table.specs.declared.sites.Caller.{Caller}

-- the unit that a caller is
abbrev pub unit_of : Caller → Routine
unit_of c = c.book.now.unit.now

-- a program of the units around a caller, with what they smash
abbrev pub program_of : Caller → Program
program_of c = with_table c.deck.now.units.now c.rows.now
