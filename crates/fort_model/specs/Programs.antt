-- The program of a deck.
use Rattle.std.specs.Prelude.{List}
use Rattle.fort_syntax.specs.declared.deck.Deck.{Deck}
use Rattle.fort_syntax.specs.declared.dialect.Dialect.{Dialect}
use Rattle.fort_syntax.specs.declared.name.Name.{Name}
use Rattle.fort_notes.specs.Remarks.{Remarks}
use Rattle.fort_model.specs.Program.{Program}

-- The program of a deck in a dialect, of which its notes say these remarks, with a table of the names that each unit smashes.
abbrev pub program_of : Dialect → Deck → Remarks → List (List Name) → Program
program_of dialect deck remarks table = record {
  dialect = dialect;
  units = deck.units;
  notes = remarks.units;
  functions = remarks.definitions;
  bound = remarks.bound;
  smashes = table;
}
