-- A start of a unit, with tables.
use Rattle.std.specs.Prelude.{◌≡◌, List}
use Rattle.formula.specs.Atoms.{has_twin}
use Rattle.fort_syntax.specs.declared.unit.Unit.{Unit as Routine}
use Rattle.fort_notes.specs.declared.cases.Given.{Given}
use Rattle.unit_tables.specs.Tables.{AreNamePlaces}
use Rattle.run_start.specs.Places.{ArePlacesOf}
use Rattle.run_start.specs.Starts.{entities, names_given}
use Rattle.run_start.specs.declared.tables.Tables.{Tables}

-- tables of what a unit's names are given, and of its start entities
pub record AreTables (u : Routine) (given : List Given) (t : Tables) : Type 0 where
  pub words : t.words.items ≡ names_given given
  pub table : ArePlacesOf (names_given given) t.table
  pub twice : t.twice ≡ has_twin (names_given given)
  pub names : t.names.items ≡ entities u
  pub places : ArePlacesOf (entities u) t.places
  pub known : AreNamePlaces u t.known
