-- Laws of what the data names of a unit stand for at its entry.
use Rattle.std.specs.Prelude.{◌≡◌, ℕ}
use Rattle.fort_model.specs.Conditions.{sight}
use Rattle.fort_model.specs.Program.{Program}
use Rattle.fort_model.specs.Senses.{of_terms}
use Rattle.fort_model.specs.Walk.{at_entry}
use Rattle.fort_syntax.specs.WellFormed.{IsWellFormedUnit}
use Rattle.fort_syntax.specs.declared.dialect.Dialect.{Dialect}
use Rattle.fort_syntax.specs.declared.unit.Unit.{Unit as Routine}
use Rattle.entry_frames.specs.Entries.{AreGoodShapes, at_entry_in}

-- it is what they stand for on each walk in the sense of terms
abbrev pub EntriesAreAtEntry : Type 0
EntriesAreAtEntry = (p : Program) (i : ℕ) (u : Routine) → at_entry_in u.names ≡ at_entry (sight of_terms p i u)

abbrev pub WellFormedUnitsHaveGoodShapes : Type 0
WellFormedUnitsHaveGoodShapes = (dialect : Dialect) (u : Routine) → IsWellFormedUnit dialect u → AreGoodShapes u.names
