-- That the paths of a unit in order are one list, and those of a program one list of lists.
use Rattle.std.specs.Prelude.{◌≡◌, List}
use Rattle.fort_syntax.specs.declared.dialect.Dialect.{Dialect}
use Rattle.fort_syntax.specs.declared.unit.Unit.{Unit as Routine}
use Rattle.fort_model.specs.Conditions.{AreAllPaths}
use Rattle.fort_model.specs.Paths.{Path, ArePathsInOrder}
use Rattle.fort_notes.specs.Assertions.{Notes}
use Rattle.fort_model.specs.Program.{Program}

-- two lists that are the paths of a unit in order are equal
abbrev pub PathsAreOne : Type 0
PathsAreOne = (dialect : Dialect) (u : Routine) (notes : Notes) (ps qs : List Path)
    → ArePathsInOrder dialect u notes ps → ArePathsInOrder dialect u notes qs → ps ≡ qs

-- so a program has one list of the paths of its units
abbrev pub AllPathsAreOne : Type 0
AllPathsAreOne = (p : Program) (pss qss : List (List Path)) → AreAllPaths p pss → AreAllPaths p qss → pss ≡ qss
