-- What the conditions of a program say of the walks along its paths.
use Rattle.std.specs.Prelude.{ℕ, ◌≡◌, List}
use Rattle.formula.specs.declared.value.Value.{Value}
use Rattle.fort_syntax.specs.declared.unit.Unit.{Unit as Routine}
use Rattle.fort_model.specs.Conditions.{AreAllPaths, IsExact, checks_of, conditions_of, walked_by}
use Rattle.fort_model.specs.Events.{labels}
use Rattle.fort_model.specs.Paths.{Path}
use Rattle.fort_model.specs.Program.{Program}
use Rattle.fort_model.specs.Symbols.{Symbol}

-- along all paths of a program its conditions are exact: one for each check, false just where the walk fails there
abbrev pub ConditionsAreExact : Type 0
ConditionsAreExact = (p : Program) (paths : List (List Path)) → AreAllPaths p paths → IsExact p (conditions_of p paths)

-- the kinds and cards of the checks of a walk don't depend on values
abbrev pub ChecksDoNotDependOnValues : Type 0
ChecksDoNotDependOnValues =
    (p : Program) (i : ℕ) (u : Routine) (values : Symbol → Value) (path : Path)
    → labels (walked_by p i u values path) ≡ checks_of p i u path
