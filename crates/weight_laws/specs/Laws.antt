-- What weights are to checks.
use Rattle.std.specs.Prelude.{◌≡◌, ℕ, length}
use Rattle.fort_syntax.specs.declared.unit.Unit.{Unit as Routine}
use Rattle.fort_model.specs.Conditions.{checks_of}
use Rattle.fort_model.specs.Paths.{Path}
use Rattle.fort_model.specs.Program.{Program}
use Rattle.path_sizes.specs.Weights.{weights_of}

-- along each path there are as many weights of conditions as checks
abbrev pub WeightsHaveChecks : Type 0
WeightsHaveChecks = (p : Program) (i : ℕ) (u : Routine) (path : Path) → length (weights_of p i u path)
    ≡ length (checks_of p i u path)
