-- That the limits are judged in one way.
use Rattle.std.specs.Prelude.{◌≡◌, ◌⊎◌, List}
use Rattle.fort_syntax.specs.declared.refusal.Fault.{Fault}
use Rattle.fort_model.specs.Conditions.{AreAllPaths}
use Rattle.fort_model.specs.Paths.{Path}
use Rattle.fort_model.specs.Program.{Program}
use Rattle.path_sizes.specs.Limits.{IsWithinLimits, IsSizeFault}

-- a program whose units have lists of their paths is within the limits, or has a fault of size, and never both
abbrev pub SizesAreJudged : Type 0
SizesAreJudged =
    (p : Program) (paths : List (List Path)) → AreAllPaths p paths
    → (IsWithinLimits p paths ⊎ ((f : Fault) × IsSizeFault p f)) × ((f : Fault) → IsWithinLimits p paths → IsSizeFault p f → ⊥)

-- two faults of size are one
abbrev pub OneSizeFault : Type 0
OneSizeFault = (p : Program) (f g : Fault) → IsSizeFault p f → IsSizeFault p g → f ≡ g
