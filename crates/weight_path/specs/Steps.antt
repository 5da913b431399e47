-- Steps of a path, taken apart.
use Rattle.std.specs.Prelude.{ℕ, Option, Some, None}
use Rattle.path_cut.specs.declared.step.Step.{Step}
use Rattle.path_cut.specs.declared.step.Step.TheVariants.{At, Choice}

-- the point of the statement that begins at a step
abbrev pub begun_at : Step → Option ℕ
begun_at (At p) = Some p
begun_at (Choice k c) = None

-- the choice that a step is
abbrev pub chosen : Step → Option ℕ
chosen (At p) = None
chosen (Choice k c) = Some c
