-- Steps with room for so many.
use Rattle.std.specs.Prelude.{ℕ, List}
use Rattle.path_cut.specs.declared.step.Step.{Step}

-- steps, and how many there is room for
pub record Roomy : Type 0 where
  pub items : List Step
  pub room : ℕ
