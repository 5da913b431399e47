-- The statements that begin within the first steps of a way.
use Rattle.std.specs.Prelude.{◌≡◌, ℕ, zero, suc, List, [], ◌∷◌, Some, slice_get, take}
use Rattle.path_cut.specs.declared.step.Step.{Step}
use Rattle.path_cut.specs.declared.step.Step.TheVariants.{At, Choice}
use Rattle.way_laws.specs.PathsOf.{turns}

-- the statements that begin within the first steps, so many, each with all its choices, which may stand behind these
abbrev pub firsts : ℕ → List Step → List (ℕ × List ℕ)
firsts zero steps = []
firsts (suc k) [] = []
firsts (suc k) (At pc ∷ steps) = (pc, turns steps) ∷ firsts k steps
firsts (suc k) (Choice f c ∷ steps) = firsts k steps

-- at a step a statement begins
abbrev pub HasAt : List Step → ℕ → Type 0
HasAt steps k = (pc : ℕ) × (slice_get steps k ≡ Some (At pc))

-- two ways have the same first steps, so many
abbrev pub SharesSteps : ℕ → List Step → List Step → Type 0
SharesSteps n before steps = take n steps ≡ take n before
