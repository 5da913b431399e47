-- The first statements of ways.
use Rattle.std.specs.Prelude.{◌≡◌, ℕ, ◌<◌, List, ◌++◌, drop}
use Rattle.path_cut.specs.declared.step.Step.{Step}
use Rattle.shared_fronts.specs.Firsts.{HasAt, SharesSteps, firsts}
use Rattle.way_walks.specs.Along.{stops}

-- behind the statements that begin within the first steps stand those that begin behind these steps
abbrev pub FirstsGoBefore : Type 0
FirstsGoBefore = (k : ℕ) (steps : List Step) → stops steps ≡ firsts k steps ++ stops (drop k steps)

-- before a statement that two ways share they have the same statements
abbrev pub FirstsAreShared : Type 0
FirstsAreShared = (k n : ℕ) (before steps : List Step) → k < n → SharesSteps n before steps → HasAt before k
    → firsts k before ≡ firsts k steps
