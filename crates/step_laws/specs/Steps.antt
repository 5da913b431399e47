-- What stocks of steps do to runs.
use Rattle.std.specs.Prelude.{ℕ, ◌+◌, ◌<◌, ◌≤◌, ◌≡◌, List}
use Rattle.formula.specs.declared.value.Cell.{Cell}
use Rattle.fort_syntax.specs.declared.condition.Kind.{Kind}
use Rattle.fort_syntax.specs.declared.unit.Unit.{Unit as Routine}
use Rattle.fort_model.specs.Outcome.{Outcome, Ended, Erred, Running}
use Rattle.fort_model.specs.Processor.{Processor}
use Rattle.fort_model.specs.Run.{run, run_within}
use Rattle.fort_model.specs.Storage.{Storage, Environment}

-- it would need a step more
abbrev pub IsRunning : {A : Type 0} → Outcome A → Type 0
IsRunning (Ended a st n) = ⊥
IsRunning (Erred kind card st) = ⊥
IsRunning (Running st) = Unit {0}

-- with every fuel above the stock a run comes to the same
abbrev pub FuelDoesNotMatter : Type 0
FuelDoesNotMatter =
    (p : Processor) (units : List Routine) (u : Routine) (env : Environment) (st : Storage) (n fuel other : ℕ)
    → n < fuel → n < other → run_within p units fuel u env st n ≡ run_within p units other u env st n

-- a run that ended or erred does so with more steps too, and what is left grows by as much
abbrev pub MoreStepsChangeNothing : Type 0
MoreStepsChangeNothing =
    (p : Processor) (units : List Routine) (u : Routine) (env : Environment) (st : Storage) (n more : ℕ)
    → ((v : Cell) (after : Storage) (left : ℕ) → run p units u env st n ≡ Ended v after left
    → run p units u env st (more + n) ≡ Ended v after (more + left))
    × ((kind : Kind) (card : ℕ) (after : Storage) → run p units u env st n ≡ Erred kind card after
    → run p units u env st (more + n) ≡ Erred kind card after)

-- a run that ended has not more left than its stock, and with fewer steps than it used it is running
abbrev pub FewerStepsAreNotEnough : Type 0
FewerStepsAreNotEnough =
    (p : Processor) (units : List Routine) (u : Routine) (env : Environment) (st : Storage) (n : ℕ) (v : Cell)
    (after : Storage) (left : ℕ)
    → run p units u env st n ≡ Ended v after left
    → (left ≤ n) × ((fewer : ℕ) → fewer + left < n → IsRunning (run p units u env st fewer))
