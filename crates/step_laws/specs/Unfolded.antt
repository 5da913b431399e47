-- Runs without fuel.
use Rattle.std.specs.Prelude.{ℕ, suc, ◌≡◌, List, length, slice_get}
use Rattle.formula.specs.declared.value.Cell.{Cell}
use Rattle.fort_syntax.specs.declared.unit.Unit.{Unit as Routine}
use Rattle.fort_model.specs.Flow.{leads}
use Rattle.fort_model.specs.Outcome.{Act, ◌>>=◌, ◌>>◌, step, held}
use Rattle.fort_model.specs.Perform.{perform}
use Rattle.fort_model.specs.Processor.{Processor}
use Rattle.fort_model.specs.Run.{run, from_point, enter, leave, go_to, at_line}
use Rattle.fort_model.specs.Sites.{calls_before}
use Rattle.fort_model.specs.Storage.{Storage, Environment}

-- a run of a unit from a point on, with as many steps as the stock has
abbrev pub run_from : Processor → List Routine → Routine → Environment → ℕ → Act (Unit {0})
run_from p units u env pc st n = from_point p units (suc n) u env pc st n

-- one statement more: a step, what the statement does, and the run from where it leads; units are run for its calls
abbrev pub run_on : Processor → List Routine → Routine → Environment → ℕ → Act (Unit {0})
run_on p units u env pc = at_line (slice_get u.lines pc) λ line. do
  step
  choices ← perform (record { processor = p; units = units; unit = u; environment = env })
      (run p units) line.card pc (calls_before u pc) line.stmt
  go_to (leads p.dialect u pc line.stmt choices) (run_from p units u env)

-- a unit is entered, run from its first statement on, and left
abbrev pub run_whole : Processor → List Routine → Routine → Environment → Act Cell
run_whole p units u env = do
  before ← held
  own ← enter u env
  run_from p units u own 0
  leave u own (length before)

-- runs are just so
abbrev pub RunsUnfold : Type 0
RunsUnfold =
    (p : Processor) (units : List Routine) (u : Routine) (env : Environment) (st : Storage) (n : ℕ)
    → (run p units u env st n ≡ run_whole p units u env st n)
    × ((pc : ℕ) → run_from p units u env pc st n ≡ run_on p units u env pc st n)
