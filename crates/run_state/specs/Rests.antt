-- What the rest of a run comes to that a state shows, and how states follow one another.
use Rattle.std.specs.Prelude.{ℕ, suc, ◌+◌, ◌≡◌, ◌<◌, Bool, true, false, ◌||◌, IsTrue, is_some, List, [], ◌∷◌, length, Option, Some, None, slice_get}
use Rattle.formula.specs.declared.value.Cell.{Cell}
use Rattle.fort_syntax.specs.declared.condition.Kind.{Kind}
use Rattle.fort_model.specs.Storage.{Storage}
use Rattle.fort_model.specs.Outcome.{Outcome, Ended, Erred, Running}
use Rattle.run_frames.specs.Frames.{Runs}
use Rattle.run_frames.specs.Configs.{Config, rest}
use Rattle.run_shapes.specs.declared.tests.Test.{Test}
use Rattle.run_shapes.specs.declared.tests.Test.TheVariants as test
use Rattle.run_shapes.specs.declared.unit_code.Code.{Code}
use Rattle.run_state.specs.Shows.{unit_code, code_left, World, IsWorldOf, Shows}
use Rattle.run_state.specs.declared.machine.Frame.{Frame}
use Rattle.run_state.specs.declared.machine.Setting.{Setting}
use Rattle.run_state.specs.declared.machine.Stage.{Stage}
use Rattle.run_state.specs.declared.machine.Stage.TheVariants as stage
use Rattle.run_state.specs.declared.machine.State.{State}

-- an outcome without the steps that are left
pub data Told : Type 0 where
  has_ended : Cell → Storage → Told
  has_erred : Kind → ℕ → Storage → Told
  is_running : Storage → Told

abbrev pub told : Outcome Cell → Told
told (Ended v st n) = has_ended v st
told (Erred kind card st) = has_erred kind card st
told (Running st) = is_running st

-- what a state tells of its run
abbrev pub told_in : Stage → ℕ → Storage → Told
told_in (stage.Ended v) card st = has_ended v st
told_in (stage.Erred kind) card st = has_erred kind card st
told_in _ card st = is_running st

abbrev pub told_by : State → Told
told_by m = told_in m.stage m.frame.card m.cells.items

module _ (w : World) (code : Code) (c : Config) (st : Storage) (new : State) where
  -- a new state shows a place from which the run comes to the same as from an old one
  pub record GoesSame : Type 0 where
    pub place : Config
    pub held : Storage
    pub shows : Shows w code new place held
    pub same : (r : Runs w.processor w.units) (n : ℕ) → rest r place held n ≡ rest r c st n

  -- a step was wanted there, and was taken
  pub record GoesOn : Type 0 where
    pub place : Config
    pub held : Storage
    pub shows : Shows w code new place held
    pub none : (r : Runs w.processor w.units) → rest r c st 0 ≡ Running st
    pub one : (r : Runs w.processor w.units) (n : ℕ) → rest r c st (suc n) ≡ rest r place held n

  -- so many steps were taken
  pub record HasGone (k : ℕ) : Type 0 where
    pub place : Config
    pub held : Storage
    pub shows : Shows w code new place held
    pub went : (r : Runs w.processor w.units) (n : ℕ) → told (rest r c st (k + n)) ≡ told (rest r place held n)

module _ (code : Code) (setting : Setting) where
  -- whatever an old state shows, a new one shows a place from which the run comes to the same
  abbrev pub Same : State → State → Type 0
  Same old new = (w : World) → IsWorldOf code setting w → (c : Config) (st : Storage) → Shows w code old c st
      → GoesSame w code c st new

  -- or a step was taken; or so many
  abbrev pub Stepped : State → State → Type 0
  Stepped old new = (w : World) → IsWorldOf code setting w → (c : Config) (st : Storage) → Shows w code old c st
      → GoesOn w code c st new

  abbrev pub Went : ℕ → State → State → Type 0
  Went k old new = (w : World) → IsWorldOf code setting w → (c : Config) (st : Storage) → Shows w code old c st
      → HasGone w code c st new k

  -- a state tells what the rest of its run comes to without a step
  abbrev pub Tells : State → Type 0
  Tells m = (w : World) → IsWorldOf code setting w → (c : Config) (st : Storage) → Shows w code m c st
      → (r : Runs w.processor w.units) → told (rest r c st 0) ≡ told_by m

-- ---- where a step is wanted

-- a test of a DO stands there
abbrev pub is_test : Option Test → Bool
is_test None = false
is_test (Some (test.Loop round)) = true
is_test (Some (test.Out point)) = false

abbrev pub waits_in : Code → Frame → Stage → Bool
waits_in code f stage.Entering = true
waits_in code f stage.Between = is_some (slice_get (unit_code code f.unit).lines f.line)
waits_in code f stage.Carried = true
waits_in code f stage.Testing = is_test (slice_get (unit_code code f.unit).tests f.place)
waits_in code f _ = false

abbrev pub is_over_in : Stage → Bool
is_over_in (stage.Ended v) = true
is_over_in (stage.Erred kind) = true
is_over_in stage.Nowhere = true
is_over_in _ = false

-- it waits for a step, or is at its end
abbrev pub IsSettled : Code → State → Type 0
IsSettled code m = IsTrue (waits_in code m.frame m.stage || is_over_in m.stage)

-- ---- the work until a step is wanted, at most

abbrev pub weight_of : Code → List Frame → ℕ
weight_of code [] = 0
weight_of code (f ∷ fs) = length (code_left (unit_code code f.unit) f) + 2 + weight_of code fs

abbrev pub weight_in : Code → Stage → Frame → List Frame → ℕ
weight_in code stage.Entering f fs = weight_of code fs
weight_in code stage.Between f fs = 1 + weight_of code fs
weight_in code stage.Inside f fs = length (code_left (unit_code code f.unit) f) + 2 + weight_of code fs
weight_in code stage.Carried f fs = length (code_left (unit_code code f.unit) f) + 2 + weight_of code fs
weight_in code stage.Testing f fs = 2 + weight_of code fs
weight_in code _ f fs = 0

abbrev pub weight : Code → State → ℕ
weight code m = weight_in code m.stage m.frame m.callers.items

-- one piece of work, which takes no step
pub record Works (code : Code) (setting : Setting) (old new : State) : Type 0 where
  pub same : Same code setting old new
  pub less : weight code new < weight code old

-- a piece of work, where there was one
abbrev pub MayWork : Bool → Code → Setting → State → State → Type 0
MayWork true code setting old new = Works code setting old new
MayWork false code setting old new = (new ≡ old) × IsSettled code new

-- a step, where one was wanted
abbrev pub MayStep : Bool → Code → Setting → State → State → Type 0
MayStep true code setting old new = Stepped code setting old new
MayStep false code setting old new = (new ≡ old) × IsTrue (is_over_in old.stage)
