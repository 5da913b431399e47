-- What the rest of a run comes to, by the frames of units that are being run.
use Rattle.std.specs.Prelude.{ℕ, ◌-◌, ◌≡◌, List, [], ◌∷◌, length, take, drop, slice_get}
use Rattle.formula.specs.declared.value.Cell.{Cell}
use Rattle.fort_syntax.specs.declared.unit.Unit.{Unit as Routine}
use Rattle.fort_model.specs.Sites.{calls_before}
use Rattle.fort_model.specs.Flow.{leads}
use Rattle.fort_model.specs.Storage.{Storage, Environment}
use Rattle.fort_model.specs.Processor.{Processor}
use Rattle.fort_model.specs.Outcome.{Act, ◌>>=◌, ◌>>◌, give, step, held, put}
use Rattle.fort_model.specs.Passing.{Taken, Fresh, Caller, written_back}
use Rattle.fort_model.specs.Evaluate.{Scene}
use Rattle.fort_model.specs.Perform.{perform}
use Rattle.fort_model.specs.Run.{enter, leave, go_to, at_line}
use Rattle.run_code.specs.Code.{Instr, under, exec}
use Rattle.run_moves.specs.Moves.{passed_on}

-- Runs without a bound on their depth: a unit is entered, run from its first statement on, and left; and from a point on a
-- step is taken, the statement is performed, and the run goes on where that leads.
pub record Runs (p : Processor) (units : List Routine) : Type 0 where
  pub run : Caller
  pub from : Routine → Environment → ℕ → Act (Unit {0})
  pub runs : (u : Routine) (env : Environment) (st : Storage) (n : ℕ) → run u env st n ≡ (do
    before ← held
    own ← enter u env
    from u own 0
    leave u own (length before)) st n
  pub goes : (u : Routine) (env : Environment) (pc : ℕ) (st : Storage) (n : ℕ) → from u env pc st n
      ≡ at_line (slice_get u.lines pc) (λ line. do
        step
        choices ← perform (record { processor = p; units = units; unit = u; environment = env }) run line.card pc
            (calls_before u pc) line.stmt
        go_to (leads p.dialect u pc line.stmt choices) (from u env)) st n

-- A unit that is being run: the cells of its names, its own among them; how many cells there were before those; and how
-- high the stack was when it was entered.
pub record Frame : Type 0 where
  pub unit : Routine
  pub environment : Environment
  pub before : ℕ
  pub floor : ℕ

-- A unit that waits for one that it called: the card and the code left of its statement, the number of the call, how many
-- actuals it has, and how many cells there were before the call. The actuals stay on the stack.
pub record Waiting : Type 0 where
  pub frame : Frame
  pub card : ℕ
  pub left : List Instr
  pub number : ℕ
  pub actuals : ℕ
  pub base : ℕ

-- the oldest so many
abbrev pub lowest : {A : Type 0} → ℕ → List A → List A
lowest n xs = drop (length xs - n) xs

-- where the expressions of a frame's unit are evaluated
abbrev pub scene_at : Processor → List Routine → Frame → Scene
scene_at p units f = record { processor = p; units = units; unit = f.unit; environment = f.environment }

module _ {p : Processor} {units : List Routine} (r : Runs p units) where
  -- the unit of a frame from a point on, and what is done with its value and with the stack as it was when it was entered
  abbrev pub goes_on : Frame → (List Taken → Cell → Act Cell) → ℕ → List Taken → Act Cell
  goes_on f rest q xs = do
    r.from f.unit f.environment q
    v ← leave f.unit f.environment f.before
    rest (lowest f.floor xs) v

  -- what those that wait do with a value, the last caller first: copies are written back, new cells are dropped, and the
  -- value stands in the place of the actuals
  abbrev pub finish : List Waiting → List Taken → Cell → Act Cell
  finish [] xs v = give v
  finish (w ∷ ws) xs v = do
    after ← held
    put (take w.base (written_back (passed_on (scene_at p units w.frame) w.number w.actuals xs) w.base after))
    exec (scene_at p units w.frame) r.run w.card (goes_on w.frame (finish ws)) w.left 0 (Fresh v ∷ under w.actuals xs)
