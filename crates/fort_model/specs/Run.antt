-- How a unit is run.
use Rattle.std.specs.Prelude.{ℕ, zero, suc, cond, List, ◌++◌, map, sum, length, take, replicate, Option, Some, None, slice_get}
use Rattle.fort_syntax.specs.Names.{own_names, is_function}
use Rattle.formula.specs.declared.value.Cell.{Cell}
use Rattle.formula.specs.declared.value.Cell.TheVariants.{Undefined}
use Rattle.fort_syntax.specs.declared.unit.Line.{Line}
use Rattle.fort_syntax.specs.declared.unit.Unit.{Unit as Routine}
use Rattle.fort_model.specs.Sites.{calls_before}
use Rattle.fort_model.specs.Flow.{leads}
use Rattle.fort_model.specs.Storage.{Storage, Environment, load, with_extents, side_by_side}
use Rattle.fort_model.specs.Places.{dim_values, size_of}
use Rattle.fort_model.specs.Processor.{Processor}
use Rattle.fort_model.specs.Outcome.{Act, ◌>>◌, ◌>>=◌, give, step, stuck, held, put}
use Rattle.fort_model.specs.Perform.{perform}

-- the number of cells of each name that gets new ones
abbrev pub own_sizes : Routine → Environment → Storage → List ℕ
own_sizes u env st = map (λ d. size_of (dim_values env st d.dims)) (own_names u)

-- Entering takes one step. Locals, and the value of a FUNCTION, get new undefined cells behind the
-- storage. It answers the environment with them.
abbrev pub enter : Routine → Environment → Act Environment
enter u env = do
  step
  st ← held
  put (st ++ replicate (sum (own_sizes u env st)) Undefined)
  give (with_extents (map (λ d. d.name) (own_names u)) (side_by_side (own_sizes u env st) (length st)) env)

-- the value of a FUNCTION is what the cell of its name holds
abbrev pub own_value : Routine → Environment → Storage → Cell
own_value u env st = cond (is_function u) (load st (env u.name).first) Undefined

-- Leaving reads the value of a FUNCTION and drops the new cells: so many remain as there were before. A call
-- then writes copies back and drops their cells.
abbrev pub leave : Routine → Environment → ℕ → Act Cell
leave u env before = do
  st ← held
  put (take before st)
  give (own_value u env st)

-- the flow goes on at the point that the choices lead to
abbrev pub go_to : Option ℕ → (ℕ → Act (Unit {0})) → Act (Unit {0})
go_to None next = stuck
go_to (Some q) next = next q

-- at the end of a unit nothing is left to do
abbrev pub at_line : Option Line → (Line → Act (Unit {0})) → Act (Unit {0})
at_line None act = give tt
at_line (Some line) act = act line

-- A run of a unit, and its run from a point on: entering and each statement take a step. Both go only
-- `fuel` deep; fuel that is greater than the stock of steps never ends before the stock does.
abbrev mutual
  pub run_within : Processor → List Routine → ℕ → Routine → Environment → Act Cell
  run_within p units zero u env = stuck
  run_within p units (suc fuel) u env = do
    before ← held
    own ← enter u env
    from_point p units fuel u own 0
    leave u own (length before)

  pub from_point : Processor → List Routine → ℕ → Routine → Environment → ℕ → Act (Unit {0})
  from_point p units zero u env pc = stuck
  from_point p units (suc fuel) u env pc = at_line (slice_get u.lines pc) λ line. do
    step
    choices ← perform (record { processor = p; units = units; unit = u; environment = env })
        (run_within p units fuel) line.card pc (calls_before u pc) line.stmt
    go_to (leads p.dialect u pc line.stmt choices) (from_point p units fuel u env)

-- A run of a unit of a deck with n steps. The environment gives the cells of its dummies and COMMON entities.
abbrev pub run : Processor → List Routine → Routine → Environment → Act Cell
run p units u env st n = run_within p units (suc n) u env st n
