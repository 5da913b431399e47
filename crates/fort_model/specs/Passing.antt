-- How the actuals of a call become the cells of dummies.
use Rattle.std.specs.Prelude.{ℕ, suc, ◌+◌, Bool, true, false, List, [], ◌∷◌, ◌++◌, length, take, Option, Some, None}
use Rattle.formula.specs.declared.value.Cell.{Cell}
use Rattle.fort_syntax.specs.declared.unit.Unit.{Unit as Routine}
use Rattle.fort_model.specs.Storage.{Storage, Extent, Environment, contents, write, with_extents}
use Rattle.fort_model.specs.Outcome.{Act, ◌>>=◌, ◌>>◌, give, stuck, held, put}

-- what an expression is taken as: a bare name and an element as their cells, which are not read; any
-- other expression as a fresh value
pub data Taken : Type 0 where
  Cells : Extent → Taken
  Fresh : Cell → Taken

-- how an actual is passed
pub data Passed : Type 0 where
  ByReference : Extent → Passed
  ByCopy : Extent → Passed
  ByValue : Cell → Passed

abbrev pub passed_by : Bool → Taken → Passed
passed_by copy (Fresh c) = ByValue c
passed_by true (Cells e) = ByCopy e
passed_by false (Cells e) = ByReference e

-- the actuals from the i-th on
abbrev pub passed : (ℕ → Bool) → ℕ → List Taken → List Passed
passed copies i [] = []
passed copies i (x ∷ xs) = passed_by (copies i) x ∷ passed copies (suc i) xs

-- the cells of the dummies, where new cells begin at next: by reference a dummy has the actual's cells, else new ones
abbrev pub seats : List Passed → ℕ → List Extent
seats [] next = []
seats (ByReference e ∷ xs) next = e ∷ seats xs next
seats (ByCopy e ∷ xs) next = record { first = next; size = e.size } ∷ seats xs (next + e.size)
seats (ByValue c ∷ xs) next = record { first = next; size = 1 } ∷ seats xs (next + 1)

-- what the new cells hold
abbrev pub new_cells : Storage → List Passed → List Cell
new_cells st [] = []
new_cells st (ByReference e ∷ xs) = new_cells st xs
new_cells st (ByCopy e ∷ xs) = contents st e.first e.size ++ new_cells st xs
new_cells st (ByValue c ∷ xs) = c ∷ new_cells st xs

-- at the end copies are written back to the actuals' cells
abbrev pub written_back : List Passed → ℕ → Storage → Storage
written_back [] next st = st
written_back (ByReference e ∷ xs) next st = written_back xs next st
written_back (ByCopy e ∷ xs) next st = written_back xs (next + e.size) (write (contents st next e.size) e.first st)
written_back (ByValue c ∷ xs) next st = written_back xs (next + 1) st

-- a run of a unit, with the cells of its dummies and COMMON entities; it answers a FUNCTION's value
abbrev pub Caller : Type 0
Caller = Routine → Environment → Act Cell

-- A call of g: new cells are put behind the storage, the unit is run, copies are written back, and the
-- new cells are dropped. A dummy has its seat; a COMMON entity has the cells that the caller's of this
-- name has.
abbrev pub call_unit : Caller → Environment → Routine → List Passed → Act Cell
call_unit run env g xs = do
  before ← held
  put (before ++ new_cells before xs)
  value ← run g (with_extents g.dummies (seats xs (length before)) env)
  after ← held
  put (take (length before) (written_back xs (length before) after))
  give value

abbrev pub call : Caller → Environment → Option Routine → List Passed → Act Cell
call run env None xs = stuck
call run env (Some g) xs = call_unit run env g xs
