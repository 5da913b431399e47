-- What a table of DOs tells.
use Rattle.std.specs.Prelude.{◌≡◌, ℕ, suc, ◌≤◌, List, [], ◌∷◌, length, drop, Option, Some, None, get_or, slice_get}
use Rattle.fort_syntax.specs.declared.stmt.Stmt.{Stmt}
use Rattle.fort_syntax.specs.declared.stmt.Stmt.TheVariants.{Do}
use Rattle.fort_syntax.specs.declared.unit.Line.{Line}
use Rattle.fort_syntax.specs.declared.unit.Unit.{Unit as Routine}
use Rattle.fort_model.specs.Flow.{Loop, loops_at, loops_from, target}
use Rattle.loop_tables.specs.declared.loops.Loops.{Loops}

abbrev pub Lines : Type 0
Lines = List Line

-- a DO at a point before some others; any other statement is none
abbrev pub with_loop : ℕ → Stmt → List Loop → List Loop
with_loop at (Do label x first last step) ds = record { at = at; variable = x; last = last; step = step } ∷ ds
with_loop at _ ds = ds

abbrev pub with_line : ℕ → Option Line → List Loop → List Loop
with_line at None ds = ds
with_line at (Some line) ds = with_loop at line.stmt ds

-- the DOs at some points
abbrev pub loops_told : List Line → List ℕ → List Loop
loops_told lines [] = []
loops_told lines (at ∷ points) = with_line at (slice_get lines at) (loops_told lines points)

-- the point of the last statement of a DO
abbrev pub last_of : List Line → Stmt → Option ℕ
last_of lines (Do label x first last step) = Some (target lines label)
last_of lines _ = None

-- a table has at each point, the end among them, those DOs whose last statement stands there, of the statements from one on
pub record AreLoopsFrom (u : Routine) (at : ℕ) (table : List (List ℕ)) : Type 0 where
  pub long : length table ≡ suc (length u.lines)
  pub told : (pc : ℕ) → pc ≤ length u.lines → loops_told u.lines (get_or table pc []) ≡ loops_from u.lines pc at
      (drop at u.lines) []

-- the same of all DOs of a unit
pub record AreLoops (u : Routine) (loops : Loops) : Type 0 where
  pub long : length loops.table.items ≡ suc (length u.lines)
  pub told : (pc : ℕ) → pc ≤ length u.lines → loops_told u.lines (get_or loops.table.items pc []) ≡ loops_at u pc
