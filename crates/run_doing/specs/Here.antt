-- What the tests of a unit tell.
use Rattle.std.specs.Prelude.{◌≡◌, ◌≤◌, ◌<◌, ℕ, true, ⊤, List, drop, length, Some, slice_get, get_or}
use Rattle.formula.specs.Atoms.{is_among}
use Rattle.fort_syntax.specs.declared.name.Name.{Name}
use Rattle.fort_syntax.specs.declared.stmt.Stmt.{Stmt}
use Rattle.fort_syntax.specs.declared.stmt.Stmt.TheVariants.{Do}
use Rattle.fort_syntax.specs.declared.unit.Line.{Line}
use Rattle.fort_syntax.specs.declared.unit.Unit.{Unit as Routine}
use Rattle.fort_model.specs.Flow.{Loop, loops_around, loops_at, next_point}
use Rattle.loop_tables.specs.Loops.{last_of}
use Rattle.run_shapes.specs.Coded.{TestHasSlots}
use Rattle.run_shapes.specs.Seen.{loops_of, out_of}
use Rattle.run_shapes.specs.declared.slots.Slots.{Slots}
use Rattle.run_shapes.specs.declared.tests.Round.{Round}
use Rattle.run_shapes.specs.declared.tests.Test.{Test}
use Rattle.run_shapes.specs.declared.tests.Test.TheVariants as test
use Rattle.run_lines.specs.Stated.{ParamHere, StepHere}
use Rattle.run_doing.specs.declared.table.TestTable.{TestTable}

-- the names of a DO have slots
abbrev pub LoopHere : List Name → Loop → Type 0
LoopHere names d = (is_among d.variable names ≡ true) × ParamHere names d.last × StepHere names d.step

abbrev pub DoHere : List Name → Stmt → Type 0
DoHere names (Do label x first last step) = (is_among x names ≡ true) × ParamHere names last × StepHere names step
DoHere names _ = ⊤

-- those of all DOs of a unit
abbrev pub DosHere : Routine → List Name → Type 0
DosHere u names = (at : ℕ) (line : Line) → slice_get u.lines at ≡ Some line → DoHere names line.stmt

-- from a place on, a list of tests has some DOs before a point where the flow goes on
pub record Tell (slots : Slots) (tests : List Test) (place : ℕ) (ds : List Loop) (point : ℕ) : Type 0 where
  pub loops : loops_of slots (drop place tests) ≡ ds
  pub out : out_of (drop place tests) ≡ point

-- a tested DO is one of so many statements
abbrev pub TestStands : ℕ → Test → Type 0
TestStands count (test.Loop round) = round.at < count
TestStands count (test.Out point) = ⊤

-- the tests of a unit tell behind each point, and behind each DO that is passed over, which DOs are to be tested
pub record TellsTests (u : Routine) (slots : Slots) (table : TestTable) : Type 0 where
  pub behind : (pc : ℕ) → pc ≤ length u.lines → Tell slots table.tests.items (get_or table.behind.items pc 0)
      (loops_at u pc) (next_point u pc)
  pub over : (at : ℕ) (line : Line) (last : ℕ) → slice_get u.lines at ≡ Some line → last_of u.lines line.stmt
      ≡ Some last → last ≤ length u.lines
      → Tell slots table.tests.items (get_or table.over.items at 0) (loops_around u last at) (next_point u last)
  pub fitting : (i : ℕ) (t : Test) → slice_get table.tests.items i ≡ Some t → TestHasSlots (length slots.names) t
  pub inside : (i : ℕ) (round : Round) → slice_get table.tests.items i ≡ Some (test.Loop round) → round.at < length u.lines
