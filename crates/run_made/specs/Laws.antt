-- What the instructions of the statements of a unit are.
use Rattle.std.specs.Prelude.{◌≡◌, ℕ, List, length, Some, slice_get}
use Rattle.fort_syntax.specs.declared.unit.Line.{Line}
use Rattle.fort_syntax.specs.declared.unit.Unit.{Unit as Routine}
use Rattle.fort_model.specs.Sites.{calls_before}
use Rattle.run_code.specs.Code as code
use Rattle.run_shapes.specs.Coded.{AreSlotsOf, InstrHasSlots, IsLineOf}
use Rattle.run_shapes.specs.declared.instr.Instr.{Instr}
use Rattle.run_shapes.specs.declared.unit_code.LineCode.{LineCode}
use Rattle.run_shapes.specs.declared.unit_code.UnitCode.{UnitCode}
use Rattle.run_doing.specs.Here.{TellsTests}
use Rattle.run_doing.specs.declared.table.TestTable.{TestTable}
use Rattle.run_known.specs.Known.{IsOver}
use Rattle.run_lines.specs.Stated.{StmtHere}
use Rattle.run_made.specs.Lined.{aims_of_lines, codes_from, lines_pushed}

-- the names of the statements of a unit have slots in its code, and its calls stand at their places
abbrev pub AllHere : Routine → List Routine → UnitCode → Type 0
AllHere u units unit =
    (pc : ℕ) (line : Line) (over : code.Instr) → slice_get u.lines pc ≡ Some line → IsOver u pc over line.stmt
    → StmtHere u units unit.slots.names unit.calls over pc (calls_before u pc) line.stmt

-- the code of a unit has the instructions of its statements, by a table of tests
pub record HasLines (u : Routine) (units : List Routine) (table : TestTable) (unit : UnitCode) : Type 0 where
  pub slots : AreSlotsOf u unit.slots
  pub tests : table.tests.items ≡ unit.tests
  pub told : TellsTests u unit.slots table
  pub here : AllHere u units unit
  pub targets : unit.targets ≡ aims_of_lines u u.lines
  pub instrs : unit.instrs ≡ lines_pushed u unit.slots.names table 0 0 0 u.lines
  pub lines : unit.lines ≡ codes_from u unit.slots.names table 0 0 0 0 u.lines

-- then these stand for the code of the statements
abbrev pub LinesAreCode : Type 0
LinesAreCode =
    (u : Routine) (units : List Routine) (table : TestTable) (unit : UnitCode) (pc : ℕ) (line : Line) (l : LineCode)
    → HasLines u units table unit
    → slice_get u.lines pc ≡ Some line → slice_get unit.lines pc ≡ Some l → IsLineOf u units pc line unit l

-- and no slot in them is out of range
abbrev pub LinesHaveSlots : Type 0
LinesHaveSlots =
    (u : Routine) (units : List Routine) (table : TestTable) (unit : UnitCode) (i : ℕ) (c : Instr) → HasLines u units table unit
    → slice_get unit.instrs i ≡ Some c → InstrHasSlots (length unit.slots.names) c
