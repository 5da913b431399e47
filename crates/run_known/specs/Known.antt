-- What a well-formed unit gives its code.
use Rattle.std.specs.Prelude.{◌≡◌, ℕ, true, List, Option, Some, slice_get}
use Rattle.formula.specs.Atoms.{is_among}
use Rattle.fort_syntax.specs.WellFormed.{IsWellFormedUnit, names_of_unit}
use Rattle.fort_syntax.specs.declared.dialect.Dialect.{Dialect}
use Rattle.fort_syntax.specs.declared.name.Name.{Name}
use Rattle.fort_syntax.specs.declared.stmt.Param.{Param}
use Rattle.fort_syntax.specs.declared.stmt.Stmt.{Stmt}
use Rattle.fort_syntax.specs.declared.stmt.Stmt.TheVariants as stmt
use Rattle.fort_syntax.specs.declared.unit.Line.{Line}
use Rattle.fort_syntax.specs.declared.unit.Unit.{Unit as Routine}
use Rattle.fort_model.specs.CallFacts.{sites_of_unit}
use Rattle.fort_model.specs.Flow.{target}
use Rattle.fort_model.specs.Sites.{calls_before}
use Rattle.run_code.specs.Code as code
use Rattle.run_shapes.specs.Coded.{calls_coded, slot_names}
use Rattle.run_lines.specs.Stated.{StmtHere}

-- each data name of a well-formed unit has a slot
abbrev pub NamesHaveSlots : Type 0
NamesHaveSlots =
    (dialect : Dialect) (u : Routine) (x : Name) → IsWellFormedUnit dialect u → is_among x (names_of_unit u) ≡ true
    → is_among x (slot_names u) ≡ true

-- behind the range of a DO at a point the flow goes on as it is to go on; of other statements nothing is said
abbrev pub IsOver : Routine → ℕ → code.Instr → Stmt → Type 0
IsOver u pc over s =
    (label : ℕ) (x : Name) (first last : Param) (step : Option Param) → s ≡ stmt.Do label x first last step
    → over ≡ code.over_code u (target u.lines label) pc

-- the names of a statement of a well-formed unit have slots, and its calls stand at their places
abbrev pub StatementsAreHere : Type 0
StatementsAreHere =
    (dialect : Dialect) (u : Routine) (units : List Routine) (pc : ℕ) (line : Line) (over : code.Instr)
    → IsWellFormedUnit dialect u
    → slice_get u.lines pc ≡ Some line → IsOver u pc over line.stmt
    → StmtHere u units (slot_names u) (calls_coded units 1 (sites_of_unit u)) over pc (calls_before u pc) line.stmt
