-- The unit of a maker, and the instructions behind its statements.
use Rattle.std.specs.Prelude.{ℕ, List, Option, Some, None, slice_get, get_or}
use Rattle.fort_syntax.specs.declared.name.Name.{Name}
use Rattle.fort_syntax.specs.declared.stmt.Stmt.{Stmt}
use Rattle.fort_syntax.specs.declared.stmt.Stmt.TheVariants as stmt
use Rattle.fort_syntax.specs.declared.unit.Unit.{Unit as Routine}
use Rattle.fort_model.specs.Flow.{target}
use Rattle.fort_model.specs.Perform.{card_in}
use Rattle.run_shapes.specs.declared.instr.Instr.{Instr}
use Rattle.run_shapes.specs.declared.instr.Instr.TheVariants.{Go, Tests, Stop}
use Rattle.run_shapes.specs.declared.tests.Test.{Test}
use Rattle.run_shapes.specs.declared.tests.Test.TheVariants as test
use Rattle.run_coding.specs.Scopes.{unit_of}
use Rattle.run_coding.specs.declared.scope.Scope.{Scope}
use Rattle.run_doing.specs.declared.table.TestTable.{TestTable}
use Rattle.run_made.specs.declared.maker.Maker.{Maker}

abbrev pub scope_in : Maker → Scope
scope_in m = m.ways.now.scope.now

abbrev pub unit_in : Maker → Routine
unit_in m = unit_of (scope_in m)

abbrev pub names_in : Maker → List Name
names_in m = (scope_in m).names.now

-- behind a statement at a card, whose tests begin at a place: where none is to be tested the flow goes on at once
abbrev pub told_by : ℕ → ℕ → Test → Instr
told_by card place (test.Loop round) = Tests card place
told_by card place (test.Out point) = Go card point

abbrev pub behind_by : ℕ → ℕ → Option Test → Instr
behind_by card place None = Tests card place
behind_by card place (Some t) = told_by card place t

abbrev pub behind_at : TestTable → ℕ → ℕ → Instr
behind_at table card pc = behind_by card (get_or table.behind.items pc 0) (slice_get table.tests.items
    (get_or table.behind.items pc 0))

-- behind the range of a DO at a point
abbrev pub over_at : Routine → TestTable → ℕ → Stmt → Instr
over_at u table pc (stmt.Do label x first last step) = Tests (card_in (slice_get u.lines (target u.lines label)))
    (get_or table.over.items pc 0)
over_at u table pc _ = Stop
