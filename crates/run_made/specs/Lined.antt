-- The instructions of the statements of a unit, as they are pushed.
use Rattle.std.specs.Prelude.{ℕ, suc, ◌+◌, List, [], ◌∷◌, ◌++◌, length}
use Rattle.fort_syntax.specs.declared.name.Name.{Name}
use Rattle.fort_syntax.specs.declared.unit.Line.{Line}
use Rattle.fort_syntax.specs.declared.unit.Unit.{Unit as Routine}
use Rattle.fort_model.specs.Calls.{sites_of}
use Rattle.run_shapes.specs.declared.instr.Instr.{Instr}
use Rattle.run_shapes.specs.declared.unit_code.LineCode.{LineCode}
use Rattle.run_doing.specs.declared.table.TestTable.{TestTable}
use Rattle.run_lines.specs.Stated.{aims, stmt_pushed}
use Rattle.run_made.specs.Made.{behind_at, over_at}

-- those of a statement at a point, with k calls before it, whose targets stand from a place on
abbrev pub line_pushed : Routine → List Name → TestTable → ℕ → ℕ → ℕ → Line → List Instr
line_pushed u names table pc place k line = stmt_pushed u names (behind_at table line.card pc)
    (over_at u table pc line.stmt) pc place k line.stmt

-- those of some statements, of which the first stands there
abbrev pub lines_pushed : Routine → List Name → TestTable → ℕ → ℕ → ℕ → List Line → List Instr
lines_pushed u names table pc place k [] = []
lines_pushed u names table pc place k (line ∷ lines) =
    line_pushed u names table pc place k line
    ++ lines_pushed u names table (suc pc) (place + length (aims u line.stmt)) (k + length (sites_of u line.stmt)) lines

-- where the instructions of a statement stand, from a place on
abbrev pub code_at : Line → ℕ → List Instr → LineCode
code_at line start is = record { card = line.card; start = start; stop = start + length is }

abbrev pub codes_from : Routine → List Name → TestTable → ℕ → ℕ → ℕ → ℕ → List Line → List LineCode
codes_from u names table pc place k start [] = []
codes_from u names table pc place k start (line ∷ lines) =
    let is = line_pushed u names table pc place k line in
    code_at line start is
    ∷ codes_from u names table (suc pc) (place + length (aims u line.stmt)) (k + length (sites_of u line.stmt))
    (start + length is) lines

-- the targets of some statements
abbrev pub aims_of_lines : Routine → List Line → List ℕ
aims_of_lines u [] = []
aims_of_lines u (line ∷ lines) = aims u line.stmt ++ aims_of_lines u lines
