-- The instructions of a statement where it stands.
use Rattle.std.specs.Prelude.{List, length}
use Rattle.fort_syntax.specs.declared.stmt.Stmt.{Stmt}
use Rattle.run_shapes.specs.declared.instr.Instr.{Instr}
use Rattle.run_coding.specs.Scopes.{unit_of}
use Rattle.run_coding.specs.declared.scope.Scope.{Scope}
use Rattle.run_lines.specs.declared.draft.Draft.{Draft}
use Rattle.run_lines.specs.declared.stating.Spot.{Spot}
use Rattle.run_lines.specs.Stated.{stmt_pushed}

-- those that a draft gets
abbrev pub pushed_at : Scope → Spot → Draft → Stmt → List Instr
pushed_at s spot draft stmt =
    stmt_pushed (unit_of s) s.names.now spot.behind spot.over spot.point (length draft.targets.items)
    (length draft.calls.items) stmt
