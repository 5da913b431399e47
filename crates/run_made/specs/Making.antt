-- What a maker has made.
use Rattle.std.specs.Prelude.{◌≡◌, ℕ, List, [], ◌++◌, drop, length}
use Rattle.fort_syntax.specs.declared.unit.Line.{Line}
use Rattle.fort_model.specs.CallFacts.{sites_of_lines}
use Rattle.run_shapes.specs.declared.instr.Instr.{Instr}
use Rattle.run_coding.specs.Scopes.{with_calls}
use Rattle.run_lines.specs.declared.draft.Draft.{Draft}
use Rattle.run_made.specs.Lined.{aims_of_lines, codes_from, line_pushed, lines_pushed}
use Rattle.run_made.specs.Made.{names_in, scope_in, unit_in}
use Rattle.run_made.specs.declared.maker.Maker.{Maker}
use Rattle.run_made.specs.declared.making.Made.{Made}

-- the instructions that a draft gets for a statement at a point
abbrev pub pushed_by : Maker → Draft → ℕ → Line → List Instr
pushed_by m draft pc line = line_pushed (unit_in m) (names_in m) m.table.now pc (length draft.targets.items)
    (length draft.calls.items) line

-- all that stands before a point is made
pub record IsMadeTo (m : Maker) (pc : ℕ) (made : Made) : Type 0 where
  pub instrs : made.draft.instrs.items
      ++ lines_pushed (unit_in m) (names_in m) m.table.now pc (length made.draft.targets.items)
      (length made.draft.calls.items) (drop pc (unit_in m).lines)
      ≡ lines_pushed (unit_in m) (names_in m) m.table.now 0 0 0 (unit_in m).lines
  pub codes : made.codes.items
      ++ codes_from (unit_in m) (names_in m) m.table.now pc (length made.draft.targets.items)
      (length made.draft.calls.items) (length made.draft.instrs.items)
      (drop pc (unit_in m).lines)
      ≡ codes_from (unit_in m) (names_in m) m.table.now 0 0 0 0 (unit_in m).lines
  pub targets : made.draft.targets.items ++ aims_of_lines (unit_in m) (drop pc (unit_in m).lines)
      ≡ aims_of_lines (unit_in m) (unit_in m).lines
  pub calls : with_calls (scope_in m) (sites_of_lines (unit_in m) (drop pc (unit_in m).lines)) made.draft.calls.items
      ≡ with_calls (scope_in m) (sites_of_lines (unit_in m) (unit_in m).lines) []

-- all is made
pub record IsMadeOf (m : Maker) (made : Made) : Type 0 where
  pub instrs : made.draft.instrs.items ≡ lines_pushed (unit_in m) (names_in m) m.table.now 0 0 0 (unit_in m).lines
  pub codes : made.codes.items ≡ codes_from (unit_in m) (names_in m) m.table.now 0 0 0 0 (unit_in m).lines
  pub targets : made.draft.targets.items ≡ aims_of_lines (unit_in m) (unit_in m).lines
  pub calls : made.draft.calls.items ≡ with_calls (scope_in m) (sites_of_lines (unit_in m) (unit_in m).lines) []
