-- The parts of the code of a unit.
use Rattle.std.specs.Prelude.{◌≡◌, ◌+◌, List, drop, length, map}
use Rattle.fort_syntax.specs.Names.{is_function, own_names}
use Rattle.fort_syntax.specs.declared.name.Name.{Name}
use Rattle.fort_syntax.specs.declared.unit.Unit.{Unit as Routine}
use Rattle.fort_model.specs.CallFacts.{sites_of_unit}
use Rattle.run_shapes.specs.Coded.{calls_coded}
use Rattle.run_shapes.specs.declared.unit_code.UnitCode.{UnitCode}
use Rattle.run_coding.specs.Pushed.{slot_in}
use Rattle.run_coding.specs.Scopes.{unit_of}
use Rattle.run_coding.specs.declared.scope.Scope.{Scope}
use Rattle.run_doing.specs.Rounds.{IsTestTable}
use Rattle.run_made.specs.Lined.{aims_of_lines, codes_from, lines_pushed}
use Rattle.run_sizes.specs.Sized.{AreSizesOf}
use Rattle.run_units.specs.declared.parts.Body.{Body}
use Rattle.run_units.specs.declared.parts.Parts.{Parts}

-- the code of the statements of a unit, with its tests
pub record IsBody (u : Routine) (units : List Routine) (names : List Name) (body : Body) : Type 0 where
  pub table : IsTestTable u names body.table
  pub instrs : body.made.draft.instrs.items ≡ lines_pushed u names body.table 0 0 0 u.lines
  pub codes : body.made.codes.items ≡ codes_from u names body.table 0 0 0 0 u.lines
  pub targets : body.made.draft.targets.items ≡ aims_of_lines u u.lines
  pub calls : body.made.draft.calls.items ≡ calls_coded units 1 (sites_of_unit u)

-- the parts of the code of a unit, whose COMMON entities stand among others
pub record HasParts (u : Routine) (units : List Routine) (names common : List Name) (parts : Parts) : Type 0 where
  pub sizes : AreSizesOf u names parts.sizes
  pub body : IsBody u units names parts.body
  pub shared : parts.shared.items ≡ map (slot_in common) (drop (length u.dummies + length (own_names u)) names)
  pub dummies : parts.dummies ≡ length u.dummies
  pub own : parts.own ≡ length (own_names u)
  pub value : parts.value ≡ slot_in names u.name

-- the same of a scope
abbrev pub IsBodyOf : Scope → Body → Type 0
IsBodyOf s body = IsBody (unit_of s) s.units.now s.names.now body

abbrev pub ArePartsOf : Scope → List Name → Parts → Type 0
ArePartsOf s common parts = HasParts (unit_of s) s.units.now s.names.now common parts

-- the parts together
abbrev pub code_by : Routine → List Name → Parts → UnitCode
code_by u names parts = record {
  name = u.name;
  is_function = is_function u;
  value = parts.value;
  slots = record {
    names = names;
    dummies = parts.dummies;
    own = parts.own;
    shapes = parts.sizes.shapes.items;
    sizes = parts.sizes.sizes.items;
  };
  shared = parts.shared.items;
  tests = parts.body.table.tests.items;
  calls = parts.body.made.draft.calls.items;
  targets = parts.body.made.draft.targets.items;
  instrs = parts.body.made.draft.instrs.items;
  lines = parts.body.made.codes.items;
}
