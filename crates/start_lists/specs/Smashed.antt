-- The names that a unit smashes, in order.
use Rattle.std.specs.Prelude.{Bool, true, false, List, ◌++◌, map}
use Rattle.std.specs.List.{filter}
use Rattle.formula.specs.Atoms.{is_among}
use Rattle.fort_syntax.specs.Names.{commons, is_local, is_own_value}
use Rattle.fort_syntax.specs.declared.name.Name.{Name}
use Rattle.fort_syntax.specs.declared.unit.DataName.{DataName}
use Rattle.fort_syntax.specs.declared.unit.Role.{Role}
use Rattle.fort_syntax.specs.declared.unit.Unit.{Unit as Routine}

-- a role is that of a FUNCTION's own value, or that of a local
abbrev pub has_kind : Bool → Role → Bool
has_kind true role = is_own_value role
has_kind false role = is_local role

abbrev pub names_of_kind : Bool → List DataName → List Name
names_of_kind value ds = map (λ d. d.name) (filter (λ d. has_kind value d.role) ds)

-- those names of a unit that are among some: dummies, COMMON entities, a FUNCTION's own value, locals
abbrev pub smashed_names : List Name → Routine → List Name
smashed_names smashed u = filter (λ x. is_among x smashed) (u.dummies ++ commons u ++ names_of_kind
    true u.names ++ names_of_kind false u.names)
