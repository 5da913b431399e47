-- The parts of the code of a unit together.
use Rattle.std.specs.Prelude.{◌≡◌, true, List}
use Rattle.formula.specs.Atoms.{is_among}
use Rattle.fort_syntax.specs.Names.{commons}
use Rattle.fort_syntax.specs.WellFormed.{IsWellFormedUnit}
use Rattle.fort_syntax.specs.declared.dialect.Dialect.{Dialect}
use Rattle.fort_syntax.specs.declared.name.Name.{Name}
use Rattle.fort_syntax.specs.declared.unit.Unit.{Unit as Routine}
use Rattle.run_shapes.specs.Coded.{IsUnitCodeOf, slot_names}
use Rattle.run_units.specs.Parts.{HasParts, code_by}
use Rattle.run_units.specs.declared.parts.Parts.{Parts}

-- the parts of the code of a well-formed unit are its code
abbrev pub PartsAreCode : Type 0
PartsAreCode =
    (dialect : Dialect) (u : Routine) (units : List Routine) (names common : List Name) (parts : Parts)
    → IsWellFormedUnit dialect u
    → ((x : Name) → is_among x (commons u) ≡ true → is_among x common ≡ true) → names ≡ slot_names u
    → HasParts u units names common parts
    → IsUnitCodeOf units common u (code_by u names parts)
