-- Names that a unit may not have, in sets.
use Rattle.std.specs.Prelude.{◌||◌, Bool, List, [], ◌∷◌, is_some}
use Rattle.formula.specs.Atoms.{is_among}
use Rattle.fort_syntax.specs.Names.{intrinsic}
use Rattle.fort_syntax.specs.declared.name.Name.{Name}
use Rattle.fort_syntax.specs.declared.unit.Unit.{Unit as Routine}
use Rattle.name_tables.specs.Sets.{with_name}
use Rattle.call_sites.specs.Books.{with_blocks}

-- a set of names with those of the blocks of units
abbrev pub with_units : List Name → List Routine → List Name
with_units xs [] = xs
with_units xs (u ∷ us) = with_units (with_blocks xs u.blocks) us

-- a set of names with those of units
abbrev pub with_unit_names : List Name → List Routine → List Name
with_unit_names xs [] = xs
with_unit_names xs (u ∷ us) = with_unit_names (with_name xs u.name) us

-- a name is among those of earlier units, of intrinsic functions, and of blocks
abbrev pub is_taken : List Name → List Name → Name → Bool
is_taken earlier blocks x = is_among x earlier || (is_some (intrinsic x) || is_among x blocks)
