-- The COMMON entities of a deck.
use Rattle.std.specs.Prelude.{List, [], ◌∷◌}
use Rattle.fort_syntax.specs.Names.{commons}
use Rattle.fort_syntax.specs.declared.name.Name.{Name}
use Rattle.fort_syntax.specs.declared.unit.Unit.{Unit as Routine}
use Rattle.name_tables.specs.Sets.{with_names}

-- some names and the COMMON entities of units, each once
abbrev pub commons_of : List Name → List Routine → List Name
commons_of xs [] = xs
commons_of xs (u ∷ us) = commons_of (with_names xs (commons u)) us
