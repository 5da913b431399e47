-- Tables of the types and dimensions that statements give names.
use Rattle.std.specs.Prelude.{cond, List, [], ◌∷◌, map}
use Rattle.fort_syntax.specs.Scopes.{is_given_dims}
use Rattle.fort_syntax.specs.Units.{Typing, typings_by, items_by}
use Rattle.fort_syntax.specs.declared.name.Name.{Name}
use Rattle.fort_syntax.specs.declared.dialect.Sort.{Sort}
use Rattle.fort_syntax.specs.declared.stmt.Dim.{Dim}
use Rattle.fort_syntax.specs.declared.stmt.Item.{Item}
use Rattle.fort_syntax.specs.declared.unit.Line.{Line}
use Rattle.name_tables.specs.Tables.{told, all_told}

abbrev pub pair_of : Typing → Name × Sort
pair_of typing = (typing.name, typing.sort)

abbrev pub pairs_of : List Typing → List (Name × Sort)
pairs_of typings = map pair_of typings

-- a table of types with those that statements give
abbrev pub typed_from : List (Name × Sort) → List Line → List (Name × Sort)
typed_from table [] = table
typed_from table (line ∷ lines) = typed_from (all_told table (pairs_of (typings_by line.stmt))) lines

-- a table with the type that a declaration gives its items
abbrev pub typed_items : Sort → List (Name × Sort) → List Item → List (Name × Sort)
typed_items sort table [] = table
typed_items sort table (item ∷ items) = typed_items sort (told table item.name sort) items

-- a table of dimensions with those that items have
abbrev pub shaped : List (Name × List Dim) → List Item → List (Name × List Dim)
shaped table [] = table
shaped table (item ∷ items) = shaped (cond (is_given_dims item.dims) (told table item.name item.dims) table) items

abbrev pub shaped_from : List (Name × List Dim) → List Line → List (Name × List Dim)
shaped_from table [] = table
shaped_from table (line ∷ lines) = shaped_from (shaped table (items_by line.stmt)) lines
