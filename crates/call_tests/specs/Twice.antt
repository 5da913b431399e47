-- The names that stand in two of some lists.
use Rattle.std.specs.Prelude.{List, [], ◌∷◌}
use Rattle.std.specs.List.{filter}
use Rattle.formula.specs.Atoms.{is_among}
use Rattle.fort_syntax.specs.declared.name.Name.{Name}
use Rattle.name_tables.specs.Sets.{with_names}

-- with the names that stood in front, and those that stood twice already
abbrev pub twice_after : List Name → List Name → List (List Name) → List Name
twice_after before again [] = again
twice_after before again (names ∷ rest) = twice_after (with_names before names)
    (with_names again (filter (λ x. is_among x before) names)) rest
