-- Units that begin with a head.
use Rattle.std.specs.Prelude.{Bool, false, [], ◌∷◌}
use Rattle.fort_syntax.specs.Units.{Segment, class_of, is_heading}

-- the first statement of a unit is a head
abbrev pub is_headed : Segment → Bool
is_headed [] = false
is_headed (line ∷ lines) = is_heading (class_of line.stmt)
