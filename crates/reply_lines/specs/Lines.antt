-- The lines that are written in reply.
use Rattle.std.specs.Prelude.{ℕ, List, ◌++◌, codes, decimal}
use Rattle.reply_lines.specs.declared.lines.Sizes.{Sizes}

-- `UNITS 1 PATHS 1 CONDITIONS 3`
abbrev pub sizes_text : Sizes → List ℕ
sizes_text s = codes "UNITS " ++ decimal s.units ++ codes " PATHS " ++ decimal s.paths ++ codes " CONDITIONS " ++ decimal s.conditions

-- `ACCEPTED UNITS 1 PATHS 1 CONDITIONS 3`
abbrev pub accepted_line : Sizes → List ℕ
accepted_line s = codes "ACCEPTED " ++ sizes_text s ++ codes "\n"

-- `MADE 1 UNITS 1 PATHS 3 CONDITIONS 17 MARKED 9`
abbrev pub made_line : ℕ → Sizes → ℕ → List ℕ
made_line n s m = codes "MADE " ++ decimal n ++ codes " " ++ sizes_text s ++ codes " MARKED " ++ decimal m ++ codes "\n"

-- what is written where no deck of a number is made
abbrev pub bad_number_line : List ℕ
bad_number_line = codes "REFUSED BadNumber\n"
