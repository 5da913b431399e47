-- Tables that keep what was told of a name first.
use Rattle.std.specs.Prelude.{cond, List, [], ◌∷◌, ◌++◌, is_some, Option}
use Rattle.std.specs.Map.{lookup}
use Rattle.formula.specs.Atoms.{same_bytes}
use Rattle.fort_syntax.specs.declared.name.Name.{Name}

-- what the first of some pairs for a name tells of it
abbrev pub first_of : {V : Type 0} → List (Name × V) → Name → Option V
first_of ps x = lookup (same_bytes x) ps

-- a table with what is told of one more name: it counts where nothing was told of the name before
abbrev pub told : {V : Type 0} → List (Name × V) → Name → V → List (Name × V)
told ps x v = cond (is_some (first_of ps x)) ps (ps ++ (x, v) ∷ [])

abbrev pub all_told : {V : Type 0} → List (Name × V) → List (Name × V) → List (Name × V)
all_told ps [] = ps
all_told ps (q ∷ qs) = all_told (told ps q.0 q.1) qs
