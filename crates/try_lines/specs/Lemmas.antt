-- Tables of conditions by name.
use Rattle.std.specs.Prelude.{ℕ, suc, ◌≡◌, ◌++◌, cond, List, [], ◌∷◌, Option, Some, None, slice_get, codes, decimal}
use Rattle.std.specs.Map.{lookup}
use Rattle.formula.specs.Atoms.{same_bytes}
use Rattle.fort_syntax.specs.declared.condition.Condition.{Condition}

-- the name of a condition: `INC-1-2`
abbrev pub name_of : Condition → List ℕ
name_of c = c.unit ++ codes "-" ++ decimal c.path ++ codes "-" ++ decimal c.check

-- the place that a table tells of a name
abbrev pub told : List (List ℕ × ℕ) → List ℕ → Option ℕ
told table w = lookup (same_bytes w) table

-- a table tells a place of a name, and of the others what it told before
abbrev pub Tells : List (List ℕ × ℕ) → List (List ℕ × ℕ) → List ℕ → ℕ → Type 0
Tells old new name i = (w : List ℕ) → told new w ≡ cond (same_bytes name w) (Some i) (told old w)

-- the place of the first condition with a name in a list whose first has the place i
abbrev pub first_place : List ℕ → List Condition → ℕ → Option ℕ
first_place w [] i = None
first_place w (c ∷ cs) i = cond (same_bytes (name_of c) w) (Some i) (first_place w cs (suc i))

-- the first condition with a name
abbrev pub first_named : List ℕ → List Condition → Option Condition
first_named w [] = None
first_named w (c ∷ cs) = cond (same_bytes (name_of c) w) (Some c) (first_named w cs)

-- the condition at a place
abbrev pub condition_at : List Condition → Option ℕ → Option Condition
condition_at cs None = None
condition_at cs (Some i) = slice_get cs i

-- a table tells of each name the place of the first condition with it
abbrev pub ArePlacesOf : List Condition → List (List ℕ × ℕ) → Type 0
ArePlacesOf cs table = (w : List ℕ) → told table w ≡ first_place w cs 0
