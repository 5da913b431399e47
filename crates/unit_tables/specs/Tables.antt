-- What tables by name and by label tell.
use Rattle.std.specs.Prelude.{◌≡◌, ℕ, suc, Bool, true, false, cond, not, ◌&&◌, List, [], ◌∷◌, length, Option, Some, None, slice_get, nat_eq, unwrap_or}
use Rattle.std.specs.Map.{lookup}
use Rattle.formula.specs.Atoms.{same_bytes}
use Rattle.fort_syntax.specs.Names.{first_unit, is_function}
use Rattle.fort_syntax.specs.declared.name.Name.{Name}
use Rattle.fort_syntax.specs.declared.unit.DataName.{DataName}
use Rattle.fort_syntax.specs.declared.unit.Line.{Line}
use Rattle.fort_syntax.specs.declared.unit.Unit.{Unit as Routine}
use Rattle.fort_model.specs.Flow.{target}

-- the place that a table of names with places tells of a name
abbrev pub told : List (Name × ℕ) → Name → Option ℕ
told table x = lookup (same_bytes x) table

-- a table tells a place of the names that pass a test, and of the others what it told before
abbrev pub Tells : List (Name × ℕ) → List (Name × ℕ) → (Name → Bool) → ℕ → Type 0
Tells old new test i = (x : Name) → told new x ≡ cond (test x) (Some i) (told old x)

-- the place of the first data name with a name in a list whose first has the place i
abbrev pub first_name : Name → List DataName → ℕ → Option ℕ
first_name x [] i = None
first_name x (d ∷ ds) i = cond (same_bytes d.name x) (Some i) (first_name x ds (suc i))

-- the place of the data name of a unit with a name, counted from 0
abbrev pub name_place : Routine → Name → Option ℕ
name_place u x = first_name x u.names 0

abbrev pub data_at : List DataName → Option ℕ → Option DataName
data_at ds None = None
data_at ds (Some i) = slice_get ds i

-- a table tells of each name its place in the unit
abbrev pub AreNamePlaces : Routine → List (Name × ℕ) → Type 0
AreNamePlaces u table = (x : Name) → told table x ≡ name_place u x

-- whether a unit is a FUNCTION, or is none
abbrev pub is_of_kind : Bool → Routine → Bool
is_of_kind true u = is_function u
is_of_kind false u = not (is_function u)

-- a table tells of each name the number of the first unit of a kind with this name
abbrev pub AreNumbersOf : Bool → List Routine → List (Name × ℕ) → Type 0
AreNumbersOf of_functions units table = (x : Name) → told table x ≡ first_unit (λ u. is_of_kind of_functions u
    && same_bytes u.name x) units 0

-- the point that a table of labels with points tells of a label
abbrev pub told_point : List (ℕ × ℕ) → ℕ → Option ℕ
told_point table label = lookup (nat_eq label) table

abbrev pub TellsPoint : List (ℕ × ℕ) → List (ℕ × ℕ) → ℕ → ℕ → Type 0
TellsPoint old new label point = (x : ℕ) → told_point new x ≡ cond (nat_eq label x) (Some point) (told_point old x)

-- a table tells of each label the point of the first statement with it, and nothing of a label without one
abbrev pub ArePointsOf : List Line → List (ℕ × ℕ) → Type 0
ArePointsOf lines table = (label : ℕ) → unwrap_or (told_point table label) (length lines) ≡ target lines label
