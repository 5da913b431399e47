-- Places of names in lists.
use Rattle.std.specs.Prelude.{ℕ, suc, ◌≡◌, cond, List, [], ◌∷◌, map, Option, Some, None, get_or}
use Rattle.formula.specs.Atoms.{same_bytes}
use Rattle.fort_syntax.specs.declared.name.Name.{Name}
use Rattle.fort_syntax.specs.declared.unit.Unit.{Unit as Routine}
use Rattle.unit_tables.specs.Tables.{told}
use Rattle.run_state.specs.Deeds.{no_cells}
use Rattle.run_state.specs.declared.machine.Extent.{Extent}

-- the place of a name in a list whose first has the place i
abbrev pub first_place : List Name → Name → ℕ → Option ℕ
first_place [] x i = None
first_place (y ∷ ys) x i = cond (same_bytes y x) (Some i) (first_place ys x (suc i))

-- a table tells the first place of each name
abbrev pub ArePlacesOf : List Name → List (Name × ℕ) → Type 0
ArePlacesOf names table = (x : Name) → told table x ≡ first_place names x 0

-- the names of units
abbrev pub names_of_units : List Routine → List Name
names_of_units units = map (λ u. u.name) units

-- what stands in a list at a place; nothing where there is none
abbrev pub extent_in : List Extent → Option ℕ → Extent
extent_in es None = no_cells
extent_in es (Some k) = get_or es k no_cells
