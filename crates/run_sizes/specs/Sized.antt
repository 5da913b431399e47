-- The dimensions of names, in slots.
use Rattle.std.specs.Prelude.{◌≡◌, ℕ, ◌+◌, true, ⊤, List, [], ◌∷◌, ◌++◌, length, map}
use Rattle.formula.specs.Atoms.{is_among}
use Rattle.fort_syntax.specs.Names.{dims_of}
use Rattle.fort_syntax.specs.declared.name.Name.{Name}
use Rattle.fort_syntax.specs.declared.stmt.Dim.{Dim}
use Rattle.fort_syntax.specs.declared.stmt.Dim.TheVariants.{Fixed, Named}
use Rattle.fort_syntax.specs.declared.unit.Unit.{Unit as Routine}
use Rattle.run_shapes.specs.declared.slots.Amount.{Amount}
use Rattle.run_shapes.specs.declared.slots.Amount.TheVariants as amount
use Rattle.run_shapes.specs.declared.slots.Shape.{Shape}
use Rattle.run_coding.specs.Pushed.{slot_in}
use Rattle.run_sizes.specs.declared.sizes.Sizes.{Sizes}

abbrev pub dim_in : List Name → Dim → Amount
dim_in names (Fixed n) = amount.Fixed n
dim_in names (Named x) = amount.Named (slot_in names x)

-- the dimensions of some names, one behind the other
abbrev pub sizes_of : Routine → List Name → List Name → List Amount
sizes_of u names [] = []
sizes_of u names (x ∷ xs) = map (dim_in names) (dims_of u x) ++ sizes_of u names xs

-- where they stand, from a place on
abbrev pub shapes_from : Routine → ℕ → List Name → List Shape
shapes_from u first [] = []
shapes_from u first (x ∷ xs) = record { first = first; rank = length (dims_of u x) } ∷ shapes_from u
    (first + length (dims_of u x)) xs

-- those of all names of a unit
pub record AreSizesOf (u : Routine) (names : List Name) (all : Sizes) : Type 0 where
  pub shapes : all.shapes.items ≡ shapes_from u 0 names
  pub sizes : all.sizes.items ≡ sizes_of u names names

-- a dimension that is a name has a slot
abbrev pub DimHere : List Name → Dim → Type 0
DimHere names (Fixed n) = ⊤
DimHere names (Named x) = is_among x names ≡ true
