-- Sizes of arrays, places of elements and sorts of names, in any sense.
use Rattle.std.specs.Prelude.{ℕ, ◌*◌, Bool, List, [], ◌∷◌, Option, Some, None, option_map}
use Rattle.fort_syntax.specs.Names.{data_name, dims_of}
use Rattle.formula.specs.declared.function.BuiltIn.TheVariants.{Plus, Difference, Times, IntegerCell, LogicalCell, IntegerCells, LogicalCells, Blank}
use Rattle.fort_syntax.specs.declared.name.Name.{Name}
use Rattle.fort_syntax.specs.declared.dialect.Sort.{Sort}
use Rattle.fort_syntax.specs.declared.dialect.Sort.TheVariants.{Integer, Logical}
use Rattle.fort_syntax.specs.declared.stmt.Dim.{Dim}
use Rattle.fort_syntax.specs.declared.stmt.Dim.TheVariants.{Fixed, Named as Adjustable}
use Rattle.fort_syntax.specs.declared.unit.DataName.{DataName}
use Rattle.fort_syntax.specs.declared.unit.Unit.{Unit as Routine}
use Rattle.fort_model.specs.Senses.{Sense, natural, make1, make2, least_integer, greatest_integer, undefined, lies_from_to}
use Rattle.fort_model.specs.Seen.{Named}

-- the product of dimensions that are all constants
abbrev pub size_if_fixed : List Dim → Option ℕ
size_if_fixed [] = Some 1
size_if_fixed (Fixed n ∷ ds) = option_map (λ m. n * m) (size_if_fixed ds)
size_if_fixed (Adjustable x ∷ ds) = None

module _ {V : Type 0} (s : Sense V) where
  -- a dimension is a constant, or what its name stands for
  abbrev pub dim : Named V → Dim → V
  dim now (Fixed n) = natural s n
  dim now (Adjustable x) = now x

  abbrev pub stretch_from : Named V → V → List Dim → V
  stretch_from now q [] = q
  stretch_from now q (d ∷ ds) = stretch_from now (make2 s Times q (dim now d)) ds

  -- the product of dimensions, from the left
  abbrev pub stretch : Named V → List Dim → V
  stretch now [] = natural s 1
  stretch now (d ∷ ds) = stretch_from now (dim now d) ds

  abbrev pub size_or : Option ℕ → V → V
  size_or (Some n) t = natural s n
  size_or None t = t

  -- the number of elements: one number where all dimensions are constants
  abbrev pub size : Named V → List Dim → V
  size now dims = size_or (size_if_fixed dims) (stretch now dims)

  -- with the place p for the subscripts so far, and the stretch q of their dimensions
  abbrev pub place_from : Named V → V → V → List V → List Dim → V
  place_from now p q (i ∷ is) (d ∷ ds) =
      place_from now (make2 s Plus p (make2 s Times q (make2 s Difference i (natural s 1)))) (make2 s Times q (dim now d)) is ds
  place_from now p q _ _ = p

  -- the place of an element, from 1, by its subscripts and the dimensions of its array
  abbrev pub place : Named V → List V → List Dim → V
  place now (i ∷ is) (d ∷ ds) = place_from now i (dim now d) is ds
  place now _ _ = natural s 1

  -- each subscript lies from 1 to its dimension
  abbrev pub subscripts_fit : Named V → List V → List Dim → List V
  subscripts_fit now (i ∷ is) (d ∷ ds) = lies_from_to s (natural s 1) (dim now d) i ∷ subscripts_fit now is ds
  subscripts_fit now _ _ = []

  -- one cell is undefined or of a type
  abbrev pub cell_sort : Sort → V → V
  cell_sort Integer t = s.make IntegerCell (t ∷ least_integer s ∷ greatest_integer s ∷ [])
  cell_sort Logical t = make1 s LogicalCell t

  -- so many cells are each undefined or of a type
  abbrev pub cells_sort : Sort → V → V → V
  cells_sort Integer n t = s.make IntegerCells (t ∷ n ∷ least_integer s ∷ greatest_integer s ∷ [])
  cells_sort Logical n t = make2 s LogicalCells t n

  abbrev pub sort_by : Named V → List Dim → Sort → V → V
  sort_by now [] sort t = cell_sort sort t
  sort_by now (d ∷ ds) sort t = cells_sort sort (size now (d ∷ ds)) t

  abbrev pub sort_in : Named V → Name → Option DataName → V
  sort_in now x None = s.truth_value Bool.true
  sort_in now x (Some d) = sort_by now d.dims d.sort (now x)

  -- what a name of a unit stands for has the name's type and size
  abbrev pub sort_of : Routine → Named V → Name → V
  sort_of u now x = sort_in now x (data_name u x)

  -- what a name that got new cells stands for: undefined, or so many undefined cells
  abbrev pub blank_by : Named V → List Dim → V
  blank_by now [] = undefined s
  blank_by now (d ∷ ds) = make1 s Blank (size now (d ∷ ds))

  abbrev pub blank : Routine → Named V → Name → V
  blank u now x = blank_by now (dims_of u x)

-- the sorts of several names
abbrev pub sorts : {V : Type 0} → Sense V → Routine → Named V → List Name → List V
sorts s u now [] = []
sorts s u now (x ∷ xs) = sort_of s u now x ∷ sorts s u now xs
