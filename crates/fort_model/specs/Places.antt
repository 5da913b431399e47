-- Sizes of arrays, and the places of their elements. The first subscript varies fastest.
use Rattle.std.specs.Prelude.{ℕ, ℤ, pos, ◌+ℤ◌, ◌-ℤ◌, ◌*ℤ◌, List, [], ◌∷◌, map}
use Rattle.formula.specs.Values.{count}
use Rattle.fort_syntax.specs.declared.stmt.Dim.{Dim}
use Rattle.fort_syntax.specs.declared.stmt.Dim.TheVariants.{Fixed, Named}
use Rattle.fort_model.specs.Cells.{num}
use Rattle.fort_model.specs.Storage.{Storage, Environment, load}

-- a dimension is a constant, or what the cell of its name holds
abbrev pub dim_value : Environment → Storage → Dim → ℤ
dim_value env st (Fixed n) = pos n
dim_value env st (Named x) = num (load st (env x).first)

abbrev pub dim_values : Environment → Storage → List Dim → List ℤ
dim_values env st dims = map (dim_value env st) dims

-- the product of dimensions, from the left, and a number before them
abbrev pub stretch_from : ℤ → List ℤ → ℤ
stretch_from q [] = q
stretch_from q (d ∷ ds) = stretch_from (q *ℤ d) ds

-- the number of elements; a scalar has one cell
abbrev pub stretch : List ℤ → ℤ
stretch [] = pos 1
stretch (d ∷ ds) = stretch_from d ds

abbrev pub size_of : List ℤ → ℕ
size_of ds = count (stretch ds)

-- with the place p for the subscripts so far, and the stretch q of their dimensions
abbrev pub place_from : ℤ → ℤ → List ℤ → List ℤ → ℤ
place_from p q (s ∷ ss) (d ∷ ds) = place_from (p +ℤ q *ℤ (s -ℤ pos 1)) (q *ℤ d) ss ds
place_from p q _ _ = p

-- the place of an element, from 1, by its subscripts and the dimensions of its array
abbrev pub place : List ℤ → List ℤ → ℤ
place (s ∷ ss) (d ∷ ds) = place_from s d ss ds
place _ _ = pos 1
