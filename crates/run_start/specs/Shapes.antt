-- Shapes at the start, in numbers that a machine has.
use Rattle.std.specs.Prelude.{ℕ, cond, List, [], ◌∷◌, ◌++◌, Option, Some, None}
use Rattle.fort_syntax.specs.declared.name.Name.{Name}
use Rattle.fort_syntax.specs.declared.stmt.Dim.{Dim}
use Rattle.fort_syntax.specs.declared.stmt.Dim.TheVariants.{Fixed, Named}
use Rattle.fort_syntax.specs.declared.unit.Unit.{Unit as Routine}
use Rattle.fort_notes.specs.declared.cases.Given.{Given}
use Rattle.run_start.specs.Counted.{number, plus_to, times_to, greater_to, above_zero}
use Rattle.run_start.specs.Starts.{dim_at_start, is_in_shape, size_at_start}

-- a dimension that is good
abbrev pub dim_to : List Given → Dim → Option (Option ℕ)
dim_to start (Fixed n) = Some (Some n)
dim_to start (Named x) = above_zero (dim_at_start start (Named x))

-- a number times one more dimension, where it is good, and then the rest
abbrev pub and_sized : (Option ℕ → Option (Option ℕ)) → Option ℕ → Option (Option ℕ) → Option (Option ℕ)
and_sized rest q None = None
and_sized rest q (Some n) = rest (times_to q n)

-- a number times dimensions, where all are good
abbrev pub sized_from : List Given → Option ℕ → List Dim → Option (Option ℕ)
sized_from start q [] = Some q
sized_from start q (d ∷ ds) = and_sized (λ r. sized_from start r ds) q (dim_to start d)

-- how many cells a name has, where it is in shape
abbrev pub shape_to : Routine → List Given → Name → Option (Option ℕ)
shape_to u start x = cond (is_in_shape u start x) (Some (number (size_at_start u start x))) None

-- one more size, where there is one, and then the rest
abbrev pub and_shaped : (List (Option ℕ) → Option (List (Option ℕ))) → List (Option ℕ) → Option (Option ℕ)
    → Option (List (Option ℕ))
and_shaped rest os None = None
and_shaped rest os (Some o) = rest (os ++ o ∷ [])

-- so for names, behind some that are counted
abbrev pub shapes_from : Routine → List Given → List (Option ℕ) → List Name → Option (List (Option ℕ))
shapes_from u start os [] = Some os
shapes_from u start os (x ∷ xs) = and_shaped (λ ps. shapes_from u start ps xs) os (shape_to u start x)

-- sums, and the greatest
abbrev pub sum_from : Option ℕ → List (Option ℕ) → Option ℕ
sum_from q [] = q
sum_from q (o ∷ os) = sum_from (plus_to q o) os

-- the greatest of sizes
abbrev pub greatest_from : Option ℕ → List (Option ℕ) → Option ℕ
greatest_from q [] = q
greatest_from q (o ∷ os) = greatest_from (greater_to q o) os
