-- Cells and extents at the start.
use Rattle.std.specs.Prelude.{ℕ, ◌+◌, List, [], ◌∷◌, ◌++◌, map, Option, unwrap_or}
use Rattle.fort_model.specs.Storage.{Storage}
use Rattle.fort_notes.specs.declared.cases.Given.{Given}
use Rattle.fort_syntax.specs.declared.name.Name.{Name}
use Rattle.run_state.specs.Near.{far}
use Rattle.run_state.specs.declared.machine.Extent.{Extent}
use Rattle.run_start.specs.Places.{extent_in, first_place}
use Rattle.run_start.specs.Starts.{cells_or, given_to}

-- what the cells of names hold, which have so many
abbrev pub filled : List Given → List Name → List (Option ℕ) → Storage
filled start [] os = []
filled start (x ∷ xs) [] = []
filled start (x ∷ xs) (o ∷ os) = cells_or (unwrap_or o 0) (given_to start x) ++ filled start xs os

-- cells side by side
abbrev pub ends_from : ℕ → List (Option ℕ) → List Extent
ends_from first [] = []
ends_from first (o ∷ os) = record { first = first; size = unwrap_or o 0 } ∷ ends_from (far (first + unwrap_or o 0)) os

-- the cells of names that may stand among those with these cells
abbrev pub segment_by : List Name → List Extent → List Name → List Extent
segment_by all ends names = map (λ x. extent_in ends (first_place all x 0)) names
