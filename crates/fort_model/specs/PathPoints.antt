-- The statements that a path leads through.
use Rattle.std.specs.Prelude.{ℕ, zero, suc, List, [], ◌∷◌, Option, Some, None, slice_get}
use Rattle.fort_syntax.specs.declared.dialect.Dialect.{Dialect}
use Rattle.fort_syntax.specs.declared.unit.Unit.{Unit as Routine}
use Rattle.fort_model.specs.Flow.{leads_at}
use Rattle.fort_model.specs.Paths.{Path}
use Rattle.fort_notes.specs.Assertions.{Assertion, Notes}

-- points that go on from one, if there is one
abbrev pub on_from : Option ℕ → (ℕ → List ℕ) → List ℕ
on_from None points = []
on_from (Some q) points = points q

-- the points from one on along choices: that of each statement that is performed, and the one that the last leads to
abbrev pub points_from : Dialect → Routine → ℕ → List (List ℕ) → List ℕ
points_from dialect u pc [] = pc ∷ []
points_from dialect u pc (cs ∷ path) = pc ∷ on_from (leads_at dialect u pc cs) (λ q. points_from dialect u q path)

abbrev pub point_in : Option Assertion → Option ℕ
point_in None = None
point_in (Some a) = Some a.point

-- the point of a start: 0 for the entry, and else that of the ASSERT
abbrev pub start_point : Notes → ℕ → Option ℕ
start_point notes zero = Some 0
start_point notes (suc k) = point_in (slice_get notes.asserts k)

-- The statements that a path leads through, and the point that ends it. Where the entry is itself a cut point, the path
-- from it has this point alone.
abbrev pub points_of : Dialect → Routine → Notes → Path → List ℕ
points_of dialect u notes path = on_from (start_point notes path.start) (λ pc. points_from dialect u pc path.choices)
