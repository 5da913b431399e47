-- Where elements of arrays lie.
use Rattle.std.specs.Prelude.{◌≡◌, true, ℤ, pos, List, [], ◌∷◌}
use Rattle.formula.specs.Values.{is_between}
use Rattle.fort_model.specs.Places.{place, stretch}

-- there are as many subscripts as dimensions, and each lies from 1 to its dimension
abbrev pub AreWithin : List ℤ → List ℤ → Type 0
AreWithin [] [] = Unit {0}
AreWithin [] (d ∷ ds) = ⊥
AreWithin (s ∷ ss) [] = ⊥
AreWithin (s ∷ ss) (d ∷ ds) = (is_between (pos 1) d s ≡ true) × AreWithin ss ds

-- an element whose subscripts lie within their dimensions is one of the elements of its array
abbrev pub ElementsLieInArrays : Type 0
ElementsLieInArrays = (ss ds : List ℤ) → AreWithin ss ds → is_between (pos 1) (stretch ds) (place ss ds) ≡ true
