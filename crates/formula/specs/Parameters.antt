-- Parameters in a table.
use Rattle.std.specs.Prelude.{ℕ, ◌≡◌, List}
use Rattle.formula.specs.Atoms.{is_among}

-- two lists have the same words
abbrev pub HaveSameWords : List (List ℕ) → List (List ℕ) → Type 0
HaveSameWords xs ys = (x : List ℕ) → is_among x xs ≡ is_among x ys
