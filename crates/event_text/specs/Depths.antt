-- The greatest depth of some terms.
use Rattle.std.specs.Prelude.{ℕ, List, [], ◌∷◌, max}
use Rattle.formula.specs.Facts.{depth}
use Rattle.formula.specs.Tree.{Tree}

abbrev pub deepest : List Tree → ℕ
deepest [] = 0
deepest (t ∷ rest) = max (depth t) (deepest rest)
