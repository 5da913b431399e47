-- Open brackets of terms that are being put.
use Rattle.std.specs.Prelude.{ℕ, ◌+◌, ◌≤◌, List, [], ◌∷◌, ◌++◌, length, drop, codes}
use Rattle.formula.specs.declared.node.Node.{Node}
use Rattle.formula.specs.declared.node.TermId.{TermId}
use Rattle.formula.specs.Facts.{row_depth}
use Rattle.formula.specs.Pool.{IsIn, arguments_at, row_in, trees}
use Rattle.event_text.specs.declared.bracket.Bracket.{Bracket}
use Rattle.event_text.specs.Depths.{deepest}
use Rattle.event_text.specs.TermText.{row_text}

-- open brackets, from the innermost, and for how many there is room
pub record Rests : Type 0 where
  pub room : ℕ
  pub brackets : List Bracket

-- the arguments of a bracket that are still to be put
abbrev pub rest_of : List Node → Bracket → List TermId
rest_of pool b = drop b.at (arguments_at pool b.id)

-- the text that is still to be put: of each bracket the arguments left, and its end
abbrev pub pending : List (List ℕ) → List Node → List Bracket → List ℕ
pending names pool [] = []
pending names pool (b ∷ outer) = row_text names (row_in (trees pool) (rest_of pool b)) ++ codes ")" ++ pending names pool outer

-- above each bracket there is room for the brackets of the arguments left
abbrev pub IsNested : List Node → List Bracket → Type 0
IsNested pool [] = Unit {0}
IsNested pool (b ∷ outer) =
    IsIn pool b.id × (row_depth (row_in (trees pool) (rest_of pool b)) + length (b ∷ outer) ≤ deepest (trees pool))
    × IsNested pool outer
