-- Open brackets of terms whose text is compared.
use Rattle.std.specs.Prelude.{ℕ, List, [], ◌∷◌, ◌++◌, drop, codes}
use Rattle.formula.specs.declared.node.Node.{Node}
use Rattle.formula.specs.declared.node.TermId.{TermId}
use Rattle.formula.specs.Pool.{IsIn, arguments_at, row_in, trees}
use Rattle.event_text.specs.TermText.{row_text}
use Rattle.event_reading.specs.declared.bracket.Bracket.{Bracket}

-- the arguments of a bracket that are still to be passed
abbrev pub rest_of : List Node → Bracket → List TermId
rest_of pool b = drop b.at (arguments_at pool b.id)

-- the text that is still to be passed: of each bracket the arguments left, and its end
abbrev pub pending : List (List ℕ) → List Node → List Bracket → List ℕ
pending names pool [] = []
pending names pool (b ∷ outer) = row_text names (row_in (trees pool) (rest_of pool b)) ++ codes ")" ++ pending names pool outer

-- the brackets are of terms of the pool
abbrev pub AreOpen : List Node → List Bracket → Type 0
AreOpen pool [] = Unit {0}
AreOpen pool (b ∷ outer) = IsIn pool b.id × AreOpen pool outer
