-- Choices, one after another.
use Rattle.std.specs.Prelude.{ℕ, List, [], ◌∷◌, Option, Some, None}
use Rattle.weight_stmt.specs.declared.choices.Taken.{Taken}

-- all choices, by the first of them and those behind it
abbrev pub all_of : Option Taken → List ℕ
all_of None = []
all_of (Some t) = t.choice ∷ t.rest.now
