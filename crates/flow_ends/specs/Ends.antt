-- The cards that a rule is broken at, where it is one at most.
use Rattle.std.specs.Prelude.{ℕ, cond, List, [], ◌∷◌, Option, None, Some}
use Rattle.fort_syntax.specs.declared.dialect.Dialect.{Dialect}
use Rattle.fort_syntax.specs.declared.unit.Line.{Line}
use Rattle.fort_model.specs.Rules.{ends_flow}

abbrev pub card_list : Option ℕ → List ℕ
card_list None = []
card_list (Some card) = card ∷ []

-- the card of a statement, where the flow goes on behind it
abbrev pub cards_behind : Dialect → Line → List ℕ
cards_behind dialect line = cond (ends_flow dialect line.stmt) [] (line.card ∷ [])
