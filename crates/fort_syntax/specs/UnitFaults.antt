-- Which rules on statements and on units a deck breaks, and at which cards, in no order.
use Rattle.std.specs.Prelude.{ℕ, ◌≡◌, ◌⊎◌, true, List, [], ◌∷◌}
use Rattle.fort_syntax.specs.OrderRules.{Place, places}
use Rattle.fort_syntax.specs.Readings.{AreReadAs, IsUnspelled}
use Rattle.fort_syntax.specs.Units.{Piece, statements, segments}
use Rattle.fort_syntax.specs.UnitRules.{breaks}
use Rattle.fort_syntax.specs.declared.cards.Entry.{Entry}
use Rattle.fort_syntax.specs.declared.dialect.Dialect.{Dialect}
use Rattle.fort_syntax.specs.declared.rule.Rule.{Rule}
use Rattle.fort_syntax.specs.declared.rule.Rule.TheVariants.{NoHead}
use Rattle.fort_syntax.specs.declared.unit.Line.{Line}

-- one of some statements breaks a rule on units at its card
abbrev pub IsBrokenAmong : List Place → Rule → ℕ → Type 0
IsBrokenAmong [] rule card = ⊥
IsBrokenAmong (p ∷ ps) rule card = ((breaks rule p ≡ true) × (p.line.card ≡ card)) ⊎ IsBrokenAmong ps rule card

-- the statements of a deck break a rule on units: one of them does, or there is none, and so no head
abbrev pub IsUnitRuleBroken : Dialect → List Line → Rule → ℕ → Type 0
IsUnitRuleBroken d [] rule card = (rule ≡ NoHead) × (card ≡ 1)
IsUnitRuleBroken d (line ∷ lines) rule card = IsBrokenAmong (places d (segments (line ∷ lines))) rule card

-- the text of one of some entries is that of no statement
abbrev pub IsTextRuleBroken : Dialect → List Entry → Rule → ℕ → Type 0
IsTextRuleBroken d [] rule card = ⊥
IsTextRuleBroken d (entry ∷ entries) rule card = IsUnspelled d entry rule card ⊎ IsTextRuleBroken d entries rule card

-- the entries of a deck break a rule on statements or units: a text spells no statement, or all are read and
-- break a rule on units
abbrev pub IsStatementRuleBroken : Dialect → List Entry → Rule → ℕ → Type 0
IsStatementRuleBroken d entries rule card =
    IsTextRuleBroken d entries rule card
    ⊎ ((pieces : List Piece) × AreReadAs d entries pieces × IsUnitRuleBroken d (statements pieces) rule card)
