-- What well-formed decks that keep the rules give: all that soundness takes of their units.
use Rattle.std.specs.Prelude.{ℕ, ◌≡◌, List, Some, slice_get}
use Rattle.fort_syntax.specs.Conditions.{ConditionTree}
use Rattle.fort_syntax.specs.WellFormed.{IsWellFormedUnit, IsWellFormed}
use Rattle.fort_syntax.specs.declared.deck.Deck.{Deck}
use Rattle.fort_syntax.specs.declared.dialect.Dialect.{Dialect}
use Rattle.fort_syntax.specs.declared.rule.Rule.TheVariants.{BlockMissing}
use Rattle.fort_syntax.specs.declared.unit.Line.{Line}
use Rattle.fort_syntax.specs.declared.unit.Unit.{Unit as Routine}
use Rattle.fort_model.specs.Calls.{Calls}
use Rattle.fort_model.specs.Conditions.{IsExact, AreValid}
use Rattle.fort_model.specs.Correct.{IsTotallyCorrect}
use Rattle.fort_model.specs.Fitting.{HasFittingNotes}
use Rattle.fort_model.specs.Program.{Program}
use Rattle.fort_model.specs.Rules.{KeepsRule, KeepsRules}
use Rattle.fort_model.specs.Smashes.{HoldsSmashed}
use Rattle.fort_laws.specs.Called.{IsReferenceTo, IsCallTo}
use Rattle.fort_laws.specs.Declared.{AreDeclared}
use Rattle.fort_laws.specs.StrictPrograms.{CallIsDeclared}
use Rattle.fort_laws.specs.TypedStatements.{IsTypedStatement}
use Rattle.fort_laws.specs.Ways.{EndsByReturn}
use Rattle.fort_laws.specs.WholeRuns.{BlocksAreCommon}

-- ---- units

-- what stands in the COMMON blocks of a well-formed unit are COMMON entities
abbrev pub BlocksHoldCommons : Type 0
BlocksHoldCommons = (dialect : Dialect) (u : Routine) → IsWellFormedUnit dialect u → BlocksAreCommon u

-- the units of a well-formed deck are as declarations make them, where no calling unit lacks a block of the unit that it calls
abbrev pub WellFormedIsDeclared : Type 0
WellFormedIsDeclared =
    (dialect : Dialect) (deck : Deck) (p : Program) → IsWellFormed dialect deck → deck.units ≡ p.units
    → KeepsRule p BlockMissing → AreDeclared p.units

-- the calls of a well-formed deck that keeps the rules agree with the units that they are of
abbrev pub CallsAgree : Type 0
CallsAgree =
    (dialect : Dialect) (deck : Deck) (p : Program) → IsWellFormed dialect deck → deck.units ≡ p.units → KeepsRules p
    → (i j : ℕ) (c : Calls p.units i j) → CallIsDeclared c

-- ---- statements

-- in a well-formed unit of a program that keeps the rules the parts of each statement have the types that their
-- places demand, and its references and CALLs are those of the text
abbrev pub StatementsAreTyped : Type 0
StatementsAreTyped =
    (dialect : Dialect) (p : Program) (i : ℕ) (u : Routine) → slice_get p.units i ≡ Some u
    → IsWellFormedUnit dialect u → KeepsRules p
    → (pc : ℕ) (line : Line) → slice_get u.lines pc ≡ Some line → IsTypedStatement u (IsReferenceTo p i u)
    (IsCallTo p i u) pc line.stmt

-- RETURNs alone lead to the end of a well-formed unit of a program that keeps the rules
abbrev pub EndsAreReturns : Type 0
EndsAreReturns =
    (dialect : Dialect) (p : Program) (i : ℕ) (u : Routine) → slice_get p.units i ≡ Some u
    → IsWellFormedUnit dialect u → KeepsRules p → EndsByReturn p.dialect u

-- ---- decks

-- Soundness for decks: the program of a well-formed deck that keeps the rules, whose notes fit, with an exact
-- list of conditions that are valid, is totally correct.
abbrev pub DecksAreCorrect : Type 0
DecksAreCorrect =
    (dialect : Dialect) (deck : Deck) (p : Program) → IsWellFormed dialect deck → deck.units ≡ p.units
    → KeepsRules p → HoldsSmashed p → HasFittingNotes p
    → (list : List ConditionTree) → IsExact p list → AreValid p.functions list → IsTotallyCorrect p
