-- That units have lists of their paths, so that accepted decks have just one list of conditions.
use Rattle.std.specs.Prelude.{◌≡◌, List}
use Rattle.fort_syntax.specs.Conditions.{ConditionTree}
use Rattle.fort_syntax.specs.declared.deck.Deck.{Deck}
use Rattle.fort_syntax.specs.declared.dialect.Dialect.{Dialect}
use Rattle.fort_syntax.specs.declared.rule.Rule.TheVariants.{UncutCycle}
use Rattle.fort_syntax.specs.declared.unit.Unit.{Unit as Routine}
use Rattle.fort_notes.specs.Assertions.{Notes}
use Rattle.fort_notes.specs.Remarks.{Remarks}
use Rattle.fort_model.specs.Conditions.{AreAllPaths, conditions_of}
use Rattle.fort_model.specs.Paths.{Path, ArePathsInOrder}
use Rattle.fort_model.specs.Program.{Program}
use Rattle.fort_model.specs.Rules.{KeepsRule, KeepsRules}
use Rattle.fort_laws.specs.Ways.{IsCutUp}
use Rattle.accepted_laws.specs.Accepted.{IsProgramOf, IsAcceptedAs}

-- a unit without uncut cycles has a list of its paths in order
abbrev pub PathsExist : Type 0
PathsExist = (dialect : Dialect) (u : Routine) (notes : Notes) → IsCutUp dialect u notes → (paths : List Path)
    × ArePathsInOrder dialect u notes paths

-- so has each unit of a program without uncut cycles
abbrev pub AllPathsExist : Type 0
AllPathsExist = (p : Program) → KeepsRule p UncutCycle → (paths : List (List Path)) × AreAllPaths p paths

-- conditions are those of a deck as it is accepted
abbrev pub AreConditionsOf : Dialect → Deck → List ConditionTree → Type 0
AreConditionsOf dialect deck list = (r : Remarks) × (p : Program) × (paths : List (List Path))
    × IsAcceptedAs dialect deck r p paths × (list ≡ conditions_of p paths)

-- a deck whose program keeps all rules has just one list of conditions
abbrev pub ConditionsAreOne : Type 0
ConditionsAreOne =
    (dialect : Dialect) (deck : Deck) (r : Remarks) (p : Program) → IsProgramOf dialect deck r p → KeepsRules p
    → (list : List ConditionTree) × AreConditionsOf dialect deck list × ((other : List ConditionTree)
    → AreConditionsOf dialect deck other → other ≡ list)
