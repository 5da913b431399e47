-- The laws of accepted decks.
use Rattle.std.specs.Prelude.{◌≡◌, List}
use Rattle.fort_syntax.specs.declared.deck.Deck.{Deck}
use Rattle.fort_syntax.specs.declared.dialect.Dialect.{Dialect}
use Rattle.fort_syntax.specs.declared.refusal.Fault.{Fault}
use Rattle.fort_notes.specs.Remarks.{Remarks}
use Rattle.fort_model.specs.Conditions.{AreValid, IsExact, conditions_of}
use Rattle.fort_model.specs.Correct.{IsTotallyCorrect}
use Rattle.fort_model.specs.Paths.{Path}
use Rattle.fort_model.specs.Program.{Program}
use Rattle.accepted_laws.specs.Accepted.{IsProgramOf, IsAcceptedAs}
use Rattle.accepted_laws.specs.ModelFaults.{IsModelFault}

-- ---- soundness

-- the conditions of an accepted deck are exact: one for each check of each path of each unit, in order
abbrev pub AcceptedConditionsAreExact : Type 0
AcceptedConditionsAreExact =
    (dialect : Dialect) (deck : Deck) (r : Remarks) (p : Program) (paths : List (List Path))
    → IsAcceptedAs dialect deck r p paths → IsExact p (conditions_of p paths)

-- where all conditions of an accepted deck are valid, its program is totally correct
abbrev pub AcceptedDecksAreCorrect : Type 0
AcceptedDecksAreCorrect =
    (dialect : Dialect) (deck : Deck) (r : Remarks) (p : Program) (paths : List (List Path)) → IsAcceptedAs dialect deck r p paths
    → AreValid p.functions (conditions_of p paths) → IsTotallyCorrect p

-- ---- what is accepted is one

-- a deck has one program in a dialect
abbrev pub ProgramsAreOne : Type 0
ProgramsAreOne =
    (dialect : Dialect) (deck : Deck) (r s : Remarks) (p q : Program) → IsProgramOf dialect deck r p
    → IsProgramOf dialect deck s q → (r ≡ s) × (p ≡ q)

-- a deck is accepted as one program, with one list of paths, and so with one list of conditions
abbrev pub AcceptedAreOne : Type 0
AcceptedAreOne =
    (dialect : Dialect) (deck : Deck) (r s : Remarks) (p q : Program) (paths others : List (List Path))
    → IsAcceptedAs dialect deck r p paths → IsAcceptedAs dialect deck s q others
    → (r ≡ s) × (p ≡ q) × (paths ≡ others) × (conditions_of p paths ≡ conditions_of q others)

-- an accepted deck has no fault among its notes, in its calls or in a later stage
abbrev pub AcceptedHaveNoFault : Type 0
AcceptedHaveNoFault =
    (dialect : Dialect) (deck : Deck) (r : Remarks) (p : Program) (paths : List (List Path)) (f : Fault)
    → IsAcceptedAs dialect deck r p paths → IsModelFault dialect deck f → ⊥
