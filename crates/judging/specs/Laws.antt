-- The laws of the judgement.
use Rattle.std.specs.Prelude.{ℕ, ◌≡◌, ◌⊎◌, List, map, Some, Ok, slice_get}
use Rattle.fort_syntax.specs.WellFormed.{IsWellFormed}
use Rattle.fort_syntax.specs.declared.deck.Deck.{Deck}
use Rattle.fort_syntax.specs.declared.dialect.Dialect.{Dialect}
use Rattle.fort_syntax.specs.declared.refusal.Fault.{Fault}
use Rattle.fort_notes.specs.Assertions.{Notes}
use Rattle.fort_notes.specs.Remarks.{Remarks, remarks_of}
use Rattle.fort_model.specs.Conditions.{AreValid, IsExact, conditions_of}
use Rattle.fort_model.specs.Correct.{IsTotallyCorrect}
use Rattle.fort_model.specs.Paths.{Path}
use Rattle.fort_model.specs.Program.{Program}
use Rattle.note_laws.specs.Increase.{Increase}
use Rattle.judging.specs.Judgement.{IsDeckIn, IsKeptIn, IsAcceptedIn, IsRuleFaultIn, IsFirstFaultIn}

-- ---- decks

-- the deck of some bytes is well formed
abbrev pub DecksInAreWellFormed : Type 0
DecksInAreWellFormed = (d : Dialect) (bytes : List ℕ) (deck : Deck) → IsDeckIn d bytes deck → IsWellFormed d deck

-- the ASSERTs of each of its units stand at points that increase
abbrev pub AssertPointsIncreaseIn : Type 0
AssertPointsIncreaseIn =
    (d : Dialect) (bytes : List ℕ) (deck : Deck) (r : Remarks) → IsDeckIn d bytes deck → remarks_of deck ≡ Ok r
    → (i : ℕ) (notes : Notes) → slice_get r.units i ≡ Some notes → Increase (map (λ a. a.point) notes.asserts)

-- ---- one judgement

-- bytes that keep all rules are one deck, with one program
abbrev pub KeptAreOne : Type 0
KeptAreOne =
    (d : Dialect) (bytes : List ℕ) (a b : Deck) (r s : Remarks) (p q : Program) → IsKeptIn d bytes a r p → IsKeptIn d bytes b s q
    → (a ≡ b) × (r ≡ s) × (p ≡ q)

-- bytes that are accepted are so with one list of paths, and with one list of conditions
abbrev pub AcceptedInAreOne : Type 0
AcceptedInAreOne =
    (d : Dialect) (bytes : List ℕ) (a b : Deck) (r s : Remarks) (p q : Program) (paths others : List (List Path))
    → IsAcceptedIn d bytes a r p paths → IsAcceptedIn d bytes b s q others
    → (a ≡ b) × (r ≡ s) × (p ≡ q) × (paths ≡ others) × (conditions_of p paths ≡ conditions_of q others)

-- bytes that keep all rules but those on sizes have no fault of such a rule
abbrev pub KeptHaveNoFault : Type 0
KeptHaveNoFault = (d : Dialect) (bytes : List ℕ) (deck : Deck) (r : Remarks) (p : Program) (f : Fault)
    → IsKeptIn d bytes deck r p → IsRuleFaultIn d bytes f → ⊥

-- no bytes are both accepted and at fault
abbrev pub AcceptedInHaveNoFault : Type 0
AcceptedInHaveNoFault =
    (d : Dialect) (bytes : List ℕ) (deck : Deck) (r : Remarks) (p : Program) (paths : List (List Path)) (f : Fault)
    → IsAcceptedIn d bytes deck r p paths → IsFirstFaultIn d bytes f → ⊥

-- bytes have at most one first fault
abbrev pub FaultsInAreOne : Type 0
FaultsInAreOne = (d : Dialect) (bytes : List ℕ) (f g : Fault) → IsFirstFaultIn d bytes f → IsFirstFaultIn d bytes g → f ≡ g

-- ---- acceptance

-- bytes that keep all rules but those on sizes are accepted, with some paths, or have a fault of sizes
abbrev pub KeptAreAccepted : Type 0
KeptAreAccepted =
    (d : Dialect) (bytes : List ℕ) (deck : Deck) (r : Remarks) (p : Program) → IsKeptIn d bytes deck r p
    → ((paths : List (List Path)) × IsAcceptedIn d bytes deck r p paths) ⊎ ((f : Fault) × IsFirstFaultIn d bytes f)

-- the conditions of bytes that are accepted are exact, and where all are valid, their program is totally correct
abbrev pub AcceptedInAreSound : Type 0
AcceptedInAreSound =
    (d : Dialect) (bytes : List ℕ) (deck : Deck) (r : Remarks) (p : Program) (paths : List (List Path))
    → IsAcceptedIn d bytes deck r p paths
    → IsExact p (conditions_of p paths) × (AreValid p.functions (conditions_of p paths) → IsTotallyCorrect p)
