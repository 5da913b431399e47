-- The judgement of a text: the deck that it is, its first fault, and what it is accepted as.
use Rattle.std.specs.Prelude.{ℕ, ◌≡◌, ◌⊎◌, List, Some, None}
use Rattle.fort_syntax.specs.CardRules.{card_fault}
use Rattle.fort_syntax.specs.Cards.{entries_of}
use Rattle.fort_syntax.specs.declared.deck.Deck.{Deck}
use Rattle.fort_syntax.specs.declared.dialect.Dialect.{Dialect}
use Rattle.fort_syntax.specs.declared.refusal.Fault.{Fault}
use Rattle.deck_entries.specs.Decks.{IsDeckOf, IsFirstFault}
use Rattle.fort_notes.specs.Remarks.{Remarks}
use Rattle.fort_model.specs.Paths.{Path}
use Rattle.fort_model.specs.Program.{Program}
use Rattle.fort_model.specs.Rules.{KeepsRules}
use Rattle.path_sizes.specs.Limits.{IsWithinLimits, IsSizeFault}
use Rattle.accepted_laws.specs.Accepted.{IsProgramOf, IsAcceptedAs}
use Rattle.accepted_laws.specs.ModelFaults.{IsModelFault}

-- ---- cards, statements and units

-- the bytes keep the rules on cards, on statements and on units, and this is their deck
abbrev pub IsDeckIn : Dialect → List ℕ → Deck → Type 0
IsDeckIn d bytes deck = (card_fault bytes ≡ None) × IsDeckOf d (entries_of bytes) deck

-- the first fault of bytes that don't: rules on cards come before all others
abbrev pub IsTextFaultIn : Dialect → List ℕ → Fault → Type 0
IsTextFaultIn d bytes f = (card_fault bytes ≡ Some f) ⊎ ((card_fault bytes ≡ None) × IsFirstFault d (entries_of bytes) f)

-- ---- all rules

-- The bytes keep all rules but those on sizes: they are a deck, whose notes say these remarks, and whose program is this one.
pub record IsKeptIn (d : Dialect) (bytes : List ℕ) (deck : Deck) (r : Remarks) (p : Program) : Type 0 where
  pub is_deck : IsDeckIn d bytes deck
  pub is_program : IsProgramOf d deck r p
  pub kept : KeepsRules p

-- The bytes are accepted: they keep all these rules, and with all paths of the units the program is within the limits on sizes.
pub record IsAcceptedIn (d : Dialect) (bytes : List ℕ) (deck : Deck) (r : Remarks) (p : Program)
    (paths : List (List Path)) : Type 0 where
  pub is_deck : IsDeckIn d bytes deck
  pub accepted : IsAcceptedAs d deck r p paths
  pub within : IsWithinLimits p paths

-- ---- faults

-- a fault of sizes, which is judged where all other rules are kept
abbrev pub IsSizeFaultIn : Dialect → List ℕ → Fault → Type 0
IsSizeFaultIn d bytes f = (deck : Deck) × (r : Remarks) × (p : Program) × IsKeptIn d bytes deck r p × IsSizeFault p f

-- the first fault of another rule: in the text, or else among the notes of the deck or of its program
abbrev pub IsRuleFaultIn : Dialect → List ℕ → Fault → Type 0
IsRuleFaultIn d bytes f = IsTextFaultIn d bytes f ⊎ ((deck : Deck) × IsDeckIn d bytes deck × IsModelFault d deck f)

-- the first fault of the bytes
abbrev pub IsFirstFaultIn : Dialect → List ℕ → Fault → Type 0
IsFirstFaultIn d bytes f = IsRuleFaultIn d bytes f ⊎ IsSizeFaultIn d bytes f
