-- The laws of readable conditions.
use Rattle.std.specs.Prelude.{◌≡◌, ℕ, true, List, [], length, replicate}
use Rattle.std.specs.List.{All, list_all}
use Rattle.event_text.specs.EventText.{event_text}
use Rattle.event_text.specs.Readable.{AreAlike, IsReadable, is_mark, IsAsked}
use Rattle.event_text.specs.declared.marks.Marks.{Marks}
use Rattle.formula.specs.Worth.{Function}
use Rattle.fort_syntax.specs.Conditions.{ConditionTree}
use Rattle.fort_syntax.specs.declared.deck.Deck.{Deck}
use Rattle.fort_syntax.specs.declared.dialect.Dialect.{Dialect}
use Rattle.fort_notes.specs.Remarks.{Remarks}
use Rattle.fort_model.specs.Conditions.{conditions_of}
use Rattle.fort_model.specs.Paths.{Path}
use Rattle.fort_model.specs.Program.{Program}
use Rattle.accepted_laws.specs.Accepted.{IsAcceptedAs}
use Rattle.path_sizes.specs.Limits.{IsWithinLimits}
use Rattle.judging.specs.Judgement.{IsAcceptedIn}
use Rattle.readable_laws.specs.Small.{IsSmall, HasInputs}

-- ---- marks

-- the marks of conditions that no prover was asked for: `-` for each
abbrev pub unmarked : List ConditionTree → Marks
unmarked cs = record { letters = replicate (length cs) 45; asked = [] }

-- marks that may stand behind conditions: `-` or a letter for each, and counts for provers' letters
pub record MayMark (cs : List ConditionTree) (marks : Marks) : Type 0 where
  pub count : length marks.letters ≡ length cs
  pub letters : list_all is_mark marks.letters ≡ true
  pub asked : All IsAsked marks.asked

-- `-` for each may stand behind all conditions
abbrev pub UnmarkedAreMarks : Type 0
UnmarkedAreMarks = (cs : List ConditionTree) → MayMark cs (unmarked cs)

-- ---- accepted decks

-- The conditions of an accepted deck, whose program is within the limits on sizes, can be read back from their
-- text with the definitions of the deck: where its cards have small numbers, its statements name few labels,
-- and the INPUT of each unit has a term.
abbrev pub SmallConditionsAreReadable : Type 0
SmallConditionsAreReadable =
    (dialect : Dialect) (deck : Deck) (r : Remarks) (p : Program) (paths : List (List Path)) → IsAcceptedAs dialect deck r p paths → IsWithinLimits p paths → IsSmall p → HasInputs p
    → (marks : Marks) → MayMark (conditions_of p paths) marks → IsReadable p.functions (conditions_of p paths) marks

-- ---- accepted bytes

-- the conditions of bytes that are accepted can be read back from their text, with the definitions of the deck and with any marks
abbrev pub ConditionsInAreReadable : Type 0
ConditionsInAreReadable =
    (d : Dialect) (bytes : List ℕ) (deck : Deck) (r : Remarks) (p : Program) (paths : List (List Path))
    → IsAcceptedIn d bytes deck r p paths
    → (marks : Marks) → MayMark (conditions_of p paths) marks → IsReadable p.functions (conditions_of p paths) marks

-- so they can without marks
abbrev pub UnmarkedInAreReadable : Type 0
UnmarkedInAreReadable =
    (d : Dialect) (bytes : List ℕ) (deck : Deck) (r : Remarks) (p : Program) (paths : List (List Path))
    → IsAcceptedIn d bytes deck r p paths
    → IsReadable p.functions (conditions_of p paths) (unmarked (conditions_of p paths))

-- and what can be read back from that text is these conditions, with definitions that stand for the same, and these marks
abbrev pub TextTellsConditions : Type 0
TextTellsConditions =
    (d : Dialect) (bytes : List ℕ) (deck : Deck) (r : Remarks) (p : Program) (paths : List (List Path))
    → IsAcceptedIn d bytes deck r p paths
    → (marks : Marks) → MayMark (conditions_of p paths) marks
    → (es : List Function) (cs : List ConditionTree) (others : Marks) → IsReadable es cs others
    → event_text p.functions (conditions_of p paths) marks ≡ event_text es cs others
    → AreAlike p.functions es (conditions_of p paths) cs marks others
