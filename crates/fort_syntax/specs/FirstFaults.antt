-- Which of several broken rules is told: the first one, by stage, card and number.
use Rattle.std.specs.Prelude.{ℕ, ◌<◌, ◌≤◌, ◌≡◌, ◌⊎◌, List, Option, Some, None}
use Rattle.fort_syntax.specs.Rules.{rule_number}
use Rattle.fort_syntax.specs.declared.refusal.Fault.{Fault}
use Rattle.fort_syntax.specs.declared.rule.Rule.{Rule}
use Rattle.fort_syntax.specs.declared.rule.Rule.TheVariants.{TooLong, BadByte, BadLabel, NoInitial, ManyCards, BadNoteCard, Excluded, BadStatement, RealConstant, BigNumber, TooDeep, StatementOrder, NoHead, NoEnd, NameTwice, ImplicitReal, BadDimension, BadUse, BadType, BadSubscript, LabelTwice, NoLabel, BadResult, BlocksDiffer, BadAdjustable, BadLastOfDo, CrossedDo, JumpIntoDo, DoSmashed, FallsOffEnd, UncutCycle, BadNote, NoInputOrOutput, UnknownNoteName, OutputNamesLocal, ClockLength, UnitTwice, UnknownUnit, Recursion, BadArguments, SmashedNotName, SmashedTwice, SmashedCommon, BlockMissing, FunctionSmashes, ManyPaths, ManyConditions, Heavy, DimensionSmashed, BadBlockIf}

-- ---- one stage

-- a fault stands before another, or is it: its card is less, or it is the same and its rule's number is at most the other's
abbrev pub IsAtMost : Rule → ℕ → Rule → ℕ → Type 0
IsAtMost rule card other at = (card < at) ⊎ ((card ≡ at) × (rule_number rule ≤ rule_number other))

-- of the rules that are broken, each at some cards, a fault is the least: on the least card, and there of the least number
abbrev pub IsLeastFault : (Rule → ℕ → Type 0) → Fault → Type 0
IsLeastFault is_broken f = is_broken f.rule f.card × ((rule : Rule) (card : ℕ) → is_broken rule card
    → IsAtMost f.rule f.card rule card)

-- no rule is broken
abbrev pub AreKept : (Rule → ℕ → Type 0) → Type 0
AreKept is_broken = (rule : Rule) (card : ℕ) → ¬ is_broken rule card

-- the least fault, or that no rule is broken
abbrev pub TellsLeast : (Rule → ℕ → Type 0) → Option Fault → Type 0
TellsLeast is_broken None = AreKept is_broken
TellsLeast is_broken (Some f) = IsLeastFault is_broken f

-- ---- stages

-- Rules are judged in stages, one where all rules of those before it are kept: on cards, on the texts of
-- statements, on the order of statements, on block IFs, on declarations, on uses, on types, on notes, on which
-- unit is called, on what calls change, on the flow of a unit, on ways round, and on sizes.
abbrev pub stage_of : Rule → ℕ
stage_of TooLong = 1
stage_of BadByte = 1
stage_of BadLabel = 1
stage_of NoInitial = 1
stage_of ManyCards = 1
stage_of BadNoteCard = 1
stage_of (Excluded word) = 2
stage_of BadStatement = 2
stage_of RealConstant = 2
stage_of BigNumber = 2
stage_of TooDeep = 2
stage_of StatementOrder = 3
stage_of NoHead = 3
stage_of NoEnd = 3
stage_of BadBlockIf = 4
stage_of NameTwice = 5
stage_of ImplicitReal = 5
stage_of BadDimension = 5
stage_of BlocksDiffer = 5
stage_of BadAdjustable = 5
stage_of BadUse = 6
stage_of BadSubscript = 6
stage_of LabelTwice = 6
stage_of NoLabel = 6
stage_of BadResult = 6
stage_of BadType = 7
stage_of BadNote = 8
stage_of NoInputOrOutput = 8
stage_of UnknownNoteName = 8
stage_of OutputNamesLocal = 8
stage_of UnitTwice = 9
stage_of UnknownUnit = 9
stage_of Recursion = 9
stage_of BadArguments = 9
stage_of BlockMissing = 9
stage_of SmashedNotName = 10
stage_of SmashedTwice = 10
stage_of SmashedCommon = 10
stage_of FunctionSmashes = 10
stage_of DimensionSmashed = 10
stage_of BadLastOfDo = 11
stage_of CrossedDo = 11
stage_of JumpIntoDo = 11
stage_of ClockLength = 11
stage_of DoSmashed = 12
stage_of FallsOffEnd = 12
stage_of UncutCycle = 12
stage_of ManyPaths = 13
stage_of ManyConditions = 13
stage_of Heavy = 13

-- of the rules that are broken a fault is the first: no rule of an earlier stage is broken, and in its own stage it is the least
pub record IsFirstOf (is_broken : Rule → ℕ → Type 0) (f : Fault) : Type 0 where
  pub broken : is_broken f.rule f.card
  pub earliest : (rule : Rule) (card : ℕ) → is_broken rule card → stage_of f.rule ≤ stage_of rule
  pub least : (rule : Rule) (card : ℕ) → is_broken rule card → stage_of rule ≡ stage_of f.rule → IsAtMost f.rule f.card rule card

-- the first fault, or that no rule is broken
abbrev pub TellsFirst : (Rule → ℕ → Type 0) → Option Fault → Type 0
TellsFirst is_broken None = AreKept is_broken
TellsFirst is_broken (Some f) = IsFirstOf is_broken f

-- a card breaks the rule on excluded words by one word at most
abbrev pub HasOneWord : (Rule → ℕ → Type 0) → Type 0
HasOneWord is_broken = (card : ℕ) (v w : List ℕ) → is_broken (Excluded v) card → is_broken (Excluded w) card → v ≡ w
