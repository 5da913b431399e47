-- The rules on units, 12 to 25 and 50, in the order in which they are judged, and the first fault of
-- statements that were read.
use Rattle.std.specs.Prelude.{Bool, false, cond, List, [], ◌∷◌, Option, Some, None}
use Rattle.fort_syntax.specs.CardRules.{fault_or}
use Rattle.fort_syntax.specs.Units.{Piece, statements, segments}
use Rattle.fort_syntax.specs.OrderRules.{Place, places, breaks_12, breaks_13, breaks_14, breaks_50}
use Rattle.fort_syntax.specs.NameRules.{breaks_15, breaks_16, breaks_17, breaks_24, breaks_25}
use Rattle.fort_syntax.specs.UseRules.{breaks_18, breaks_19, breaks_20, breaks_21, breaks_22, breaks_23}
use Rattle.fort_syntax.specs.declared.dialect.Dialect.{Dialect}
use Rattle.fort_syntax.specs.declared.refusal.Fault.{Fault}
use Rattle.fort_syntax.specs.declared.rule.Rule.{Rule}
use Rattle.fort_syntax.specs.declared.rule.Rule.TheVariants.{StatementOrder, NoHead, NoEnd, NameTwice, ImplicitReal, BadDimension, BadUse, BadType, BadSubscript, LabelTwice, NoLabel, BadResult, BlocksDiffer, BadAdjustable, BadBlockIf}
use Rattle.fort_syntax.specs.declared.unit.Line.{Line}

-- a statement breaks a rule on units
abbrev pub breaks : Rule → Place → Bool
breaks StatementOrder p = breaks_12 p
breaks NoHead p = breaks_13 p
breaks NoEnd p = breaks_14 p
breaks NameTwice p = breaks_15 p
breaks ImplicitReal p = breaks_16 p
breaks BadDimension p = breaks_17 p
breaks BadUse p = breaks_18 p
breaks BadType p = breaks_19 p
breaks BadSubscript p = breaks_20 p
breaks LabelTwice p = breaks_21 p
breaks NoLabel p = breaks_22 p
breaks BadResult p = breaks_23 p
breaks BlocksDiffer p = breaks_24 p
breaks BadAdjustable p = breaks_25 p
breaks BadBlockIf p = breaks_50 p
breaks rule p = false

-- on the order of statements, on block IFs, on declarations, on uses, and on types
abbrev pub order_rules : List Rule
order_rules = StatementOrder ∷ NoHead ∷ NoEnd ∷ []

abbrev pub block_rules : List Rule
block_rules = BadBlockIf ∷ []

abbrev pub name_rules : List Rule
name_rules = NameTwice ∷ ImplicitReal ∷ BadDimension ∷ BlocksDiffer ∷ BadAdjustable ∷ []

abbrev pub use_rules : List Rule
use_rules = BadUse ∷ BadSubscript ∷ LabelTwice ∷ NoLabel ∷ BadResult ∷ []

abbrev pub type_rules : List Rule
type_rules = BadType ∷ []

-- rules are judged in stages, and a stage only where the deck keeps the rules of all stages before it;
-- in each stage by number
abbrev pub stages : List (List Rule)
stages = order_rules ∷ block_rules ∷ name_rules ∷ use_rules ∷ type_rules ∷ []

-- the first of some rules that a statement breaks
abbrev pub first_broken : List Rule → Place → Option Rule
first_broken [] p = None
first_broken (rule ∷ rules) p = cond (breaks rule p) (Some rule) (first_broken rules p)

-- the first fault in a stage: on the least card, for statements come in the order of their cards, and
-- there of the rule of the least number
abbrev pub fault_in_stage : List Rule → List Place → Option Fault
fault_in_stage rules [] = None
fault_in_stage rules (p ∷ rest) = fault_or (first_broken rules p) p.line.card (fault_in_stage rules rest)

abbrev pub fault_before : Option Fault → Option Fault → Option Fault
fault_before (Some fault) later = Some fault
fault_before None later = later

abbrev pub fault_in_stages : List (List Rule) → List Place → Option Fault
fault_in_stages [] all = None
fault_in_stages (rules ∷ rest) all = fault_before (fault_in_stage rules all) (fault_in_stages rest all)

-- a deck without a statement has no head either
abbrev pub fault_of : Dialect → List Line → Option Fault
fault_of dialect [] = Some (record { rule = NoHead; card = 1 })
fault_of dialect (line ∷ lines) = fault_in_stages stages (places dialect (segments (line ∷ lines)))

-- the first fault of statements and notes that were read: that of the least stage, in it on the least
-- card, there of the rule of the least number
abbrev pub unit_fault : Dialect → List Piece → Option Fault
unit_fault dialect pieces = fault_of dialect (statements pieces)
