-- The stages in which the rules on calls, storage and flow are judged, and the first fault of a stage.
use Rattle.std.specs.Prelude.{ℕ, List, [], ◌∷◌}
use Rattle.fort_syntax.specs.FirstFaults.{IsLeastFault}
use Rattle.fort_syntax.specs.declared.refusal.Fault.{Fault}
use Rattle.fort_syntax.specs.declared.rule.Rule.{Rule}
use Rattle.fort_syntax.specs.declared.rule.Rule.TheVariants.{BadLastOfDo, CrossedDo, JumpIntoDo, DoSmashed, FallsOffEnd, UncutCycle, ClockLength, UnitTwice, UnknownUnit, Recursion, BadArguments, SmashedNotName, SmashedTwice, SmashedCommon, BlockMissing, FunctionSmashes, DimensionSmashed}
use Rattle.fort_model.specs.Lists.{IsAmong}
use Rattle.fort_model.specs.Program.{Program}
use Rattle.fort_model.specs.Rules.{IsBroken, KeepsRule}

-- 37 to 40 and 44: which units there are, and what they call. These look at units alone.
abbrev pub rules_of_calls : List Rule
rules_of_calls = UnitTwice ∷ UnknownUnit ∷ Recursion ∷ BadArguments ∷ BlockMissing ∷ []

-- 41 to 43, 45 and 49: what calls smash. These look at the table of smashed names too.
abbrev pub rules_of_smashing : List Rule
rules_of_smashing = SmashedNotName ∷ SmashedTwice ∷ SmashedCommon ∷ FunctionSmashes ∷ DimensionSmashed ∷ []

-- 26 to 28 and 36: the ranges of DOs and blocks, and the clocks
abbrev pub rules_of_ranges : List Rule
rules_of_ranges = BadLastOfDo ∷ CrossedDo ∷ JumpIntoDo ∷ ClockLength ∷ []

-- 29 to 31: the flow
abbrev pub rules_of_flow : List Rule
rules_of_flow = DoSmashed ∷ FallsOffEnd ∷ UncutCycle ∷ []

-- a stage is judged where all before it are kept, by all units
abbrev pub rules_of_stages : List (List Rule)
rules_of_stages = rules_of_calls ∷ rules_of_smashing ∷ rules_of_ranges ∷ rules_of_flow ∷ []

-- a program keeps each rule of a list
abbrev pub KeepsAll : Program → List Rule → Type 0
KeepsAll p rules = (rule : Rule) → IsAmong rule rules → KeepsRule p rule

-- a rule of these is broken at a card by some unit
pub record IsBrokenOf (p : Program) (rules : List Rule) (rule : Rule) (card : ℕ) : Type 0 where
  pub among : IsAmong rule rules
  pub unit : ℕ
  pub broken : IsBroken p rule unit card

-- the first fault of some rules over all units: on the least card, and there of the least number
abbrev pub IsFirstBroken : Program → List Rule → Fault → Type 0
IsFirstBroken p rules fault = IsLeastFault (IsBrokenOf p rules) fault
