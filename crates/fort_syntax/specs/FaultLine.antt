-- The line of text that tells a fault.
use Rattle.std.specs.Prelude.{ℕ, List, [], ◌++◌, codes, decimal}
use Rattle.fort_syntax.specs.Rules.{rule_number, rule_name}
use Rattle.fort_syntax.specs.declared.refusal.Fault.{Fault}
use Rattle.fort_syntax.specs.declared.rule.Rule.{Rule}
use Rattle.fort_syntax.specs.declared.rule.Rule.TheVariants.{Excluded}

-- a blank and the word that is not served, where a rule has one
abbrev pub named_word : Rule → List ℕ
named_word (Excluded word) = codes " " ++ word
named_word rule = []

-- the number of the rule, its name and the card, as `REFUSED 7 Excluded REAL CARD 4`
abbrev pub fault_line : Fault → List ℕ
fault_line fault =
    codes "REFUSED " ++ decimal (rule_number fault.rule) ++ codes " " ++ rule_name fault.rule ++ named_word fault.rule
    ++ codes " CARD " ++ decimal fault.card ++ codes "\n"
