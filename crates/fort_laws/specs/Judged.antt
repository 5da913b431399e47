-- Rules that are judged by the units of a program alone.
use Rattle.std.specs.Prelude.{◌≡◌, ℕ}
use Rattle.fort_syntax.specs.declared.rule.Rule.{Rule}
use Rattle.fort_model.specs.Lists.{IsAmong}
use Rattle.fort_model.specs.Program.{Program}
use Rattle.fort_model.specs.Rules.{IsBroken}
use Rattle.fort_model.specs.Stages.{rules_of_calls}

-- the rules of calls are broken alike in programs with the same units, whatever their notes, definitions,
-- bounds, tables and dialects
abbrev pub CallsAreJudgedByUnits : Type 0
CallsAreJudgedByUnits =
    (p q : Program) → p.units ≡ q.units → (rule : Rule) → IsAmong rule rules_of_calls → (i card : ℕ)
    → IsBroken p rule i card → IsBroken q rule i card
