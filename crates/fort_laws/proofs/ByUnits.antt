-- Rules that are judged by the units of a program alone.
use Rattle.std.proofs.Common.{◌≡◌, ℕ, zero, suc, List, subst}
use Rattle.fort_syntax.specs.declared.rule.Rule.{Rule}
use Rattle.fort_syntax.specs.declared.rule.Rule.TheVariants.{UnitTwice, UnknownUnit, Recursion, BadArguments, BlockMissing}
use Rattle.fort_syntax.specs.declared.unit.Unit.{Unit as Routine}
use Rattle.fort_model.specs.Lists.{IsAmong}
use Rattle.fort_model.specs.Program.{Program}
use Rattle.fort_model.specs.Rules.{Breaks, IsBroken}
use Rattle.fort_model.specs.Stages.{rules_of_calls}
use Rattle.fort_laws.specs.Judged.{CallsAreJudgedByUnits}

-- a program with other units
abbrev with_units : Program → List Routine → Program
with_units p units = record p { units = units }

-- what a rule says at a unit is a matter of the units alone
record IsOfUnits (rule : Rule) : Type 0 where
  breaks : (p q : Program) (units : List Routine) (i : ℕ) (u : Routine) (card : ℕ) → Breaks (with_units p units) rule i u card → Breaks (with_units q units) rule i u card

broken_alike : (rule : Rule) → IsOfUnits rule → (p q : Program) → p.units ≡ q.units → (i card : ℕ) → IsBroken p rule i card → IsBroken q rule i card
broken_alike rule h p q e i card b =
    subst (λ (units : List Routine). IsBroken (with_units q units) rule i card) e
    (record { unit = b.unit; is_unit = b.is_unit; breaks = h.breaks p q p.units i b.unit card b.breaks })

of_calls : (rule : Rule) → IsAmong rule rules_of_calls → IsOfUnits rule
of_calls rule (zero, e) = let f : UnitTwice ≡ rule = cc in subst IsOfUnits f (record { breaks = λ p q units i u card b. b })
of_calls rule (suc zero, e) = let f : UnknownUnit ≡ rule = cc in subst IsOfUnits f (record { breaks = λ p q units i u card b. b })
of_calls rule (suc (suc zero), e) =
    let f : Recursion ≡ rule = cc in subst IsOfUnits f (record { breaks = λ p q units i u card b. record { is_card = b.is_card; way = b.way } })
of_calls rule (suc (suc (suc zero)), e) = let f : BadArguments ≡ rule = cc in subst IsOfUnits f (record { breaks = λ p q units i u card b. b })
of_calls rule (suc (suc (suc (suc zero))), e) = let f : BlockMissing ≡ rule = cc in subst IsOfUnits f (record { breaks = λ p q units i u card b. b })
of_calls rule (suc (suc (suc (suc (suc k)))), e) = absurd cc

pub calls_are_judged_by_units : CallsAreJudgedByUnits
calls_are_judged_by_units p q e rule m i card b = broken_alike rule (of_calls rule m) p q e i card b
