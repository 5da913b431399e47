-- Called units whose blocks a caller is known to declare.
use Rattle.std.specs.Prelude.{◌≡◌, ℕ, Bool, true, false, List, Some}
use Rattle.fort_model.specs.CallRules.{lacks_block, of_unit}
use Rattle.fort_syntax.specs.declared.unit.Unit.{Unit as Routine}
use Rattle.name_tables.specs.Labels.{is_known}
use Rattle.call_rules.specs.CallFaults.{program_of}

-- the unit of a number declares a block that a caller does not
abbrev pub unit_lacks : List Routine → Routine → ℕ → Bool
unit_lacks units u j = of_unit (program_of units) (Some j) (lacks_block u)

-- no unit of one of some numbers declares a block that a caller does not
pub record AreCleared (units : List Routine) (u : Routine) (numbers : List ℕ) : Type 0 where
  pub cleared : (j : ℕ) → is_known j numbers ≡ true → unit_lacks units u j ≡ false
