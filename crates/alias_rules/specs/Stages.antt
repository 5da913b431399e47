-- The first fault of the rules on calls and on smashed names.
use Rattle.std.specs.Prelude.{◌≡◌, ◌⊎◌, List}
use Rattle.fort_syntax.specs.declared.name.Name.{Name}
use Rattle.fort_syntax.specs.declared.refusal.Fault.{Fault}
use Rattle.fort_syntax.specs.declared.unit.Unit.{Unit as Routine}
use Rattle.fort_model.specs.Program.{Program}
use Rattle.fort_model.specs.SmashTables.{IsSmashTable}
use Rattle.fort_model.specs.Stages.{IsFirstBroken, KeepsAll, rules_of_calls, rules_of_smashing}

-- some units have a table of smashed names, and with it a fault is the first of the rules on smashed names, in
-- every program of them
pub record IsSmashFault (units : List Routine) (fault : Fault) : Type 0 where
  pub table : List (List Name)
  pub is_table : (p : Program) → p.units ≡ units → p.smashes ≡ table → IsSmashTable p
  pub first : (p : Program) → p.units ≡ units → p.smashes ≡ table → IsFirstBroken p rules_of_smashing fault

-- every program of some units keeps the rules on calls
abbrev pub KeepCalls : List Routine → Type 0
KeepCalls units = (p : Program) → p.units ≡ units → KeepsAll p rules_of_calls

-- a fault is the first of the rules on calls; or these are kept, and it is the first of those on smashed names
abbrev pub IsAliasFault : List Routine → Fault → Type 0
IsAliasFault units fault = ((p : Program) → p.units ≡ units → IsFirstBroken p rules_of_calls fault)
    ⊎ (KeepCalls units × IsSmashFault units fault)
