-- The first fault of the first units of a program.
use Rattle.std.specs.Prelude.{◌≡◌, ℕ, ◌+◌, ◌<◌, List, length, Option, Some, None, slice_get}
use Rattle.fort_syntax.specs.FirstFaults.{TellsLeast}
use Rattle.fort_syntax.specs.declared.refusal.Fault.{Fault}
use Rattle.fort_syntax.specs.declared.rule.Rule.{Rule}
use Rattle.fort_syntax.specs.declared.unit.Unit.{Unit as Routine}
use Rattle.fort_model.specs.Lists.{IsAmong}
use Rattle.fort_model.specs.Program.{Program}
use Rattle.fort_model.specs.Rules.{IsBroken}
use Rattle.fort_model.specs.Stages.{IsBrokenOf, KeepsAll}
use Rattle.unit_faults.specs.Breaking.{BreaksOneOf}
use Rattle.unit_faults.specs.Sooner.{sooner}

-- a rule of these is broken at a card by one of the units before that of a number
pub record IsBrokenBefore (p : Program) (rules : List Rule) (n : ℕ) (rule : Rule) (card : ℕ) : Type 0 where
  pub among : IsAmong rule rules
  pub unit : ℕ
  pub before : unit < n
  pub broken : IsBroken p rule unit card

-- the first fault of those units, or that they keep the rules
abbrev pub TellsBefore : Program → List Rule → ℕ → Option Fault → Type 0
TellsBefore p rules n told = TellsLeast (IsBrokenBefore p rules n) told

-- before the first unit nothing is told
abbrev pub NoneBefore : Type 0
NoneBefore = (p : Program) (rules : List Rule) → TellsBefore p rules 0 None

-- with one unit more it is the sooner of what was told and of the first fault of that unit
abbrev pub OneMore : Type 0
OneMore =
    (p : Program) (rules : List Rule) (n : ℕ) (u : Routine) (told fault : Option Fault) → slice_get p.units n ≡ Some u
    → TellsBefore p rules n told → TellsLeast (BreaksOneOf p rules n u) fault → TellsBefore p rules (n + 1) (sooner told fault)

-- behind the last unit it is the first fault of all of them
abbrev pub AllBefore : Type 0
AllBefore =
    (p : Program) (rules : List Rule) (told : Option Fault) → TellsBefore p rules (length p.units) told
    → TellsLeast (IsBrokenOf p rules) told

-- where nothing is told, the program keeps the rules
abbrev pub KeptByAll : Type 0
KeptByAll = (p : Program) (rules : List Rule) → TellsLeast (IsBrokenOf p rules) None → KeepsAll p rules
