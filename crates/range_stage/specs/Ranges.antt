-- What is told of the ranges and clocks of all units.
use Rattle.std.specs.Prelude.{◌≡◌, List, map, Option}
use Rattle.formula.specs.declared.node.Node.{Node}
use Rattle.fort_syntax.specs.FirstFaults.{TellsLeast}
use Rattle.fort_syntax.specs.declared.refusal.Fault.{Fault}
use Rattle.fort_syntax.specs.declared.unit.Unit.{Unit as Routine}
use Rattle.fort_notes.specs.Assertions.{notes_tree}
use Rattle.fort_notes.specs.declared.notes.UnitSpec.{UnitSpec}
use Rattle.fort_model.specs.Program.{Program}
use Rattle.fort_model.specs.Stages.{IsBrokenOf, rules_of_ranges}

-- a program has these units and these notes, whatever terms the notes stand for
pub record IsOfUnits (units : List Routine) (specs : List UnitSpec) (p : Program) : Type 0 where
  pub units_are : p.units ≡ units
  pub pool : List Node
  pub notes_are : p.notes ≡ map (notes_tree pool) specs

-- the first fault of every program of some units with some notes, or that each of them keeps the rules
abbrev pub TellsAllRanges : List Routine → List UnitSpec → Option Fault → Type 0
TellsAllRanges units specs told = (p : Program) → IsOfUnits units specs p → TellsLeast (IsBrokenOf p rules_of_ranges) told
