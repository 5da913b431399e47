-- The stage of ranges and clocks for one unit.
use Rattle.std.specs.Prelude.{◌≡◌, ℕ, List, Option}
use Rattle.formula.specs.declared.node.Node.{Node}
use Rattle.fort_syntax.specs.FirstFaults.{TellsLeast}
use Rattle.fort_syntax.specs.declared.refusal.Fault.{Fault}
use Rattle.fort_syntax.specs.declared.unit.Unit.{Unit as Routine}
use Rattle.fort_notes.specs.Assertions.{notes_tree}
use Rattle.fort_notes.specs.declared.notes.UnitSpec.{UnitSpec}
use Rattle.fort_model.specs.Program.{Program, notes_of}
use Rattle.fort_model.specs.Stages.{rules_of_ranges}
use Rattle.unit_faults.specs.Breaking.{BreaksOneOf}

-- It is the first fault of this stage in the unit, or there is none: for every program in which the unit has
-- some number and these notes, whatever terms they stand for.
abbrev pub TellsRanges : Routine → UnitSpec → Option Fault → Type 0
TellsRanges u spec told =
    (p : Program) (i : ℕ) (pool : List Node) → notes_of p i ≡ notes_tree pool spec
    → TellsLeast (BreaksOneOf p rules_of_ranges i u) told
