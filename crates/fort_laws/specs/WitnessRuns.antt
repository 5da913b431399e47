-- Units that may be run as soundness wants it.
use Rattle.std.specs.Prelude.{ℕ, ◌≡◌, false, Some, slice_get}
use Rattle.formula.specs.declared.value.Cell.TheVariants.{Undefined}
use Rattle.fort_syntax.specs.declared.unit.Unit.{Unit as Routine}
use Rattle.fort_model.specs.Correct.{IsMet, names_hold}
use Rattle.fort_model.specs.Fits.{IsApart, Fits}
use Rattle.fort_model.specs.Processor.{Processor, MeetsBound}
use Rattle.fort_model.specs.Program.{Program, notes_of}
use Rattle.fort_model.specs.Storage.{Storage, Environment}
use Rattle.fort_model.specs.VerdictRows.{rotate_program}
use Rattle.fort_laws.specs.Witnesses.{down_program}

-- All that soundness wants of a run of the unit of a number: a strict processor of the dialect that meets the bound, and a
-- storage that fits the unit, where smashed names lie apart and INPUT is met.
pub record MayRun (program : Program) (i : ℕ) : Type 0 where
  pub unit : Routine
  pub is_unit : slice_get program.units i ≡ Some unit
  pub processor : Processor
  pub strict : processor.lazy ≡ false
  pub dialects : processor.dialect ≡ program.dialect
  pub bounded : MeetsBound processor program.bound
  pub environment : Environment
  pub storage : Storage
  pub apart : IsApart program.units i unit environment
  pub fits : Fits processor unit environment storage
  pub met :
      IsMet program.functions processor (names_hold unit environment storage Undefined)
      (names_hold unit environment storage Undefined) (notes_of program i).input

abbrev pub LoopMayRun : Type 0
LoopMayRun = MayRun down_program 0

abbrev pub RotMayRun : Type 0
RotMayRun = MayRun rotate_program 0 × MayRun rotate_program 1
