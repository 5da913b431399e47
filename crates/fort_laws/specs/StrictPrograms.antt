-- Soundness on strict processors: valid conditions make programs right.
use Rattle.std.specs.Prelude.{ℕ, ◌≡◌, ◌≢◌, false, List, Some, slice_get}
use Rattle.fort_syntax.specs.Conditions.{ConditionTree}
use Rattle.formula.specs.declared.value.Cell.TheVariants as cell
use Rattle.fort_syntax.specs.declared.unit.DataName.{DataName}
use Rattle.fort_syntax.specs.declared.unit.Line.{Line}
use Rattle.fort_syntax.specs.declared.unit.Role.TheVariants.{InCommon}
use Rattle.fort_syntax.specs.declared.unit.Unit.{Unit as Routine}
use Rattle.fort_model.specs.Calls.{Calls}
use Rattle.fort_model.specs.Conditions.{IsExact, AreValid}
use Rattle.fort_model.specs.Correct.{IsMet, names_hold, EndsWell}
use Rattle.fort_model.specs.Fits.{IsApart, Fits}
use Rattle.fort_model.specs.Fitting.{FitsUnit}
use Rattle.fort_model.specs.Lists.{IsAmong}
use Rattle.fort_model.specs.Processor.{Processor, MeetsBound}
use Rattle.fort_model.specs.Program.{Program, notes_of}
use Rattle.fort_model.specs.Rules.{KeepsRules}
use Rattle.fort_model.specs.Smashes.{HoldsSmashed}
use Rattle.fort_model.specs.Storage.{Storage, Environment}
use Rattle.fort_laws.specs.Called.{IsReferenceTo, IsCallTo}
use Rattle.fort_laws.specs.CallLaw.{HasNames}
use Rattle.fort_laws.specs.Declared.{AreDeclared}
use Rattle.fort_laws.specs.TypedStatements.{IsTypedStatement}
use Rattle.fort_laws.specs.WholeRuns.{BlocksAreCommon}
use Rattle.fort_laws.specs.Ways.{EndsByReturn}

-- what declarations give of a call: COMMON entities of both units have one type, and no data name of the caller has the called
-- unit's name
pub record CallIsDeclared {units : List Routine} {i j : ℕ} (c : Calls units i j) : Type 0 where
  pub commons : (d e : DataName) → IsAmong d c.callee.names → d.role ≡ InCommon → IsAmong e c.caller.names
      → e.name ≡ d.name → e.sort ≡ d.sort
  pub apart : (d : DataName) → IsAmong d c.caller.names → d.name ≢ c.callee.name

-- What is wanted of a unit beyond the rules: its names and blocks are in order; its notes fit it; RETURNs alone
-- lead to its end; and its statements are typed.
pub record IsReady (program : Program) (i : ℕ) (u : Routine) : Type 0 where
  pub names : HasNames u
  pub blocks : BlocksAreCommon u
  pub notes : FitsUnit u (notes_of program i)
  pub returns : EndsByReturn program.dialect u
  pub statements : (pc : ℕ) (line : Line) → slice_get u.lines pc ≡ Some line
      → IsTypedStatement u (IsReferenceTo program i u) (IsCallTo program i u) pc line.stmt

-- A program that keeps the rules, with its declarations in order and all units ready, and an exact list of
-- conditions that are valid: each unit, on each strict processor of the dialect that meets the bound, from each
-- storage that fits, where smashed names lie apart and INPUT is met, ends without error and meets OUTPUT.
abbrev pub StrictProgramsAreCorrect : Type 0
StrictProgramsAreCorrect =
    (program : Program) → KeepsRules program → HoldsSmashed program → AreDeclared program.units
    → ((i j : ℕ) (c : Calls program.units i j) → CallIsDeclared c)
    → ((i : ℕ) (u : Routine) → slice_get program.units i ≡ Some u → IsReady program i u)
    → (list : List ConditionTree) → IsExact program list → AreValid program.functions list
    → (p : Processor) (i : ℕ) (u : Routine) (env : Environment) (st : Storage)
    → p.lazy ≡ false → p.dialect ≡ program.dialect → MeetsBound p program.bound → slice_get program.units i ≡ Some u
    → IsApart program.units i u env → Fits p u env st
    → IsMet program.functions p (names_hold u env st cell.Undefined) (names_hold u env st cell.Undefined)
    (notes_of program i).input
    → EndsWell p program i u env st
