-- What is claimed of runs to a depth, and of the calls that they make.
use Rattle.std.proofs.Common.{◌≡◌, ℕ, Bool, List, Some, slice_get}
use Rattle.fort_syntax.specs.Names.{unit_at}
use Rattle.fort_syntax.specs.declared.unit.DataName.{DataName}
use Rattle.fort_syntax.specs.declared.unit.Line.{Line}
use Rattle.fort_syntax.specs.declared.unit.Unit.{Unit as Routine}
use Rattle.fort_model.specs.Calls.{CallSite, sites_of, callee_of}
use Rattle.fort_model.specs.Fits.{IsVisible, IsApart, HasShape}
use Rattle.fort_model.specs.Lists.{IsAmong}
use Rattle.fort_model.specs.Passing.{Taken, passed, call}
use Rattle.fort_model.specs.Processor.{Processor}
use Rattle.fort_model.specs.Run.{run_within}
use Rattle.fort_model.specs.Storage.{Storage, Environment}
use Rattle.fort_laws.specs.Actuals.{IsPart, AreTakenAs}
use Rattle.fort_laws.specs.Frame.{IsPlaced, IsSmashedCell, Changes}
use Rattle.fort_laws.proofs.FrameParts.{IsOpen}

-- a call in the text of a unit
pub record IsCalled (u : Routine) (site : CallSite) : Type 0 where
  pub line : Line
  pub is_line : IsAmong line u.lines
  pub is_site : IsAmong site (sites_of u line.stmt)

abbrev pub RunFrame : List Routine → Processor → ℕ → Type 0
RunFrame units p fuel =
    (i : ℕ) (u : Routine) (env : Environment) (st : Storage) (n : ℕ) → slice_get units i ≡ Some u → IsApart units i u env → ((d : DataName) → IsVisible u d → HasShape env st d)
    → Changes (IsSmashedCell units i u env) st (run_within p units fuel u env st n)

abbrev pub CallFrame : List Routine → Processor → ℕ → Type 0
CallFrame units p fuel =
    (i : ℕ) (u : Routine) (env : Environment) (st : Storage) → slice_get units i ≡ Some u → IsPlaced units i u env st
    → (site : CallSite) → IsCalled u site → (copies : ℕ → Bool) (xs : List Taken) → AreTakenAs env (IsPart u env) site.actuals xs → (n : ℕ)
    → Changes (IsOpen units i u env) st (call (run_within p units fuel) env (unit_at units (callee_of units site)) (passed copies 1 xs) st n)
