-- Which errors runs of whole units come to before their first cut point.
use Rattle.std.specs.Prelude.{ℕ, ◌+◌, ◌≡◌, List}
use Rattle.formula.specs.declared.value.Cell.TheVariants as cell
use Rattle.formula.specs.declared.value.Value.{Value}
use Rattle.formula.specs.declared.value.Value.TheVariants.{Int}
use Rattle.fort_syntax.specs.declared.condition.Kind.{Kind}
use Rattle.fort_syntax.specs.declared.name.Name.{Name}
use Rattle.fort_syntax.specs.declared.unit.Unit.{Unit as Routine}
use Rattle.fort_model.specs.Conditions.{sight}
use Rattle.fort_model.specs.Correct.{IsMet, names_hold}
use Rattle.fort_model.specs.Fits.{IsApart, Fits}
use Rattle.fort_model.specs.Fitting.{FitsUnit}
use Rattle.fort_model.specs.Outcome.{Erred}
use Rattle.fort_model.specs.Paths.{IsWayIn}
use Rattle.fort_model.specs.Processor.{Processor}
use Rattle.fort_model.specs.Program.{Program, notes_of}
use Rattle.fort_model.specs.Run.{run}
use Rattle.fort_model.specs.Seen.{Answers}
use Rattle.fort_model.specs.Senses.{of_values}
use Rattle.fort_model.specs.Storage.{Storage, Environment}
use Rattle.fort_model.specs.Symbols.{Symbol, LeastInteger, GreatestInteger, AtEntry}
use Rattle.fort_model.specs.Walk.{from_entry, walk}
use Rattle.fort_laws.specs.CallLaw.{LieApart}
use Rattle.fort_laws.specs.Errors.{IsRunError, IsInOrder, AreGood}
use Rattle.fort_laws.specs.Matches.{FirstFails}

-- symbols of the entry of a unit stand for the processor's bounds, and for what names hold
pub record StandAtEntry (values : Symbol → Value) (p : Processor) (u : Routine) (env : Environment) (st : Storage) : Type 0 where
  pub least : values LeastInteger ≡ Int p.least
  pub greatest : values GreatestInteger ≡ Int p.greatest
  pub entries : (x : Name) → values (AtEntry x) ≡ names_hold u env st cell.Undefined x

-- a run of a unit errs with a check of some kind at a card, at each stock of steps that is enough
pub record UnitErrs (p : Processor) (program : Program) (u : Routine) (env : Environment) (st : Storage)
    (kind : Kind) (card : ℕ) : Type 0 where
  pub after : Storage
  pub cost : ℕ
  pub errs : (n : ℕ) → run p program.units u env st (cost + n) ≡ Erred kind card after

-- There are answers of calls, such that: where along a way from the entry to the next cut point a check of a
-- run error is the first false event, for these answers, it is the error of the run.
pub record ErrsAsWalksDo (p : Processor) (program : Program) (i : ℕ) (u : Routine) (env : Environment)
    (st : Storage) : Type 0 where
  pub answers : Answers Value
  pub errs : (values : Symbol → Value) → StandAtEntry values p u env st → (way : List (List ℕ))
      → IsWayIn program.dialect u (notes_of program i) way
      → (kind : Kind) (card : ℕ) → IsRunError kind → FirstFails kind card
      (from_entry (sight (of_values program.functions values) program i u) answers way)
      → UnitErrs p program u env st kind card

-- a unit that is in order, with notes that fit it and good statements, errs as walks do, from each storage that
-- fits, where smashed names lie apart and INPUT is met
abbrev pub UnitsErrAsWalksDo : Type 0
UnitsErrAsWalksDo =
    (program : Program) (p : Processor) (i : ℕ) (u : Routine) → IsInOrder program p i u → FitsUnit u (notes_of program i)
    → ((env : Environment) → LieApart program.units i u env → AreGood program i u env)
    → (env : Environment) (st : Storage) → IsApart program.units i u env → Fits p u env st
    → IsMet program.functions p (names_hold u env st cell.Undefined) (names_hold u env st cell.Undefined)
    (notes_of program i).input
    → ErrsAsWalksDo p program i u env st

-- For such a unit, let walks along a path from the entry have a check of a run error as their first false event, whatever calls
-- answer. Then the unit errs with it.
abbrev pub FailingPathsErr : Type 0
FailingPathsErr =
    (program : Program) (p : Processor) (i : ℕ) (u : Routine) → IsInOrder program p i u → FitsUnit u (notes_of program i)
    → ((env : Environment) → LieApart program.units i u env → AreGood program i u env)
    → (env : Environment) (st : Storage) → IsApart program.units i u env → Fits p u env st
    → IsMet program.functions p (names_hold u env st cell.Undefined) (names_hold u env st cell.Undefined)
    (notes_of program i).input
    → (way : List (List ℕ)) → IsWayIn program.dialect u (notes_of program i) way → (kind : Kind) (card : ℕ) → IsRunError kind
    → ((values : Symbol → Value) → StandAtEntry values p u env st → FirstFails kind card
    (walk (sight (of_values program.functions values) program i u) (record { start = 0; choices = way })))
    → UnitErrs p program u env st kind card
