-- Total correctness.
use Rattle.std.specs.Prelude.{◌≡◌, ℕ, List, [], ◌∷◌, Option, Some, None, slice_get, IsTrue, map}
use Rattle.std.specs.List.{list_all}
use Rattle.fort_syntax.specs.Names.{data_name}
use Rattle.formula.specs.declared.value.Cell.{Cell}
use Rattle.formula.specs.declared.value.Cell.TheVariants as cell
use Rattle.formula.specs.declared.value.Value.{Value}
use Rattle.formula.specs.declared.value.Value.TheVariants.{Int, Undefined, Cells}
use Rattle.formula.specs.Tree.{Tree}
use Rattle.formula.specs.Values.{holds, of_cell}
use Rattle.formula.specs.Worth.{Function}
use Rattle.fort_syntax.specs.declared.name.Name.{Name}
use Rattle.fort_syntax.specs.declared.stmt.Dim.{Dim}
use Rattle.fort_syntax.specs.declared.unit.DataName.{DataName}
use Rattle.fort_syntax.specs.declared.unit.Role.{Role}
use Rattle.fort_syntax.specs.declared.unit.Role.TheVariants.{Dummy, InCommon, OwnValue, Local}
use Rattle.fort_syntax.specs.declared.unit.Unit.{Unit as Routine}
use Rattle.fort_model.specs.Processor.{Processor, MeetsBound}
use Rattle.fort_model.specs.Storage.{Storage, Environment, Extent, load, contents}
use Rattle.fort_model.specs.Outcome.{Ended}
use Rattle.fort_model.specs.Run.{run}
use Rattle.fort_model.specs.Program.{Program, notes_of}
use Rattle.fort_model.specs.Symbols.{Symbol, LeastInteger, GreatestInteger}
use Rattle.fort_model.specs.Senses.{of_values, note}
use Rattle.fort_model.specs.Fits.{IsApart, Fits}

-- ---- what names stand for in a note

-- a scalar stands for what its cell holds, an array for the list of its cells
abbrev pub held_in : List Dim → Storage → Extent → Value
held_in [] st e = of_cell (load st e.first)
held_in (d ∷ ds) st e = Cells (contents st e.first e.size)

abbrev pub held_by : Role → List Dim → Storage → Extent → Cell → Value
held_by Dummy dims st e own = held_in dims st e
held_by InCommon dims st e own = held_in dims st e
held_by OwnValue dims st e own = of_cell own
held_by Local dims st e own = Undefined

abbrev pub held_as : Option DataName → Storage → Extent → Cell → Value
held_as None st e own = Undefined
held_as (Some d) st e own = held_by d.role d.dims st e own

-- dummies and COMMON entities stand for the contents of their cells, and a FUNCTION's name for its value
abbrev pub names_hold : Routine → Environment → Storage → Cell → Name → Value
names_hold u env st own x = held_as (data_name u x) st (env x) own

-- LEAST and GREATEST are the processor's
abbrev pub bounds_of : Processor → Symbol → Value
bounds_of p LeastInteger = Int p.least
bounds_of p GreatestInteger = Int p.greatest
bounds_of p _ = Undefined

-- no term of a note is false, by what names stand for at the entry and now
abbrev pub IsMet : List Function → Processor → (Name → Value) → (Name → Value) → List Tree → Type 0
IsMet fs p entry now ts = IsTrue (list_all holds (map (note (of_values fs (bounds_of p)) entry now) ts))

-- ---- the claim

-- with some number of steps a run ends, and OUTPUT is met by the storage and the value that it ends with
pub record EndsWell (p : Processor) (program : Program) (i : ℕ) (u : Routine) (env : Environment) (st : Storage) : Type 0 where
  pub steps : ℕ
  pub spare : ℕ
  pub storage : Storage
  pub value : Cell
  pub ended : run p program.units u env st steps ≡ Ended value storage spare
  pub met : IsMet program.functions p (names_hold u env st cell.Undefined) (names_hold u env storage value)
      (notes_of program i).output

-- A program is totally correct: each unit, on each processor of the dialect that meets the bound, from each storage that
-- fits, where the names that the unit smashes lie apart and INPUT is met, ends without error and meets OUTPUT.
abbrev pub IsTotallyCorrect : Program → Type 0
IsTotallyCorrect program =
    (p : Processor) (i : ℕ) (u : Routine) (env : Environment) (st : Storage)
    → p.dialect ≡ program.dialect → MeetsBound p program.bound → slice_get program.units i ≡ Some u
    → IsApart program.units i u env → Fits p u env st
    → IsMet program.functions p (names_hold u env st cell.Undefined) (names_hold u env st cell.Undefined)
    (notes_of program i).input
    → EndsWell p program i u env st
