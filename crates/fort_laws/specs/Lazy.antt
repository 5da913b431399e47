-- What a lazy processor does where a strict one ends.
use Rattle.std.specs.Prelude.{◌≡◌, ℕ, ◌+◌, true, false, List, Some, slice_get}
use Rattle.formula.specs.declared.value.Cell.{Cell}
use Rattle.fort_syntax.specs.declared.unit.DataName.{DataName}
use Rattle.fort_syntax.specs.declared.unit.Unit.{Unit as Routine}
use Rattle.fort_model.specs.Fits.{IsVisible, IsApart, HasShape}
use Rattle.fort_model.specs.Outcome.{Ended}
use Rattle.fort_model.specs.Processor.{Processor}
use Rattle.fort_model.specs.Run.{run}
use Rattle.fort_model.specs.Storage.{Storage, Environment}
use Rattle.fort_laws.specs.Frame.{AreSound, FunctionsSmashNothing}

-- the lazy processor that is otherwise as this one
abbrev pub lazy_one : Processor → Processor
lazy_one p = record { dialect = p.dialect; least = p.least; greatest = p.greatest; lazy = true; copies = p.copies }

-- where a run of a strict processor ends, that of the lazy one ends with the same value and storage, from any stock of
-- steps that is not smaller, and uses no more of it
abbrev pub LazyRunsFollowStrictOnes : Type 0
LazyRunsFollowStrictOnes =
    (units : List Routine) → AreSound units → FunctionsSmashNothing units
    → (p : Processor) → p.lazy ≡ false
    → (i : ℕ) (u : Routine) (env : Environment) (st : Storage) (n : ℕ) → slice_get units i ≡ Some u
    → IsApart units i u env → ((d : DataName) → IsVisible u d → HasShape env st d)
    → (v : Cell) (after : Storage) (left : ℕ) → run p units u env st n ≡ Ended v after left
    → (m : ℕ) → (spare : ℕ) × (run (lazy_one p) units u env st (n + m) ≡ Ended v after (left + m + spare))
