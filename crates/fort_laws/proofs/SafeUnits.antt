-- Units of a program end, where the units that they call end well.
use Rattle.std.proofs.Common.{ℕ, ◌≤◌, List, [], ◌∷◌, suc, refl, subst}
use Rattle.formula.specs.declared.value.Value.{Value}
use Rattle.fort_syntax.specs.declared.name.Name.{Name}
use Rattle.fort_syntax.specs.declared.stmt.Dim.{Dim}
use Rattle.fort_syntax.specs.declared.stmt.Dim.TheVariants.{Fixed, Named as Adjustable}
use Rattle.fort_syntax.specs.declared.unit.DataName.{DataName}
use Rattle.fort_syntax.specs.declared.unit.Unit.{Unit as Routine}
use Rattle.fort_model.specs.Lists.{IsAmong}
use Rattle.fort_model.specs.Processor.{Processor}
use Rattle.fort_model.specs.Seen.{Named}
use Rattle.fort_model.specs.Storage.{Storage, Environment}
use Rattle.fort_model.specs.Walk.{at_entry, smashed_in_order}
use Rattle.fort_laws.specs.CallLaw.{at_home}
use Rattle.fort_laws.specs.Frame.{IsSoundUnit}
use Rattle.fort_laws.specs.GoodStatements.{Stood, DimsAreScalars, HasScalarDims}
use Rattle.fort_laws.specs.Segments.{seen}
use Rattle.fort_laws.specs.UnitLaw.{SmashedHaveTypes, SafeUnitsEnd}
use Rattle.fort_laws.proofs.CallNames.{data_name_is}
use Rattle.fort_laws.proofs.CallStood.{stood_size, stood_sorts}
use Rattle.fort_laws.proofs.FewSymbols.{safe_paths_end}
use Rattle.fort_laws.proofs.FrameSeats.{found}
use Rattle.fort_laws.proofs.UnitCalls.{unit_calls_match}

pub smashed_have_types : SmashedHaveTypes
smashed_have_types values program p i u env least greatest sound is now st stood kept =
    stood_sorts program.units i u (sound.units_are i u is) p env st now stood program.functions values least greatest
    (smashed_in_order (seen program.functions values program i (at_home p program u env)))

-- adjustable dimensions are scalars of their unit
module _ (units : List Routine) (i : ℕ) (u : Routine) (sound : IsSoundUnit units i u) (p : Processor) (env : Environment) (st : Storage) (now : Named Value) (stood : Stood p u env now st) where
  scalars : (d : DataName) → IsAmong d u.names → (ds : List Dim) → ((x : Name) → IsAmong (Adjustable x) ds → IsAmong (Adjustable x) d.dims) → DimsAreScalars u env ds
  scalars d m [] among = tt
  scalars d m (Fixed n ∷ ds) among = scalars d m ds (λ x k. among x (suc k.0, k.1))
  scalars d m (Adjustable x ∷ ds) among =
      let a = sound.adjustables d x m (among x (0, refl)) in (
        (
          a.has.its,
          found units i u sound a.has.its a.has.among x a.has.name,
          subst (λ (z : Name). 1 ≤ (env z).size) a.has.name (stood_size units i u sound p env st now stood a.has.its a.has.among).0,
        ),
        scalars d m ds (λ y k. among y (suc k.0, k.1)),
      )

  pub scalar_dims : HasScalarDims u env
  scalar_dims y d e = scalars d (data_name_is u.names y d e).0 d.dims (λ x k. k)

pub safe_units_end : SafeUnitsEnd
safe_units_end values program p i u env least greatest strict bounded dialects is sound table blocks harmless common right apart good cut parts clocks safe st facts stood =
    let calls = unit_calls_match values program p i u env least greatest sound table blocks harmless right apart in
    safe_paths_end program.functions values program i (at_home p program u env) least greatest strict bounded dialects
    (scalar_dims program.units i u (sound.units_are i u is) p env st (at_entry (seen program.functions values program i (at_home p program u env))) stood)
    calls.0 calls.1 good cut table is common parts clocks safe (smashed_have_types values program p i u env least greatest sound is) st facts stood
