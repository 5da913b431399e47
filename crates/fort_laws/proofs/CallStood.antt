-- Where named values stand for cells, names have their shapes and hold things of their types.
use Rattle.std.proofs.Common.{◌≡◌, ℕ, ◌+◌, ◌≤◌, pos, List, refl}
use Rattle.formula.specs.declared.value.Value.{Value}
use Rattle.formula.specs.declared.value.Value.TheVariants.{Int}
use Rattle.formula.specs.Worth.{Function}
use Rattle.fort_syntax.specs.declared.name.Name.{Name}
use Rattle.fort_syntax.specs.declared.unit.DataName.{DataName}
use Rattle.fort_syntax.specs.declared.unit.Unit.{Unit as Routine}
use Rattle.fort_model.specs.Correct.{held_in}
use Rattle.fort_model.specs.Events.{takes}
use Rattle.fort_model.specs.Fits.{HasShape}
use Rattle.fort_model.specs.Lists.{IsAmong}
use Rattle.fort_model.specs.Places.{dim_values, stretch}
use Rattle.fort_model.specs.Processor.{Processor}
use Rattle.fort_model.specs.Seen.{Named}
use Rattle.fort_model.specs.Senses.{of_values}
use Rattle.fort_model.specs.Storage.{Storage, Environment, load}
use Rattle.fort_model.specs.Symbols.{Symbol, LeastInteger, GreatestInteger}
use Rattle.fort_model.specs.WalkPlaces.{sorts}
use Rattle.fort_laws.specs.CallLaw.{HoldsName, LieApart}
use Rattle.fort_laws.specs.Frame.{IsPlaced, IsSoundUnit}
use Rattle.fort_laws.specs.GoodStatements.{Stood}
use Rattle.fort_laws.specs.Matches.{AllTrue}
use Rattle.fort_laws.proofs.CallSorts.{sorts_true}
use Rattle.fort_laws.proofs.FrameParts.{good_dims, size_positive}
use Rattle.fort_laws.proofs.FrameSeats.{found}
use Rattle.fort_laws.proofs.MatchedOperands.{maybe_holds}

module _ (units : List Routine) (i : ℕ) (u : Routine) (sound : IsSoundUnit units i u) (p : Processor) (env : Environment) (st : Storage) (now : Named Value) (stood : Stood p u env now st) where
  pub stood_named : (d : DataName) → IsAmong d u.names → now d.name ≡ held_in d.dims st (env d.name)
  stood_named d m = stood.standing.names d.name d (found units i u sound d m d.name refl)

  pub stood_sorted : (d : DataName) → IsAmong d u.names → HoldsName p env st d
  stood_sorted d m k lt = maybe_holds p d.sort (load st ((env d.name).first + k)) (stood.standing.sorts d.name d (found units i u sound d m d.name refl) k lt)

  pub stood_shape : (d : DataName) → IsAmong d u.names → HasShape env st d
  stood_shape d m =
      let is = found units i u sound d m d.name refl in
      record { within = stood.within d.name d is; size = stood.standing.sizes d.name d is; dims = stood.good d.name d is }

  pub stood_size : (d : DataName) → IsAmong d u.names → (1 ≤ (env d.name).size) × (pos (env d.name).size ≡ stretch (dim_values env st d.dims))
  stood_size d m =
      let shape = stood_shape d m in
      (size_positive (env d.name).size (dim_values env st d.dims) shape.size (good_dims env st d.dims (λ n k. sound.constants d n m k) shape.dims), shape.size)

  pub stood_placed : LieApart units i u env → IsPlaced units i u env st
  stood_placed apart = record { apart = apart; shapes = stood_shape }

  -- the types that a walk takes of names are true
  pub stood_sorts : (fs : List Function) (values : Symbol → Value) → values LeastInteger ≡ Int p.least → values GreatestInteger ≡ Int p.greatest → (xs : List Name)
      → AllTrue (takes (sorts (of_values fs values) u now xs))
  stood_sorts fs values least greatest xs = sorts_true fs values p least greatest units i u sound env st now stood_named stood_sorted stood_size xs
