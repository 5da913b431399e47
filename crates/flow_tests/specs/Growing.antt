-- How a list of forks grows.
use Rattle.std.specs.Prelude.{◌≡◌, ℕ, ◌+◌, ◌≤◌, List, length, Some, slice_get}
use Rattle.fort_model.specs.declared.graph.Fork.{Fork}
use Rattle.fort_model.specs.declared.graph.Target.{Target}
use Rattle.fort_model.specs.Graphs.{IsWithin}
use Rattle.fort_model.specs.Lists.{IsAmong}

-- the forks of one list stand in another where they stood
pub record Extends (old new : List Fork) : Type 0 where
  pub stays : (k : ℕ) (f : Fork) → slice_get old k ≡ Some f → slice_get new k ≡ Some f

-- each fork leads to points of a unit of so many statements, and to lesser forks
pub record AreFalling (size : ℕ) (forks : List Fork) : Type 0 where
  pub falls : (k : ℕ) (f : Fork) (t : Target) → slice_get forks k ≡ Some f → IsAmong t f.targets → IsWithin size k t

-- targets are points of a unit of so many statements, or some of so many forks
pub record AreWithin (size count : ℕ) (targets : List Target) : Type 0 where
  pub each : (t : Target) → IsAmong t targets → IsWithin size count t

-- forks have grown by so many at most, to lead on from a target
pub record Grown (size most : ℕ) (old new : List Fork) (t : Target) : Type 0 where
  pub extends : Extends old new
  pub falling : AreFalling size new
  pub within : IsWithin size (length new) t
  pub longer : length old ≤ length new
  pub few : length new ≤ length old + most
