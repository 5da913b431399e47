-- What a flow is to its unit.
use Rattle.std.specs.Prelude.{◌≡◌, ℕ, ◌+◌, ◌*◌, ◌≤◌, List, length, take, Some, slice_get}
use Rattle.fort_syntax.specs.declared.dialect.Dialect.{Dialect}
use Rattle.fort_syntax.specs.declared.unit.Unit.{Unit as Routine}
use Rattle.fort_model.specs.declared.graph.Fork.{Fork}
use Rattle.fort_model.specs.declared.graph.Target.{Target}
use Rattle.fort_model.specs.Graphs.{AreTargetsOf, IsWithin}
use Rattle.flow_tests.specs.Growing.{AreFalling}

-- the targets of the statements of a unit, and forks: they lead within the unit and the forks, each fork to
-- lesser ones, and there are at most three forks for each statement
pub record IsFlowOf (dialect : Dialect) (u : Routine) (forks : List Fork) (starts : List Target) : Type 0 where
  pub targets : AreTargetsOf dialect u forks 0 u.lines starts
  pub within : (pc : ℕ) (t : Target) → slice_get starts pc ≡ Some t → IsWithin (length u.lines) (length forks) t
  pub falling : AreFalling (length u.lines) forks
  pub few : length forks ≤ 3 * length u.lines

-- the same for so many first statements
pub record AreStarts (dialect : Dialect) (u : Routine) (count : ℕ) (forks : List Fork) (starts : List Target) : Type 0 where
  pub targets : AreTargetsOf dialect u forks 0 (take count u.lines) starts
  pub within : (pc : ℕ) (t : Target) → slice_get starts pc ≡ Some t → IsWithin (length u.lines) (length forks) t
  pub few : length forks ≤ length u.lines + 2 * count
