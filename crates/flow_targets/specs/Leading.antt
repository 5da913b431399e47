-- What is known while the targets of a unit are made.
use Rattle.std.specs.Prelude.{◌≡◌, ℕ, ◌<◌, List, [], ◌∷◌, ◌++◌, length, Option, Some, None, slice_get}
use Rattle.fort_syntax.specs.declared.dialect.Dialect.{Dialect}
use Rattle.fort_syntax.specs.declared.stmt.Stmt.{Stmt}
use Rattle.fort_syntax.specs.declared.unit.Line.{Line}
use Rattle.fort_syntax.specs.declared.unit.Unit.{Unit as Routine}
use Rattle.fort_model.specs.declared.graph.Fork.{Fork}
use Rattle.fort_model.specs.declared.graph.Target.{Target}
use Rattle.fort_model.specs.Flow.{target, loops_around, next_point}
use Rattle.fort_model.specs.Graphs.{AreTests, IsBehind, IsDoTarget, IsForkTo, IsTargetOf, IsWithin}
use Rattle.unit_points.specs.Labels.{AreLabelsOf}
use Rattle.unit_points.specs.Turns.{AreTurnsOf}
use Rattle.flow_tests.specs.Growing.{AreFalling}
use Rattle.flow_tests.specs.Tests.{IsFlowing, do_label}
use Rattle.flow_targets.specs.declared.known.Known.{Known}

-- a target is where a DO at a point leads that is not entered
abbrev pub IsOverAt : Routine → List Fork → ℕ → Option ℕ → Target → Type 0
IsOverAt u forks pc None t = Unit {0}
IsOverAt u forks pc (Some label) t = AreTests forks (next_point u (target u.lines label))
    (loops_around u (target u.lines label) pc) t

-- labels are looked up
pub record LabelsAreKnown (k : Known) : Type 0 where
  pub labels : AreLabelsOf k.unit.now.lines k.labels
  pub few : length k.unit.now.lines < 1073741824

-- what is known of a unit, by forks
pub record IsKnown (k : Known) (forks : List Fork) : Type 0 where
  pub flowing : IsFlowing k.unit.now
  pub known : LabelsAreKnown k
  pub turns : AreTurnsOf k.unit.now k.turns
  pub falling : AreFalling (length k.unit.now.lines) forks
  pub behind_long : length k.behind.items ≡ length k.unit.now.lines
  pub over_long : length k.over.items ≡ length k.unit.now.lines
  pub tests : (q : ℕ) (t : Target) → slice_get k.behind.items q ≡ Some t → IsBehind k.unit.now forks q t
      × IsWithin (length k.unit.now.lines) (length forks) t
  pub overs : (q : ℕ) (t : Target) (line : Line) → slice_get k.over.items q ≡ Some t → slice_get k.unit.now.lines q ≡ Some line
      → IsOverAt k.unit.now forks q (do_label line.stmt) t × IsWithin (length k.unit.now.lines) (length forks) t

-- a fork to some targets, and behind them on behind the statement at a point
abbrev pub IsForkOn : Routine → List Fork → ℕ → List Target → Target → Type 0
IsForkOn u forks pc targets t = (on : Target) × IsForkTo forks t None (targets ++ on ∷ []) × IsBehind u forks pc on

-- a target is that of a logical IF at a point that carries a statement
abbrev pub IsLogicalTarget : Dialect → Routine → List Fork → ℕ → Stmt → Target → Type 0
IsLogicalTarget dialect u forks pc s t =
    (then : Target) × (on : Target) × IsForkTo forks t None (then ∷ on ∷ []) × IsTargetOf dialect u forks pc s then
    × IsBehind u forks pc on

-- a target is that of a DO of a label at a point
abbrev pub IsEntered : Dialect → Routine → List Fork → ℕ → Option ℕ → Target → Type 0
IsEntered dialect u forks pc None t = Unit {0}
IsEntered dialect u forks pc (Some label) t = IsDoTarget dialect u forks (target u.lines label) pc t
