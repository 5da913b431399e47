-- The tests of DOs, while they are made.
use Rattle.std.specs.Prelude.{◌≡◌, ℕ, ◌<◌, ◌≤◌, Bool, true, nat_lt, List, [], length, take, Option, Some, None, slice_get}
use Rattle.fort_syntax.specs.Grammar.{is_carried}
use Rattle.fort_syntax.specs.TreePatterns.{carried}
use Rattle.fort_syntax.specs.declared.stmt.Stmt.{Stmt}
use Rattle.fort_syntax.specs.declared.stmt.Stmt.TheVariants.{LogicalIf', Do}
use Rattle.fort_syntax.specs.declared.unit.Line.{Line}
use Rattle.fort_syntax.specs.declared.unit.Unit.{Unit as Routine}
use Rattle.fort_model.specs.declared.graph.Fork.{Fork}
use Rattle.fort_model.specs.declared.graph.Target.{Target}
use Rattle.fort_model.specs.Flow.{target, loops_from, next_point}
use Rattle.fort_model.specs.Graphs.{AreTests, IsWithin}
use Rattle.flow_tests.specs.Growing.{AreFalling}

-- the last statement of a DO stands in the unit, and a logical IF carries a statement that it may carry
abbrev pub is_flowing : Routine → Stmt → Bool
is_flowing u (Do label x first last step) = nat_lt (target u.lines label) (length u.lines)
is_flowing u (LogicalIf' e _ (carried s)) = is_carried s
is_flowing u _ = true

-- so it is with each statement, and there are not too many
pub record IsFlowing (u : Routine) : Type 0 where
  pub each : (pc : ℕ) (line : Line) → slice_get u.lines pc ≡ Some line → is_flowing u line.stmt ≡ true
  pub few : length u.lines < 1073741824

-- the label of a DO
abbrev pub do_label : Stmt → Option ℕ
do_label (Do label x first last step) = Some label
do_label _ = None

-- ---- tests of DOs

-- the tests behind a point, of the DOs among the first statements
abbrev pub AreTestsOfFirst : Routine → ℕ → List Fork → ℕ → Target → Type 0
AreTestsOfFirst u count forks q t = AreTests forks (next_point u q) (loops_from u.lines q 0 (take count u.lines) []) t

-- a target is where a DO at a point leads that is not entered: to the tests of the DOs before it with the same last statement
abbrev pub IsOver : Routine → List Fork → ℕ → Option ℕ → Target → Type 0
IsOver u forks pc None t = Unit {0}
IsOver u forks pc (Some label) t = AreTestsOfFirst u pc forks (target u.lines label) t

-- the label of a DO is that of a point
abbrev pub LeadsTo : Routine → Option ℕ → ℕ → Type 0
LeadsTo u None q = ⊥
LeadsTo u (Some label) q = target u.lines label ≡ q

-- the tests are made of the DOs among so many first statements
pub record AreChains (u : Routine) (count : ℕ) (forks : List Fork) (behind over : List Target) : Type 0 where
  pub behind_long : length behind ≡ length u.lines
  pub over_long : length over ≡ count
  pub few : length forks ≤ count
  pub falling : AreFalling (length u.lines) forks
  pub tests : (q : ℕ) (t : Target) → slice_get behind q ≡ Some t → AreTestsOfFirst u count forks q t
      × IsWithin (length u.lines) (length forks) t
  pub overs : (q : ℕ) (t : Target) (line : Line) → slice_get over q ≡ Some t → slice_get u.lines q ≡ Some line
      → IsOver u forks q (do_label line.stmt) t × IsWithin (length u.lines) (length forks) t
