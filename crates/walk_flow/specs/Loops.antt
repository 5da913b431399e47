-- DOs that are tested, by the forks of a graph.
use Rattle.std.specs.Prelude.{◌≡◌, ℕ, List, [], ◌∷◌, Option, Some, None, slice_get}
use Rattle.fort_syntax.specs.declared.stmt.Param.{Param}
use Rattle.fort_syntax.specs.declared.stmt.Stmt.TheVariants.{Do}
use Rattle.fort_syntax.specs.declared.unit.Line.{Line}
use Rattle.fort_syntax.specs.declared.unit.Unit.{Unit as Routine}
use Rattle.fort_model.specs.Flow.{Loop}
use Rattle.fort_model.specs.Graphs.{AreTests}
use Rattle.fort_model.specs.declared.graph.Fork.{Fork}
use Rattle.walk_flow.specs.declared.loops.DoTest.{DoTest}
use Rattle.walk_flow.specs.declared.loops.NextTest.{NextTest}

-- a DO stands in a unit at its point
pub record IsLoopOf (u : Routine) (d : Loop) : Type 0 where
  pub line : Line
  pub label : ℕ
  pub first : Param
  pub stands : slice_get u.lines d.at ≡ Some line
  pub is : line.stmt ≡ Do label d.variable first d.last d.step

abbrev pub AreLoopsOf : Routine → List Loop → Type 0
AreLoopsOf u [] = Unit {0}
AreLoopsOf u (d ∷ ds) = IsLoopOf u d × AreLoopsOf u ds

-- what a DO is tested by
abbrev pub test_of : Loop → DoTest
test_of d = record { variable = d.variable; last = d.last; step = d.step }

-- the test of the first of some DOs, and where the tests of the others stand; none where there is no DO
abbrev pub IsNextTest : Routine → List Fork → ℕ → List Loop → Option NextTest → Type 0
IsNextTest u forks q [] r = r ≡ None
IsNextTest u forks q (d ∷ ds) r = (n : NextTest) × (r ≡ Some n) × (n.test ≡ test_of d) × AreTests forks q ds n.next
