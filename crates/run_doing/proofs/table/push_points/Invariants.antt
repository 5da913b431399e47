use Rattle.std.proofs.Common.{◌≡◌, ◌≤◌, ◌++◌, length, drop}
use Rattle.loop_tables.specs.Loops.{loops_told}
use Rattle.run_doing.specs.Rounds.{overs, tests_in}
use Rattle.run_doing.proofs.table.push_points.Given as goal

abbrev pub invariant-loop-at : goal.invariant-loop-at
invariant-loop-at l = record {
  long : length l.lines ≤ length l.table.over.items;
  behind : l.table.behind.items ≡ l.fn.table.behind.items;
  tests : l.table.tests.items ++ tests_in l.scope.names.now (loops_told l.lines (drop l.at-index l.points))
      ≡ l.fn.table.tests.items ++ tests_in l.scope.names.now (loops_told l.lines l.points);
  over : overs (length l.table.tests.items) (loops_told l.lines (drop l.at-index l.points)) l.table.over.items
      ≡ overs (length l.fn.table.tests.items) (loops_told l.lines l.points) l.fn.table.over.items;
}
