use Rattle.std.proofs.Common.{◌≡◌, ◌&&◌, drop}
use Rattle.std.specs.List.{list_all}
use Rattle.run_start.specs.Starts.{is_in_range}
use Rattle.run_start.proofs.judging.all_in_range.Given as goal

abbrev pub invariant-loop-entry : goal.invariant-loop-entry
invariant-loop-entry l = (l.all && list_all (λ g. list_all (is_in_range l.bounds) g.cells) (drop l.entry-index l.given)) ≡ list_all (λ g. list_all (is_in_range l.bounds) g.cells) l.given
