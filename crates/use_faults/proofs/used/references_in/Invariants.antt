use Rattle.std.proofs.Common.{◌≡◌, ◌++◌, drop}
use Rattle.unit_scope.specs.Scoping.{scope_by}
use Rattle.fort_syntax.specs.Units.{references_in}
use Rattle.use_faults.proofs.used.references_in.Given as goal

abbrev pub invariant-loop-seen : goal.invariant-loop-seen
invariant-loop-seen l = (l.all.items ++ references_in (scope_by l.scope) (drop l.seen-index l.uses)) ≡ references_in (scope_by l.scope) l.uses
