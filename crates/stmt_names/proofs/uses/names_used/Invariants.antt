use Rattle.std.proofs.Common.{◌≡◌, ◌++◌, drop}
use Rattle.fort_syntax.specs.Units.{names_used}
use Rattle.stmt_names.proofs.uses.names_used.Given as goal

abbrev pub invariant-loop-seen : goal.invariant-loop-seen
invariant-loop-seen l = (l.all.items ++ names_used (drop l.seen-index l.uses)) ≡ names_used l.uses
