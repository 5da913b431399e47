use Rattle.std.proofs.Common.{length}
use Rattle.walk_names.proofs.NameTables.{GoesBack}
use Rattle.walk_names.proofs.names.Names.back.Given as goal

abbrev pub invariant-loop-entry : goal.invariant-loop-entry
invariant-loop-entry l = GoesBack l.fn.self l.self

abbrev pub decreases-loop-entry : goal.decreases-loop-entry
decreases-loop-entry l = length l.self.log
