use Rattle.std.proofs.Common.{◌≡◌, drop}
use Rattle.fort_syntax.specs.Units.{names_used}
use Rattle.name_tables.specs.Sets.{with_names}
use Rattle.use_faults.proofs.roles.add_used.Given as goal

abbrev pub invariant-loop-seen : goal.invariant-loop-seen
invariant-loop-seen l = with_names l.names (names_used (drop l.seen-index l.uses)) ≡ with_names l.initial.names (names_used l.uses)
