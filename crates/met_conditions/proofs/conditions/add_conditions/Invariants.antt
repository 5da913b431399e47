use Rattle.std.proofs.Common.{◌≡◌, ◌+◌, ◌++◌, [], drop}
use Rattle.met_conditions.specs.Numbered.{checks_in, conditions_at}
use Rattle.met_conditions.proofs.conditions.add_conditions.Given as goal

abbrev pub invariant-loop-event : goal.invariant-loop-event
invariant-loop-event l = record {
  left : l.checks + checks_in (drop l.event-index l.met) ≡ checks_in l.met;
  added : l.conditions.items ++ conditions_at l.along.unit l.along.path l.checks l.hyps.items (drop l.event-index l.met) ≡ l.fn.conditions.items ++ conditions_at l.along.unit l.along.path 0 [] l.met;
}
