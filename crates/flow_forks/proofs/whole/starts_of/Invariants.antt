use Rattle.flow_targets.specs.Leading.{IsKnown}
use Rattle.flow_forks.specs.Flows.{AreStarts}
use Rattle.flow_forks.proofs.whole.starts_of.Given as goal

abbrev pub invariant-loop-at : goal.invariant-loop-at
invariant-loop-at l = record {
  known : IsKnown l.known l.forks.items;
  starts : AreStarts l.known.dialect l.known.unit.now l.at l.forks.items l.starts.items;
}
