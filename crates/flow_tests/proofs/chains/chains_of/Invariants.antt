use Rattle.flow_tests.specs.Tests.{AreChains}
use Rattle.flow_tests.proofs.chains.chains_of.Given as goal

abbrev pub invariant-loop-at : goal.invariant-loop-at
invariant-loop-at l = AreChains l.unit l.at l.chains.forks.items l.chains.behind.items l.chains.over.items
