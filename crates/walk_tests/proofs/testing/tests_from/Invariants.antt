use Rattle.walk_state.specs.Moments.{Follows}
use Rattle.walk_tests.proofs.Turns.{AreLeft}
use Rattle.walk_tests.proofs.testing.tests_from.Given as goal

abbrev pub invariant-loop-choice : goal.invariant-loop-choice
invariant-loop-choice l = record {
  on : Follows l.fn.walk l.walk;
  left : AreLeft l.at.flow.now.setting.now l.at.flow.now.graph.now.forks l.at.card l.choices l.fn.walk l.at.target l.walk l.target l.choice-index;
}
