use Rattle.formula.specs.Adding.{AreBodiesIn}
use Rattle.term_rows.proofs.worths.put_answers.Given as goal

abbrev pub invariant-loop-line : goal.invariant-loop-line
invariant-loop-line l = AreBodiesIn l.made.pool l.made.definitions
