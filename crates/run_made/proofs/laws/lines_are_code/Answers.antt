use Rattle.run_made.proofs.Standing as lemma
use Rattle.run_made.proofs.laws.lines_are_code.Goals as goal

pub returns : goal.returns
returns c = lemma.lines_are_code c.stmt_pushed_is_code.ensures
