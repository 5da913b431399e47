use Rattle.run_lines.proofs.Stood as lemma
use Rattle.run_lines.proofs.stmt_pushed_is_code.Goals as goal

pub returns : goal.returns
returns c = lemma.stmt_pushed_is_code
