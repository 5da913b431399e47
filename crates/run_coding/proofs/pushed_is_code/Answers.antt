use Rattle.run_coding.proofs.Meant as lemma
use Rattle.run_coding.proofs.pushed_is_code.Goals as goal

pub returns : goal.returns
returns c = lemma.pushed_is_code
