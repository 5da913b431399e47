use Rattle.run_code.proofs.Before.{code_stands_before as law}
use Rattle.run_code.proofs.code_stands_before.Goals as goal

pub returns : goal.returns
returns c = law
