use Rattle.run_code.proofs.Long.{code_is_so_long as law}
use Rattle.run_code.proofs.code_is_so_long.Goals as goal

pub returns : goal.returns
returns c = law
