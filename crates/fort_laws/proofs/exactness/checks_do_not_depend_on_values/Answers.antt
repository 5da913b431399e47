use Rattle.fort_laws.proofs.Exact.{checks_do_not_depend_on_values as law}
use Rattle.fort_laws.proofs.exactness.checks_do_not_depend_on_values.Goals as goal

pub returns : goal.returns
returns c = law
