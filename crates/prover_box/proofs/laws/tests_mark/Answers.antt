use Rattle.prover_box.proofs.Enough.{marked_by_tests}
use Rattle.prover_box.proofs.laws.tests_mark.Goals as goal

pub returns : goal.returns
returns c = marked_by_tests
