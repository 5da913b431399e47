use Rattle.run_ranks.proofs.Plain.{tests_keep}
use Rattle.run_ranks.proofs.laws.tests_keep_room.Goals as goal

pub returns : goal.returns
returns c = tests_keep
