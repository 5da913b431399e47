use Rattle.start_terms.proofs.StartLaws.{started_are_at_start as law}
use Rattle.start_terms.proofs.laws.started_are_at_start.Goals as goal

pub returns : goal.returns
returns c = law
