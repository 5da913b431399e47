use Rattle.std.proofs.Common.{refl}
use Rattle.walk_facts.proofs.facts.take_true.Goals as goal

pub returns-clause-did : goal.returns-clause-did
returns-clause-did c p i u = record { is = c.in_ok-take.ensures.met; gives = refl }
